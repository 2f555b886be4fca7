-- `month_run::hours` meets its contract: refused in the reading, or what the month that was read comes to. Assumes nothing.
use Rattle.answer.proofs.Checks.{handed}
use Rattle.setting.specs.declared.Prices.TheVariants.{Optional}
use Rattle.file_sections.proofs.Told.{not_read, is_read}
use Rattle.month_run.proofs.Answers.{refused_file}
use Rattle.month_run.proofs.hours.Goals as goal

pub hours_accepted-requires : goal.hours_accepted-requires
hours_accepted-requires c = is_read Optional _ c.read.ensures c.in_ok-s.was

pub returns-in_err-s : goal.returns-in_err-s
returns-in_err-s c = refused_file _ _ _ _ _ _ _ _ (handed c.from_residual.ensures) (not_read Optional c.args.setting _ c.read.ensures c.in_err-s.was)

pub returns : goal.returns
returns c = c.hours_accepted.ensures
