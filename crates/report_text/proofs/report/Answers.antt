-- `report_text::report` meets its contract: refused in the reading, or what the file that was read comes to. Assumes nothing.
use Rattle.answer.proofs.Checks.{handed}
use Rattle.file_sections.proofs.Told.{not_read, is_read}
use Rattle.setting.specs.declared.Prices.TheVariants.{Optional}
use Rattle.report_text.proofs.Reports.{refused_month}
use Rattle.report_text.proofs.report.Goals as goal

pub after_reading-requires : goal.after_reading-requires
after_reading-requires c = is_read Optional _ c.read.ensures c.in_ok-s.was

pub returns-in_err-s : goal.returns-in_err-s
returns-in_err-s c = refused_month _ _ _ _ (not_read Optional c.args.setting _ c.read.ensures c.in_err-s.was) (handed c.from_residual.ensures)
