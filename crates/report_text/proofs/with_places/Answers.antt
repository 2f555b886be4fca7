-- `report_text::with_places` meets its contract: the verdict that the numbers come with is the file's under the setting. Assumes nothing.
use Rattle.answer.proofs.Checks.{handed}
use Rattle.report_text.proofs.Making.{refused_figures, by_the_file}
use Rattle.report_text.proofs.with_places.Goals as goal

pub returns-in_err-made : goal.returns-in_err-made
returns-in_err-made c = refused_figures _ _ c.requires.accepted c.args.setting c.all_hours.ensures c.in_err-made.was (handed c.from_residual.ensures)

pub after_figures-requires : goal.after_figures-requires
after_figures-requires c = record { accepted = c.requires.accepted; numbers_of = c.all_hours.ensures.made _ c.in_ok-made.was }

pub returns : goal.returns
returns c = by_the_file _ _ c.requires.accepted c.args.setting c.all_hours.ensures c.in_ok-made.was c.after_figures.ensures
