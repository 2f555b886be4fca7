-- `report_text::has_room` meets its contract: the same comparisons. Assumes nothing.
use mathlib.Core.Path.{refl}
use Rattle.report_text.specs.Reporting.{rooms}
use Rattle.report_text.proofs.has_room.Goals as goal

pub returns : goal.returns
unfolding rooms
returns c = refl
