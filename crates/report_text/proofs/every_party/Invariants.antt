-- `report_text::every_party` meets its contract: the lines of the parties passed stand one after the other. Assumes nothing.
use Rattle.report_lines.specs.Rooms.{distances_room}
use Rattle.rules.specs.HoursReport.{distances_line}
use Rattle.rules.specs.Month.{month_of}
use Rattle.text.proofs.Runs.{Going}
use Rattle.report_text.proofs.every_party.Given as goal

abbrev pub invariant-loop-i : goal.invariant-loop-i
invariant-loop-i l = Going (distances_line (month_of l.file)) l.n distances_room l.initial.out 0 l.out l.end l.i
