-- `report_text::hours_from` meets its contract: the lines of the hours passed stand one after the other. Assumes nothing.
use Rattle.report_text.specs.Lines.{line_from}
use Rattle.report_lines.specs.Rooms.{hour_room}
use Rattle.rules.specs.Month.{month_of}
use Rattle.text.proofs.Runs.{Going}
use Rattle.report_text.proofs.hours_from.Given as goal

abbrev pub invariant-loop-k : goal.invariant-loop-k
invariant-loop-k l = Going (line_from (month_of l.file) l.start) l.hours hour_room l.initial.out l.place l.out l.end l.k
