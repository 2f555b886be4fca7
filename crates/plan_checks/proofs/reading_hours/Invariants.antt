-- `plan_checks::reading_hours` meets its contract: what was added so far is the hours of the parts before. Assumes nothing.
use lib.ListN.{length}
use Rattle.plan_checks.proofs.Checking.{Counting}
use Rattle.plan_checks.specs.Handed.{of_span}
use Rattle.rules.specs.Plan.{part_hours}
use Rattle.plan_checks.proofs.reading_hours.Given as goal

abbrev pub invariant-loop-k : goal.invariant-loop-k
invariant-loop-k l = Counting (part_hours (of_span l.a l.b l.hours)) (length l.hours) l.sum l.k
