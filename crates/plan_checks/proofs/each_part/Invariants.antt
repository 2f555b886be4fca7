-- `plan_checks::each_part` meets its contract: the first month with no hour of the reading, or with too many, is refused, at place 0. Assumes nothing.
use lib.ListN.{length}
use Rattle.plan_checks.specs.Handed.{of_span}
use Rattle.rules.proofs.Loops.{Looking}
use Rattle.rules.specs.Plan.{part_verdict}
use Rattle.plan_checks.proofs.each_part.Given as goal

abbrev pub invariant-loop-k : goal.invariant-loop-k
invariant-loop-k l = Looking (part_verdict (of_span l.a l.b l.hours)) (length l.hours) l.k
