-- `plan_checks::each_month` meets its contract: the first month of another length is refused, at place 0. Assumes nothing.
use lib.ListN.{length}
use Rattle.plan_checks.specs.Handed.{of_span}
use Rattle.rules.proofs.Loops.{Looking}
use Rattle.rules.specs.Plan.{hours_verdict}
use Rattle.plan_checks.proofs.each_month.Given as goal

abbrev pub invariant-loop-h : goal.invariant-loop-h
invariant-loop-h l = Looking (hours_verdict (of_span 0 0 l.hours)) (length l.hours) l.h-index
