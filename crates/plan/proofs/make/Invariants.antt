-- `plan::make` meets its contract: after k months the records of the k stand in their places (`Making`). Assumes nothing.
use Rattle.plan.proofs.Making.{Made}
use Rattle.plan_checks.specs.Handed.{handed}
use Rattle.plan.proofs.make.Given as goal

abbrev pub invariant-loop-k : goal.invariant-loop-k
invariant-loop-k l = Made (handed l.e_wh l.a l.b l.parties l.hours l.curves) l.records l.before l.start l.k
