-- `apportion::cut` meets its contract: as long as fewer than `spare` that have just v were passed, each number passed is below the cut. Assumes nothing.
use Rattle.apportion.proofs.Thresholds.{Cutting}
use Rattle.apportion.proofs.cut.Given as goal

abbrev pub invariant-loop-i : goal.invariant-loop-i
invariant-loop-i l = Cutting l.rest l.n l.v l.spare l.given l.i
