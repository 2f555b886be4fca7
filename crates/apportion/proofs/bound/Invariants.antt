-- `apportion::bound` meets its contract: none of those passed has more than the bits so far. Assumes nothing.
use Rattle.apportion.proofs.Thresholds.{Bounded}
use Rattle.apportion.proofs.bound.Given as goal

abbrev pub invariant-loop-i : goal.invariant-loop-i
invariant-loop-i l = Bounded l.rest l.n l.bits l.i
