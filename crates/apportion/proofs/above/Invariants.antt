-- `apportion::above` meets its contract: what it counted so far, with those below i, makes the whole count. Assumes nothing.
use Rattle.apportion.proofs.Thresholds.{Counting}
use Rattle.apportion.proofs.above.Given as goal

abbrev pub invariant-loop-i : goal.invariant-loop-i
invariant-loop-i l = Counting l.rest l.n l.v l.over l.i
