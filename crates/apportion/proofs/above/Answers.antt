-- `apportion::above` meets its contract: what it counted so far, with those below i, makes the whole count. Assumes nothing.
use native.Mathlib.Omega.{arith}
use Rattle.apportion.proofs.Thresholds.{count_start, count_next, count_end}
use Rattle.apportion.proofs.above.Goals as goal

pub loop-i-init : goal.loop-i-init
loop-i-init c = count_start _ _ _

pub overflow_add-over : goal.overflow_add-over
overflow_add-over c = omega (arith, (count_next c.loop-i.invariant (omega arith) c.below-over.ensures).small)

pub loop-i-preserved : goal.loop-i-preserved
loop-i-preserved c = count_next c.loop-i.invariant (omega arith) c.below-over.ensures

pub returns : goal.returns
returns c = count_end c.loop-i.invariant (omega arith)
