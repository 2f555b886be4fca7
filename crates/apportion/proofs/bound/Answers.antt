-- `apportion::bound` meets its contract: none of those passed has more than the bits so far. Assumes nothing.
use native.Mathlib.Omega.{arith}
use Rattle.apportion.proofs.Thresholds.{bounded_start, bounded_next, bounded_end}
use Rattle.apportion.proofs.bound.Goals as goal

pub loop-i-init : goal.loop-i-init
loop-i-init c = bounded_start _ _

pub loop-i-preserved : goal.loop-i-preserved
loop-i-preserved c = bounded_next c.loop-i.invariant (omega arith) c.bits_of_both-bits.ensures

pub returns : goal.returns
returns c = bounded_end c.loop-i.invariant (omega arith)
