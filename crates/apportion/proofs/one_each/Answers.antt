-- `apportion::one_each` meets its contract: the first i places hold what the first i get, which are those that come before the threshold and the cut. Assumes nothing.
use mathlib.Core.Path.{◌∙◌}
use native.Mathlib.Omega.{arith}
use Rattle.apportion.proofs.Arrays.{upto_start, upto_next, upto_end}
use Rattle.apportion.proofs.Thresholds.{gets}
use Rattle.rules.specs.Words.{at}
use Rattle.apportion.proofs.one_each.Goals as goal

pub overflow_sub-left : goal.overflow_sub-left
overflow_sub-left c = omega (arith, c.above.ensures, c.threshold-v.ensures.few)

pub loop-i-init : goal.loop-i-init
loop-i-init c = upto_start 0 _ _

pub loop-i-preserved : goal.loop-i-preserved
unfolding at
loop-i-preserved c =
    upto_next c.loop-i.invariant (omega arith) (omega arith)
    (c.comes_before.ensures
    ∙ gets c.threshold-v.ensures c.above.ensures c.cut-end.ensures (omega arith))

pub returns : goal.returns
returns c = upto_end c.loop-i.invariant (omega arith)
