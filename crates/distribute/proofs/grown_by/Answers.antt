-- `distribute::grown_by` meets its contract: the first i places hold the first i sums. Assumes nothing.
use Rattle.apportion.proofs.Arrays.{upto_start, upto_next, upto_end}
use Rattle.distribute.specs.Parts.{grown_by}
use Rattle.rules.specs.Words.{at}
use mathlib.Core.Path.{refl}
use native.Mathlib.Omega.{arith}
use Rattle.distribute.proofs.grown_by.Goals as goal

pub loop-i-init : goal.loop-i-init
loop-i-init c = upto_start 0 _ _

pub overflow_mul-grown : goal.overflow_mul-grown
unfolding grown_by at
overflow_mul-grown c = omega (arith, c.requires.1 c.loop-i.i (omega arith))

pub overflow_add-grown : goal.overflow_add-grown
unfolding grown_by at
overflow_add-grown c = omega (arith, c.requires.1 c.loop-i.i (omega arith))

pub loop-i-preserved : goal.loop-i-preserved
unfolding grown_by at
loop-i-preserved c = upto_next c.loop-i.invariant (omega arith) (omega arith) (refl)

pub returns : goal.returns
returns c = upto_end c.loop-i.invariant (omega arith)
