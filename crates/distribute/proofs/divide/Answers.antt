-- `distribute::divide` meets its contract: the first i places hold the first i quotients and remainders. Assumes nothing.
use mathlib.Core.Path.{refl}
use native.Mathlib.Omega.{arith}
use Rattle.distribute.specs.Parts.{quotient_by, rest_by}
use Rattle.distribute.proofs.Dividing.{divide_start, divide_next, divide_end}
use Rattle.rules.specs.Words.{at}
use Rattle.distribute.proofs.divide.Goals as goal

pub loop-i-init : goal.loop-i-init
loop-i-init c = divide_start _ _ _

pub loop-i-preserved : goal.loop-i-preserved
unfolding quotient_by rest_by at
loop-i-preserved c = divide_next c.loop-i.invariant (omega arith) (omega arith) refl refl

pub returns : goal.returns
returns c = divide_end c.loop-i.invariant (omega arith)
