-- `distribute::total` meets its contract: what it added is the sum so far, and no more than the whole. Assumes nothing.
use Rattle.rules.specs.Words.{at}
use Rattle.rules.proofs.Sums.{add_start, add_next, add_end, add_room}
use mathlib.Core.Path.{refl}
use native.Mathlib.Omega.{arith}
use Rattle.distribute.proofs.total.Goals as goal

pub loop-i-init : goal.loop-i-init
loop-i-init c = add_start _ _

pub overflow_add-all : goal.overflow_add-all
unfolding at
overflow_add-all c = omega (arith, add_room c.loop-i.invariant (omega arith) refl)

pub loop-i-preserved : goal.loop-i-preserved
unfolding at
loop-i-preserved c = add_next c.loop-i.invariant (omega arith) refl

pub returns : goal.returns
returns c = add_end c.loop-i.invariant (omega arith)
