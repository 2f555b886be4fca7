-- `apportion::cut` meets its contract: as long as fewer than `spare` that have just v were passed, each number passed is below the cut. Assumes nothing.
use native.Mathlib.Omega.{arith}
use Rattle.apportion.proofs.Thresholds.{cut_start, cut_stops, cut_next, cut_end}
use Rattle.apportion.proofs.cut.Goals as goal

pub loop-i-init : goal.loop-i-init
loop-i-init c = cut_start _ _ _ _

pub returns-then-given-spare : goal.returns-then-given-spare
returns-then-given-spare c = cut_stops c.loop-i.invariant c.if-given-spare.true

pub overflow_add-given : goal.overflow_add-given
overflow_add-given c = omega (arith, (cut_next c.loop-i.invariant (omega arith) c.same-given.ensures c.if-given-spare.false).small)

pub loop-i-preserved : goal.loop-i-preserved
loop-i-preserved c = cut_next c.loop-i.invariant (omega arith) c.same-given.ensures c.if-given-spare.false

pub returns : goal.returns
returns c = cut_end c.loop-i.invariant (omega arith)
