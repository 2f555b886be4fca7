-- `periodise::add` meets its contract: the loop keeps the remainder of E x (weights so far), the figures so far and the hours ahead as they were, and each
-- hour's figure is what it held and the growth (`Adding`). Assumes nothing.
use mathlib.Core.Path.{◌≡◌}
use Prim.Native.Nat.{max}
use native.Mathlib.Omega.{arith}
use Rattle.rules.specs.Words.{at}
use Rattle.periodise.proofs.Spreading.{run_inside, add_start, in_part, add_asks, add_fits, add_next, add_end}
use Rattle.periodise.proofs.add.Goals as goal

pub overflow_add-s : goal.overflow_add-s
overflow_add-s c = omega (arith, run_inside c.requires.part)

pub product_mod-left-requires : goal.product_mod-left-requires
product_mod-left-requires c =
    let d : c.divisor_of-divisor.result ≡ max c.args.s.whole 1 = c.divisor_of-divisor.ensures in
    omega (arith, run_inside c.requires.part, c.requires.part.spread)

pub loop-i-init : goal.loop-i-init
loop-i-init c = add_start c.requires.part c.divisor_of-divisor.ensures c.product_mod-left.ensures

pub overflow_add-skip : goal.overflow_add-skip
overflow_add-skip c = omega (arith, in_part c.requires.part c.loop-i.invariant c.loop-i-test.true)

pub offset_bounds-part-skip : goal.offset_bounds-part-skip
offset_bounds-part-skip c = omega (arith, in_part c.requires.part c.loop-i.invariant c.loop-i-test.true)

pub bounds-part-skip : goal.bounds-part-skip
bounds-part-skip c = in_part c.requires.part c.loop-i.invariant c.loop-i-test.true

pub hour_of-t-requires : goal.hour_of-t-requires
unfolding at
hour_of-t-requires c = add_asks c.requires.part c.loop-i.invariant c.loop-i-test.true

pub overflow_add-out : goal.overflow_add-out
unfolding at
overflow_add-out c = omega (arith, add_fits c.requires.part c.loop-i.invariant c.loop-i-test.true c.hour_of-t.ensures c.requires.room)

pub loop-i-preserved : goal.loop-i-preserved
unfolding at
loop-i-preserved c = add_next c.requires.part c.loop-i.invariant c.loop-i-test.true c.hour_of-t.ensures

pub returns : goal.returns
returns c = add_end c.requires.part c.loop-i.invariant c.loop-i-test.false
