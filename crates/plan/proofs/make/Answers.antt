-- `plan::make` meets its contract: after k months the records of the k stand in their places (`Making`). Assumes nothing.
use Rattle.plan.proofs.Making.{from_of, to_of, record_made, made_start, month_ends, rises, part_ends, few_hours, before_small, made_next, made_all}
use native.Mathlib.Omega.{arith}
use mathlib.Core.Path.{refl}
use Rattle.rules.specs.Plan.{month_count}
use Rattle.rules.specs.Words.{at}
use Rattle.plan.proofs.make.Goals as goal

pub loop-k-init : goal.loop-k-init
loop-k-init c = rw c.no_reading-none.ensures (made_start _)

pub bounds-parties-k : goal.bounds-parties-k
unfolding month_count
bounds-parties-k c = omega (arith, c.requires.as_many_parties)

pub bounds-records-k : goal.bounds-records-k
unfolding month_count
bounds-records-k c = omega (arith, c.requires.weighed.few_months)

pub overflow_add-start : goal.overflow_add-start
unfolding month_count
overflow_add-start c = omega (arith, month_ends c.requires c.loop-k.invariant c.loop-k-test.true)

pub overflow_add-start-in-loop-k : goal.overflow_add-start-in-loop-k
unfolding month_count
overflow_add-start-in-loop-k c = omega (arith, month_ends c.requires c.loop-k.invariant c.loop-k-test.true)

pub offset_bounds-curves-start : goal.offset_bounds-curves-start
unfolding month_count
offset_bounds-curves-start c =
    omega (
      arith,
      rises c.requires c.loop-k.invariant c.loop-k-test.true (from_of _ _ _ _ _ _ _ c.part_from-from.ensures) (to_of _ _ _ _ _ _ _ c.part_to-to.ensures),
      part_ends c.requires c.loop-k.invariant c.loop-k-test.true (from_of _ _ _ _ _ _ _ c.part_from-from.ensures) (to_of _ _ _ _ _ _ _ c.part_to-to.ensures),
    )

pub slice_bounds-total-count : goal.slice_bounds-total-count
unfolding month_count
slice_bounds-total-count c = omega (arith, rises c.requires c.loop-k.invariant c.loop-k-test.true (from_of _ _ _ _ _ _ _ c.part_from-from.ensures) (to_of _ _ _ _ _ _ _ c.part_to-to.ensures))

pub slice_bounds-total-start : goal.slice_bounds-total-start
unfolding month_count
slice_bounds-total-start c = omega (arith, rises c.requires c.loop-k.invariant c.loop-k-test.true (from_of _ _ _ _ _ _ _ c.part_from-from.ensures) (to_of _ _ _ _ _ _ _ c.part_to-to.ensures))

pub slice_bounds-total-end : goal.slice_bounds-total-end
unfolding month_count
slice_bounds-total-end c = omega (arith, part_ends c.requires c.loop-k.invariant c.loop-k-test.true (from_of _ _ _ _ _ _ _ c.part_from-from.ensures) (to_of _ _ _ _ _ _ _ c.part_to-to.ensures))

pub total-before-requires : goal.total-before-requires
unfolding month_count
total-before-requires c = few_hours c.requires c.loop-k.invariant c.loop-k-test.true (from_of _ _ _ _ _ _ _ c.part_from-from.ensures) (to_of _ _ _ _ _ _ _ c.part_to-to.ensures)

pub overflow_add-before : goal.overflow_add-before
unfolding month_count
overflow_add-before c = omega (arith, before_small c.requires c.loop-k.invariant c.loop-k-test.true (from_of _ _ _ _ _ _ _ c.part_from-from.ensures) (to_of _ _ _ _ _ _ _ c.part_to-to.ensures) c.total-before.ensures)

pub overflow_add-start-in-loop-k-2 : goal.overflow_add-start-in-loop-k-2
unfolding month_count
overflow_add-start-in-loop-k-2 c = omega (arith, month_ends c.requires c.loop-k.invariant c.loop-k-test.true)

pub loop-k-preserved : goal.loop-k-preserved
unfolding at month_count
loop-k-preserved c =
    made_next c.requires c.loop-k.invariant c.loop-k-test.true (from_of _ _ _ _ _ _ _ c.part_from-from.ensures) (to_of _ _ _ _ _ _ _ c.part_to-to.ensures) c.total-before.ensures
    (record_made _ _ _ _ _ _ _ c.part_from-from.ensures c.part_to-to.ensures c.loop-k.invariant.before_is c.requires.whole_is)
    refl

pub returns : goal.returns
unfolding month_count
returns c = made_all _ c.loop-k.invariant (omega arith) refl
