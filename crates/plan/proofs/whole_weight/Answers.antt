-- `plan::whole_weight` meets its contract: the reading's hours are one slice of the joined curves (`Making`). Assumes nothing.
use mathlib.Core.Path.{refl}
use Rattle.plan.proofs.Making.{parts_of_it, ends_inside, few_weights, whole_weighs}
use native.Mathlib.Omega.{arith}
use Rattle.plan.proofs.whole_weight.Goals as goal

pub reading_hours-requires : goal.reading_hours-requires
reading_hours-requires c = parts_of_it _ _ _ c.args.curves.now c.requires

pub overflow_add-end : goal.overflow_add-end
overflow_add-end c = omega (arith, ends_inside c.args.a c.args.b c.args.hours.now c.args.curves.now c.requires refl c.reading_hours.ensures)

pub slice_bounds-total-end : goal.slice_bounds-total-end
slice_bounds-total-end c = omega (arith, ends_inside c.args.a c.args.b c.args.hours.now c.args.curves.now c.requires refl c.reading_hours.ensures)

pub total-requires : goal.total-requires
total-requires c = few_weights c.args.a c.args.b c.args.hours.now c.args.curves.now c.requires refl c.reading_hours.ensures

pub returns : goal.returns
returns c =
    whole_weighs c.args.a c.args.b c.args.hours.now c.args.curves.now c.requires
    refl c.reading_hours.ensures c.total.ensures
