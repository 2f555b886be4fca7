-- `report_text::after_reading` meets its contract: the places are enough for every month. Assumes nothing.
use native.Mathlib.Omega.{arith}
use Rattle.month_prepare.proofs.Preparing.{so_many, few_hours, few_refixed}
use Rattle.rules.specs.Limits.{most_hours}
use borrow.Author.Rules.{rules}
use Rattle.report_text.proofs.after_reading.Goals as goal

pub slice_bounds-fixed_wh-end : goal.slice_bounds-fixed_wh-end
slice_bounds-fixed_wh-end c = omega (arith, so_many most_hours c.hour_places-fixed_wh.ensures, few_hours _ _ c.requires)

pub slice_bounds-refixed_wh-end : goal.slice_bounds-refixed_wh-end
slice_bounds-refixed_wh-end c = omega (arith, so_many most_hours c.hour_places-refixed_wh.ensures, few_refixed _ _ c.requires)

pub slice_bounds-curve-end : goal.slice_bounds-curve-end
slice_bounds-curve-end c = omega (arith, so_many most_hours c.hour_places-curve.ensures, few_hours _ _ c.requires)

pub slice_bounds-distributed_wh-end : goal.slice_bounds-distributed_wh-end
slice_bounds-distributed_wh-end c = omega (arith, few_hours _ _ c.requires)

pub slice_bounds-periodised_wh-end : goal.slice_bounds-periodised_wh-end
slice_bounds-periodised_wh-end c = omega (arith, few_hours _ _ c.requires)

pub with_places-requires : goal.with_places-requires
with_places-requires c =
    record {
      accepted = c.requires;
      fixed_size = search rules;
      refixed_size = search rules;
      curve_size = search rules;
      distributed_size = search rules;
      periodised_size = search rules;
    }
