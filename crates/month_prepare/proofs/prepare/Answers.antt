-- `month_prepare::prepare` meets its contract: the places are enough for every month, and what was lent stands first in them. Assumes nothing.
use native.Mathlib.Omega.{arith}
use Rattle.rules.specs.Limits.{most_hours}
use Rattle.answer.proofs.Checks.{handed}
use Rattle.month_prepare.proofs.Preparing.{so_many, few_hours, few_refixed, stands, none_prepared, prepared}
use borrow.Author.Rules.{rules}
use Rattle.month_prepare.proofs.prepare.Goals as goal

pub slice_bounds-fixed_wh-end : goal.slice_bounds-fixed_wh-end
slice_bounds-fixed_wh-end c = omega (arith, so_many most_hours c.hour_places-fixed_wh.ensures, few_hours _ _ c.requires)

pub slice_bounds-refixed_wh-end : goal.slice_bounds-refixed_wh-end
slice_bounds-refixed_wh-end c = omega (arith, so_many most_hours c.hour_places-refixed_wh.ensures, few_refixed _ _ c.requires)

pub slice_bounds-curve-end : goal.slice_bounds-curve-end
slice_bounds-curve-end c = omega (arith, so_many most_hours c.hour_places-curve.ensures, few_hours _ _ c.requires)

pub make-requires : goal.make-requires
make-requires c =
    record {
      accepted = c.requires;
      fixed_size = search rules;
      refixed_size = search rules;
      curve_size = search rules;
      beginnings_size = search rules;
    }

pub returns-in_err-made : goal.returns-in_err-made
returns-in_err-made c = none_prepared _ _ c.requires c.make.ensures c.in_err-made.was (handed c.from_residual.ensures)

pub returns : goal.returns
returns c =
    prepared _ _ c.requires c.make.ensures c.in_ok-made.was
    (stands _ _ _ c.hour_places-fixed_wh.ensures (few_hours _ _ c.requires) (search rules))
    (stands _ _ _ c.hour_places-refixed_wh.ensures (few_refixed _ _ c.requires) (search rules))
    (stands _ _ _ c.hour_places-curve.ensures (few_hours _ _ c.requires) (search rules))
    (stands _ _ _ c.beginning_places-beginnings.ensures (omega (arith, few_hours _ _ c.requires)) (search rules))
