-- `report_figures::all_hours` meets its contract: what is made before the hours, and the hours. Assumes nothing.
use Prim.Native.Nat.{suc, ◌+◌}
use native.Mathlib.Omega.{arith}
use Rattle.answer.proofs.Checks.{handed}
use Rattle.month_prepare.proofs.Preparing.{so_many, few_hours}
use Rattle.report_figures.proofs.Making.{sums_lent, not_made, part_enough, made_again, none_refused}
use Rattle.rules.specs.Limits.{most_hours}
use borrow.Author.Rules.{rules}
use Rattle.report_figures.proofs.all_hours.Goals as goal

pub slice_bounds-beginnings-end : goal.slice_bounds-beginnings-end
slice_bounds-beginnings-end c = omega (arith, so_many (suc most_hours) c.beginning_places-beginnings.ensures, few_hours _ _ c.requires.accepted)

pub make-requires : goal.make-requires
make-requires c =
    record {
      accepted = c.requires.accepted;
      fixed_size = c.requires.fixed_size;
      refixed_size = c.requires.refixed_size;
      curve_size = c.requires.curve_size;
      beginnings_size = search rules;
    }

pub returns-in_err-made : goal.returns-in_err-made
returns-in_err-made c = not_made c.make.ensures c.in_err-made.was (handed c.from_residual.ensures)

pub slice_bounds-pass_made-end : goal.slice_bounds-pass_made-end
slice_bounds-pass_made-end c =
    part_enough c.make.ensures (c.args.s.heading.hours + 1)
    c.beginning_places-beginnings.result (so_many (suc most_hours) c.beginning_places-beginnings.ensures) (omega (arith, few_hours _ _ c.requires.accepted)) c.beginnings-2-1.given

pub pass_made-requires : goal.pass_made-requires
pass_made-requires c = record {
  accepted = c.requires.accepted;
  made_so =
      made_again c.make.ensures (c.args.s.heading.hours + 1)
      c.beginning_places-beginnings.result (so_many (suc most_hours) c.beginning_places-beginnings.ensures) (omega (arith, few_hours _ _ c.requires.accepted)) c.beginnings-2-1.given c.in_ok-made.was;
  sums_lent = sums_lent c.requires;
}

pub returns : goal.returns
returns c =
    c.pass_made.ensures.under _ (none_refused c.make.ensures c.in_ok-made.was)
