-- `report_text::one_hour` meets its contract: the columns are the hour's figures. Assumes nothing.
use mathlib.Core.Path.{◌∙◌}
use native.Mathlib.Omega.{arith}
use lib.IntN.{pos}
use lib.ListN.{get_or}
use mir.Facts.{to_z-of_z}
use mir.Syntax.{w64}
use mir.Val.{SFits}
use Rattle.report_text.proofs.HourLines.{short, in_fixed, in_applied, in_curve, in_distributed, in_periodised, hour_asked, in_limit, hour_text_lem}
use Rattle.text.proofs.Puts.{put_as}
use borrow.Author.Rules.{rules}
use Rattle.report_text.proofs.one_hour.Goals as goal

pub fixed_status-fixed-requires : goal.fixed_status-fixed-requires
fixed_status-fixed-requires c = hour_asked c.requires.known c.requires.inside

pub applied_status-applied-requires : goal.applied_status-applied-requires
applied_status-applied-requires c = hour_asked c.requires.known c.requires.inside

pub offset_bounds-applied_wh-t : goal.offset_bounds-applied_wh-t
offset_bounds-applied_wh-t c = record { fits = omega (arith, short c.requires.known c.requires.inside) }

pub bounds-applied_wh-t : goal.bounds-applied_wh-t
bounds-applied_wh-t c = in_applied c.requires.known c.requires.inside

pub offset_bounds-periodised_wh-t : goal.offset_bounds-periodised_wh-t
offset_bounds-periodised_wh-t c = record { fits = omega (arith, short c.requires.known c.requires.inside) }

pub bounds-periodised_wh-t : goal.bounds-periodised_wh-t
bounds-periodised_wh-t c = in_periodised c.requires.known c.requires.inside

pub grid_loss-loss_wh-requires : goal.grid_loss-loss_wh-requires
grid_loss-loss_wh-requires c = in_limit c.requires.known c.requires.inside

pub offset_bounds-fixed_wh-t : goal.offset_bounds-fixed_wh-t
offset_bounds-fixed_wh-t c = record { fits = omega (arith, short c.requires.known c.requires.inside) }

pub bounds-fixed_wh-t : goal.bounds-fixed_wh-t
bounds-fixed_wh-t c = omega (arith, in_fixed c.requires.known c.requires.inside, in_applied c.requires.known c.requires.inside)

pub offset_bounds-curve-t : goal.offset_bounds-curve-t
offset_bounds-curve-t c = record { fits = omega (arith, short c.requires.known c.requires.inside) }

pub bounds-curve-t : goal.bounds-curve-t
bounds-curve-t c = in_curve c.requires.known c.requires.inside

pub offset_bounds-distributed_wh-t : goal.offset_bounds-distributed_wh-t
offset_bounds-distributed_wh-t c = record { fits = omega (arith, short c.requires.known c.requires.inside) }

pub bounds-distributed_wh-t : goal.bounds-distributed_wh-t
bounds-distributed_wh-t c = in_distributed c.requires.known c.requires.inside

pub returns : goal.returns
returns c =
    let d : SFits w64 (get_or c.args.distributed_wh.now c.args.t (pos 0)) = search rules in
    let l : SFits w64 c.grid_loss-loss_wh.result = search rules in
    record {
      put =
          put_as
          (hour_text_lem c.requires.known c.requires.inside c.fixed_status-fixed.ensures c.applied_status-applied.ensures
          (to_z-of_z d) (to_z-of_z l ∙ c.grid_loss-loss_wh.ensures))
          c.hour_line.ensures.text;
      within = c.hour_line.ensures.within;
    }
