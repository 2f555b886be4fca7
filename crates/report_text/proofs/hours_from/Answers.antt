-- `report_text::hours_from` meets its contract: the lines of the hours passed stand one after the other. Assumes nothing.
use native.Mathlib.Nat.{le_refl}
use native.Mathlib.Omega.{arith}
use Rattle.report_text.proofs.HourLines.{few}
use Rattle.report_text.specs.Lines.{line_from}
use Rattle.text.proofs.Puts.{put_length}
use Rattle.text.proofs.Runs.{go_start, go_room, go_next, go_end}
use Rattle.report_text.proofs.hours_from.Goals as goal

pub loop-k-init : goal.loop-k-init
loop-k-init c = go_start _ _ _ _ _

pub overflow_add-start : goal.overflow_add-start
overflow_add-start c = record { fits = omega (arith, few c.requires.known, c.requires.inside.inside) }

pub one_hour-end-requires : goal.one_hour-end-requires
one_hour-end-requires c = record {
  known = c.requires.known;
  inside = record { inside = omega (arith, c.requires.inside.inside) };
  hour_room_in_bounds = go_room c.loop-k.invariant (omega arith) _ (le_refl _) c.requires.hour_room_in_bounds;
}

pub loop-k-preserved : goal.loop-k-preserved
unfolding line_from
loop-k-preserved c = go_next c.loop-k.invariant (omega arith) c.one_hour-end.ensures

pub shape_of-out : goal.shape_of-out
shape_of-out c = put_length c.loop-k.invariant.put

pub returns : goal.returns
returns c = go_end c.loop-k.invariant (omega arith) _ (le_refl _)
