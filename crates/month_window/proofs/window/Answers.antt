-- `month_window::window` meets its contract: after j readings each place has the figures of the j (`Windows`). Assumes nothing.
use mathlib.Core.Path.{◌∙◌}
use native.Mathlib.Omega.{arith}
use Rattle.month_window.proofs.Windows.{counted_start, taken, counted_next, counted_end}
use Rattle.file_fields.specs.Fields.{ReadingPlaced}
use Rattle.file_fields.proofs.Readers.{short_file, reading_asked, next_place, next_within}
use Rattle.month_series.proofs.OneReading.{none_before, one_further}
use Rattle.month_window.proofs.window.Goals.{In-loop-j}
use Rattle.month_window.proofs.window.Goals as goal

-- where the reading stands
here : (c : In-loop-j) → ReadingPlaced c.args.file.now c.args.s c.loop-j.j c.loop-j.place
here c = record { accepted = c.requires.accepted; number = omega arith; is = c.loop-j.invariant.1 }

pub loop-j-init : goal.loop-j-init
loop-j-init c = (counted_start c.requires (c.fill.ensures.after (λ y e. e)), none_before _ _)

pub reading-x-requires : goal.reading-x-requires
reading-x-requires c = reading_asked _ _ _ _ (here c)

pub add_reading-requires : goal.add_reading-requires
add_reading-requires c = taken c.requires c.loop-j.invariant.0 (here (goal.at.add_reading-requires c).In-loop-j) c.reading-x.ensures

pub overflow_add-place : goal.overflow_add-place
overflow_add-place c = omega (arith, next_within _ _ _ _ (here (goal.at.overflow_add-place c).In-loop-j) c.reading-x.ensures c.reading_size-place.ensures, short_file c.args.file.now c.args.s c.requires.accepted)

pub loop-j-preserved : goal.loop-j-preserved
loop-j-preserved c = (
  counted_next c.requires c.loop-j.invariant.0 (here (goal.at.loop-j-preserved c).In-loop-j) c.reading-x.ensures c.add_reading.ensures,
  next_place _ _ _ _ (here (goal.at.loop-j-preserved c).In-loop-j) c.reading-x.ensures c.reading_size-place.ensures ∙ one_further _ _ _,
)

pub returns : goal.returns
returns c = counted_end c.requires c.loop-j.invariant.0 (omega arith)
