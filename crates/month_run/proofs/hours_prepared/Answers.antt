-- `month_run::hours_prepared` meets its contract: the hours are walked with what was made before them. Assumes nothing.
use mathlib.Core.Path.{refl}
use Rattle.month_prepare.proofs.Preparing.{fixed_enough, refixed_enough, curve_enough, beginnings_enough, as_lent}
use Rattle.month_walk.proofs.Chain.{month_known, beginning}
use borrow.Author.Rules.{rules}
use Rattle.month_run.proofs.hours_prepared.Goals as goal

pub slice_bounds-applied-end : goal.slice_bounds-applied-end
slice_bounds-applied-end c = fixed_enough c.requires.accepted c.requires.placed

pub slice_bounds-applied-end-2 : goal.slice_bounds-applied-end-2
slice_bounds-applied-end-2 c = refixed_enough c.requires.accepted c.requires.placed

pub slice_bounds-run_made-end : goal.slice_bounds-run_made-end
slice_bounds-run_made-end c = curve_enough c.requires.accepted c.requires.placed

pub slice_bounds-run_made-end-2 : goal.slice_bounds-run_made-end-2
slice_bounds-run_made-end-2 c = beginnings_enough c.requires.accepted c.requires.placed

pub run_made-requires : goal.run_made-requires
run_made-requires c = let made = as_lent c.requires.accepted c.requires.placed in record { month_known = month_known _ _ c.requires.accepted made refl c.applied-applied_wh.ensures; beginning = beginning _ _ c.requires.accepted made; window_len = search rules }

pub returns : goal.returns
returns c = c.run_made.ensures
