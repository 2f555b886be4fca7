-- `month_run::run_hours` meets its contract: of the hours that the walk has come past those of the run are written. Assumes nothing.
use native.Mathlib.Omega.{arith}
use Rattle.month_run.proofs.Going.{goes, residual_here_lem, few_here, in_run, running_here, step_asked, one_on, hour_asked, goes_on, ends}
use Rattle.month_walk.proofs.Bounds.{few_hours}
use Rattle.month_walk.proofs.Walking.{walk_window, step_goes_on}
use Rattle.month_run.proofs.run_hours.Goals as goal

pub overflow_add-end : goal.overflow_add-end
overflow_add-end c = omega (arith, c.requires.run_lent.inside, few_hours _ c.requires.run_known.month.windows.judged)

pub loop-walk-init : goal.loop-walk-init
loop-walk-init c = rw c.begin-walk.ensures (goes c.requires.run_known c.requires.beginning c.requires.window_len c.requires.run_lent)

pub step-requires : goal.step-requires
step-requires c = record { month_known = c.requires.run_known.month; step_asked = step_asked c.requires.run_known c.requires.run_lent.inside c.loop-walk.invariant (omega arith) }

pub unwrap-walk-requires : goal.unwrap-walk-requires
unwrap-walk-requires c = step_goes_on c.step.ensures c.requires.run_known.none_refuses

pub offset_bounds-applied_wh-t : goal.offset_bounds-applied_wh-t
offset_bounds-applied_wh-t c = omega (arith, few_here c.requires.run_known c.requires.run_lent.inside c.loop-walk.invariant (omega arith))

pub bounds-applied_wh-t : goal.bounds-applied_wh-t
bounds-applied_wh-t c =
    residual_here_lem c.requires.run_known c.requires.run_lent.inside
    c.loop-walk.invariant
    (omega arith)

pub run_hour-requires : goal.run_hour-requires
run_hour-requires c =
    record {
      hour_asked = hour_asked c.requires.run_known c.requires.run_lent.inside c.loop-walk.invariant (omega arith) c.step.ensures c.unwrap-walk.ensures;
      t_bound = in_run c.requires.run_known c.requires.run_lent.inside c.loop-walk.invariant (omega arith);
      running = running_here c.requires.run_known c.requires.run_lent.inside c.loop-walk.invariant (omega arith);
    }

pub loop-walk-smaller : goal.loop-walk-smaller
loop-walk-smaller c = omega (arith, one_on c.requires.run_known c.requires.run_lent.inside c.loop-walk.invariant (omega arith) c.step.ensures c.unwrap-walk.ensures)

pub loop-walk-preserved : goal.loop-walk-preserved
loop-walk-preserved c = goes_on c.requires.run_known c.requires.run_lent.inside c.loop-walk.invariant (omega arith) c.step.ensures c.unwrap-walk.ensures c.run_hour.ensures

pub returns : goal.returns
returns c = record { run = ends c.requires.run_known c.loop-walk.invariant (omega arith); window = walk_window c.loop-walk.invariant.walked (omega (arith, c.requires.run_lent.some)) }
