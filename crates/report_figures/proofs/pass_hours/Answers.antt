-- `report_figures::pass_hours` meets its contract: the hours that the walk has come past are passed. Assumes nothing.
use native.Mathlib.Omega.{arith}
use Rattle.answer.proofs.Checks.{handed}
use Rattle.month_walk.proofs.Walking.{some_hours, walk_window}
use Rattle.report_figures.proofs.Passing.{goes, step_asked, stops, hour_asked, goes_on, ends}
use Rattle.report_figures.proofs.pass_hours.Goals as goal

pub loop-walk-init : goal.loop-walk-init
loop-walk-init c = rw (c.none-distances.ensures, c.begin-walk.ensures) (goes c.requires.month_known c.requires.beginning c.requires.window_len c.requires.sums_lent)

pub step-requires : goal.step-requires
step-requires c = record { month_known = c.requires.month_known; step_asked = step_asked c.requires.month_known c.loop-walk.invariant (omega arith) }

pub returns-in_err-walk : goal.returns-in_err-walk
returns-in_err-walk c =
    record { passed = stops c.requires.month_known c.loop-walk.invariant (omega arith) c.step.ensures c.in_err-walk.was (handed c.from_residual.ensures) _ _; window = c.step.ensures.window_is }

pub pass_hour-distances-requires : goal.pass_hour-distances-requires
pass_hour-distances-requires c = hour_asked c.requires.month_known c.loop-walk.invariant (omega arith) c.step.ensures c.in_ok-walk.was

pub loop-walk-smaller : goal.loop-walk-smaller
loop-walk-smaller c = omega (arith, (c.step.ensures.on _ c.in_ok-walk.was).one_on)

pub loop-walk-preserved : goal.loop-walk-preserved
loop-walk-preserved c = goes_on c.requires.month_known c.loop-walk.invariant (omega arith) c.step.ensures c.in_ok-walk.was c.pass_hour-distances.ensures

pub returns : goal.returns
returns c = record { passed = ends c.requires.month_known c.loop-walk.invariant (omega arith); window = walk_window c.loop-walk.invariant.walked (omega (arith, some_hours c.requires.month_known)) }
