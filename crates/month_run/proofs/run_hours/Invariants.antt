-- `month_run::run_hours` meets its contract: of the hours that the walk has come past those of the run are written. Assumes nothing.
use Prim.Native.Nat.{◌-◌}
use lib.ListN.{length}
use Rattle.month_run.proofs.Going.{Going}
use Rattle.rules.specs.Month.{month_of}
use Rattle.month_run.proofs.run_hours.Given as goal

abbrev pub invariant-loop-walk : goal.invariant-loop-walk
invariant-loop-walk l = Going (month_of l.file) l.start (length l.initial.losses_wh) l.window l.walk l.distributed_wh l.periodised_wh l.differences_wh l.losses_wh

abbrev pub decreases-loop-walk : goal.decreases-loop-walk
decreases-loop-walk l = l.end - l.walk.t
