-- `report_figures::pass_hours` meets its contract: the hours that the walk has come past are passed. Assumes nothing.
use Prim.Native.Nat.{◌-◌}
use Rattle.report_figures.proofs.Passing.{Going}
use Rattle.rules.specs.Month.{month_of}
use Rattle.report_figures.proofs.pass_hours.Given as goal

abbrev pub invariant-loop-walk : goal.invariant-loop-walk
invariant-loop-walk l = Going (month_of l.file) l.window l.walk l.distances l.distributed_wh l.periodised_wh

abbrev pub decreases-loop-walk : goal.decreases-loop-walk
decreases-loop-walk l = l.all - l.walk.t
