-- `apportion::threshold` meets its contract: the threshold lies between `low` and `high`, which are half as far apart after each turn. Assumes nothing.
use Prim.Native.Nat.{◌-◌}
use Rattle.apportion.proofs.Thresholds.{Halving}
use Rattle.rules.specs.Words.{at}
use Rattle.apportion.proofs.threshold.Given as goal

abbrev pub invariant-loop-low : goal.invariant-loop-low
invariant-loop-low l = Halving l.n (at l.rest) l.left l.low l.high

abbrev pub decreases-loop-low : goal.decreases-loop-low
decreases-loop-low l = l.high - l.low
