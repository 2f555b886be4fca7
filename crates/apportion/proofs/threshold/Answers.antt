-- `apportion::threshold` meets its contract: the threshold lies between `low` and `high`, which are half as far apart after each turn. Assumes nothing.
use native.Mathlib.Omega.{arith}
use Rattle.apportion.proofs.Thresholds.{halving_start, halving_stops, halving_up, halving_down, halving_end}
use Rattle.apportion.proofs.threshold.Goals as goal

pub loop-low-init : goal.loop-low-init
loop-low-init c = halving_start (omega arith) c.bound-high.ensures

pub returns-then-over-left : goal.returns-then-over-left
returns-then-over-left c = halving_stops c.loop-low.invariant c.above-over.ensures c.if-over-left.true

pub loop-low-preserved-then-left-over : goal.loop-low-preserved-then-left-over
loop-low-preserved-then-left-over c = halving_up c.loop-low.invariant c.above-over.ensures (omega arith) c.if-left-over.true

pub loop-low-preserved : goal.loop-low-preserved
loop-low-preserved c = halving_down c.loop-low.invariant c.above-over.ensures (omega arith) (omega arith) c.if-left-over.false

pub returns : goal.returns
returns c = halving_end c.loop-low.invariant (omega arith)
