-- `month_series::beginnings` meets its contract: the sum so far is the next beginning. Assumes nothing.
use Rattle.rules.specs.Words.{at}
use Rattle.month_series.proofs.Weights.{add_start, add_next, add_end}
use native.Mathlib.Omega.{arith}
use Rattle.month_series.proofs.beginnings.Goals as goal

pub loop-t-init : goal.loop-t-init
loop-t-init c = add_start c.requires.out_len

pub loop-t-preserved : goal.loop-t-preserved
unfolding at
loop-t-preserved c = add_next c.loop-t.invariant (omega arith) (omega arith)

pub returns : goal.returns
returns c = add_end c.loop-t.invariant (omega arith)
