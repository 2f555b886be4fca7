-- `month_series::beginnings` meets its contract: the sum so far is the next beginning. Assumes nothing.
use Rattle.month_series.proofs.Weights.{Adding}
use Rattle.month_series.proofs.beginnings.Given as goal

abbrev pub invariant-loop-t : goal.invariant-loop-t
invariant-loop-t l = Adding l.curve l.out l.sum l.t
