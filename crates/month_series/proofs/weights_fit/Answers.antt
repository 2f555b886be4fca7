-- `month_series::weights_fit` meets its contract: the true sum is compared without being formed (`Judging`). Assumes nothing.
use Rattle.month_series.proofs.Judging.{before_exceeds, own_left}
use Rattle.month_series.proofs.weights_fit.Goals as goal

pub returns-then-s : goal.returns-then-s
returns-then-s c = before_exceeds _ _ _ c.if-s.true

pub returns : goal.returns
returns c = own_left _ _ _ c.if-s.false
