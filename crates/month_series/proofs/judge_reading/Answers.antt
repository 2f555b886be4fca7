-- `month_series::judge_reading` meets its contract: 18 comes before 13 (`Judging`). Assumes nothing.
use Rattle.month_series.proofs.Judging.{exceeded, nothing_there, both_hold}
use Rattle.month_series.proofs.judge_reading.Goals as goal

pub returns-then-not-weights_fit : goal.returns-then-not-weights_fit
returns-then-not-weights_fit c = exceeded _ _ _ c.weights_fit.ensures c.if-not-weights_fit.true

pub returns-then-not-follows : goal.returns-then-not-follows
returns-then-not-follows c = nothing_there _ _ _ c.weights_fit.ensures c.if-not-weights_fit.false c.follows.ensures c.if-not-follows.true

pub returns : goal.returns
returns c = both_hold _ _ _ c.weights_fit.ensures c.if-not-weights_fit.false c.follows.ensures c.if-not-follows.false
