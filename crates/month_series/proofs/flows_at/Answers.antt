-- `month_series::flows_at` meets its contract: the reader of the series that is asked. Assumes nothing.
use Rattle.month_series.proofs.Series.{refixed_is, fixed_is}
use Rattle.month_series.proofs.flows_at.Goals as goal

pub returns-then-refixed : goal.returns-then-refixed
returns-then-refixed c = refixed_is c.requires c.if-refixed.true c.refixed_flows.ensures

pub returns-else-refixed : goal.returns-else-refixed
returns-else-refixed c = fixed_is c.requires c.if-refixed.false c.fixed_flows.ensures
