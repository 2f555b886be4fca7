-- `record_rule::rule::hour_in_range` meets its contract: the hour field, then the flows. Assumes nothing.
use Rattle.record_rule.proofs.Judging.{hour_is}
use Rattle.record_rule.proofs.rule.hour_in_range.Goals as goal

pub returns : goal.returns
returns c = hour_is _ _ _ c.flows_in_range.ensures
