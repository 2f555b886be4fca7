-- `record_rule::rule::net_in_range` meets its contract: the bits of a signed number say the number. Assumes nothing.
use Rattle.record_rule.proofs.Judging.{within_bits}
use Rattle.record_rule.proofs.rule.net_in_range.Goals as goal

pub returns : goal.returns
returns c = within_bits _ _ c.ranges.z
