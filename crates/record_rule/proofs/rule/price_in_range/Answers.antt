-- `record_rule::rule::price_in_range` meets its contract: the bits of a signed number say the number. Assumes nothing.
use mir.Facts.{to_z-of_z}
use Rattle.rules.specs.Words.{within_ℤ}
use Rattle.record_rule.proofs.rule.price_in_range.Goals as goal

pub returns : goal.returns
unfolding within_ℤ
returns c = rw (to_z-of_z c.ranges.z)
