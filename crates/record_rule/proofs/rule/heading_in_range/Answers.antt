-- `record_rule::rule::heading_in_range` meets its contract: the code tests what the rule tests, field by field. Assumes nothing.
use mathlib.Core.Path.{refl}
use Rattle.rules.specs.Record.{heading_in_range}
use Rattle.rules.specs.Words.{within}
use Rattle.record_rule.proofs.rule.heading_in_range.Goals as goal

pub returns : goal.returns
unfolding heading_in_range within
returns c = refl
