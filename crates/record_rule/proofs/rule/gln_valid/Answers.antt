-- `record_rule::rule::gln_valid` meets its contract: the check of a GLN tells it. Assumes nothing.
use Rattle.record_rule.proofs.Judging.{valid_is}
use Rattle.record_rule.proofs.rule.gln_valid.Goals as goal

pub returns : goal.returns
returns c = rw (c.is_some.ensures, c.check.ensures) (valid_is _)
