-- `record_rule::rule::unless` meets its contract: a test that holds, and one that does not. Assumes nothing.
use Rattle.rules.specs.Refusals.{unless}
use Rattle.record_rule.proofs.rule.unless.Goals as goal

pub returns-then-test : goal.returns-then-test
unfolding unless
returns-then-test c = rw c.if-test.true

pub returns : goal.returns
unfolding unless
returns c = rw c.if-test.false
