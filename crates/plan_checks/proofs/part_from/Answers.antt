-- `plan_checks::part_from` meets its contract: the month is the first, or it is not. Assumes nothing.
use borrow.Author.Tests.{ne_eqb}
use Rattle.rules.specs.Plan.{part_from}
use Rattle.plan_checks.proofs.part_from.Goals as goal

pub returns-then-k-eq0 : goal.returns-then-k-eq0
unfolding part_from
returns-then-k-eq0 c = rw c.if-k-eq0.true

pub returns : goal.returns
unfolding part_from
returns c = rw (ne_eqb _ 0 c.if-k-eq0.false)
