-- `plan_checks::part_to` meets its contract: the month is the last, or it is not. Assumes nothing.
use Rattle.plan_checks.proofs.Checking.{last_to, another_to}
use Rattle.rules.specs.Words.{at}
use Rattle.plan_checks.proofs.part_to.Goals as goal

pub returns-then-k-hours : goal.returns-then-k-hours
returns-then-k-hours c = last_to _ _ _ c.if-k-hours.true

pub returns : goal.returns
unfolding at
returns c = another_to _ _ _ c.if-k-hours.false
