-- `plan_service::before_of` meets its contract: a record over months has it. Assumes nothing.
use Rattle.rules.specs.Month.{weight_before}
use Rattle.plan_service.proofs.before_of.Goals as goal

pub returns-in-ThisMonth : goal.returns-in-ThisMonth
unfolding weight_before
returns-in-ThisMonth c = rw c.in-ThisMonth.is

pub returns-in-ManyMonths : goal.returns-in-ManyMonths
unfolding weight_before
returns-in-ManyMonths c = rw c.in-ManyMonths.is
