-- `plan_service::whole_of` meets its contract: a record over months has it. Assumes nothing.
use Rattle.rules.specs.Month.{whole_weight}
use Rattle.plan_service.proofs.whole_of.Goals as goal

pub returns-in-ThisMonth : goal.returns-in-ThisMonth
unfolding whole_weight
returns-in-ThisMonth c = rw c.in-ThisMonth.is

pub returns-in-ManyMonths : goal.returns-in-ManyMonths
unfolding whole_weight
returns-in-ManyMonths c = rw c.in-ManyMonths.is
