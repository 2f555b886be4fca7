-- `settle_c::settle_plan` meets its contract: the service answers by its checks, and the number is that of its answer. Assumes nothing.
use Rattle.settle_c.proofs.Told.{plan_numbered}
use Rattle.settle_c.proofs.settle_plan.Goals as goal

pub returns : goal.returns
returns c = plan_numbered c.plan-answered.ensures c.code.ensures
