-- `settle_c::settle_amounts` meets its contract: the service answers by its checks, and the number is that of its answer. Assumes nothing.
use Rattle.settle_c.proofs.Told.{numbered}
use Rattle.settle_c.proofs.settle_amounts.Goals as goal

pub returns : goal.returns
returns c = numbered c.amounts-answered.ensures c.code.ensures
