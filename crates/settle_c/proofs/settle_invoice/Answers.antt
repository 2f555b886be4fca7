-- `settle_c::settle_invoice` meets its contract: the service answers by its checks, and the number is that of its answer. Assumes nothing.
use Rattle.settle_c.proofs.Told.{numbered}
use Rattle.settle_c.proofs.settle_invoice.Goals as goal

pub returns : goal.returns
returns c = numbered c.invoice-answered.ensures c.code.ensures
