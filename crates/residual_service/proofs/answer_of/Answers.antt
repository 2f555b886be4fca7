-- `residual_service::answer_of` meets its contract: each case is its verdict. Assumes nothing.
use Rattle.rules.specs.Flows.{verdict_of}
use Rattle.residual_service.proofs.answer_of.Goals as goal

pub returns-in-Ok : goal.returns-in-Ok
unfolding verdict_of
returns-in-Ok c = rw c.in-Ok.is

pub returns-in-Err : goal.returns-in-Err
unfolding verdict_of
returns-in-Err c = rw (c.in-Err.is, c.from.ensures)
