-- `residual_service::silent_is_zero` meets its contract: the tests are the rule's, net supply by its bits. Assumes nothing.
use Rattle.residual_service.proofs.Silent.{silent_is}
use Rattle.residual_service.proofs.silent_is_zero.Goals as goal

pub returns : goal.returns
returns c = silent_is _ _ _ _ c.ranges.net
