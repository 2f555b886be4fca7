-- `distribute_service::distribute` meets its contract: after t hours the list holds their figures (`Hours`). Assumes nothing.
use Rattle.distribute_service.proofs.Hours.{Distributing}
use Rattle.distribute_service.proofs.distribute.Given as goal

abbrev pub invariant-loop-t : goal.invariant-loop-t
invariant-loop-t l = Distributing l.shares l.residuals l.out l.carries l.place l.t
