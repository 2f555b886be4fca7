-- `residual_service::write_residuals` meets its contract: the beginning of the lent series is the residuals so far. Assumes nothing.
use lib.ListN.{length}
use Rattle.rules.specs.Services.{residual_at}
use Rattle.rules.proofs.Loops.{Filling}
use Rattle.residual_service.proofs.write_residuals.Given as goal

abbrev pub invariant-loop-t : goal.invariant-loop-t
invariant-loop-t l = Filling (residual_at l.statuses l.nets l.productions l.hourlies l.flexes) (length l.statuses) l.out l.t
