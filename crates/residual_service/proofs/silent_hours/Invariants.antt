-- `residual_service::silent_hours` meets its contract: what is left of the lists says what the whole says. Assumes nothing.
use lib.ListN.{length}
use Rattle.rules.specs.Services.{silent_check}
use Rattle.rules.proofs.Loops.{Looking}
use Rattle.residual_service.proofs.silent_hours.Given as goal

abbrev pub invariant-loop-t : goal.invariant-loop-t
invariant-loop-t l = Looking (silent_check l.statuses l.nets l.productions l.hourlies l.flexes) (length l.statuses) l.t
