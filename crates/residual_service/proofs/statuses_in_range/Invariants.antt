-- `residual_service::statuses_in_range` meets its contract: what is left of the list says what the whole says. Assumes nothing.
use lib.ListN.{length}
use Rattle.rules.specs.Limits.{estimated}
use Rattle.rules.specs.Refusals.{out_of_range}
use Rattle.rules.specs.Services.{check_at}
use Rattle.rules.specs.Words.{at_most}
use Rattle.rules.proofs.Loops.{Looking}
use Rattle.residual_service.proofs.statuses_in_range.Given as goal

abbrev pub invariant-loop-i : goal.invariant-loop-i
invariant-loop-i l = Looking (check_at l.statuses (at_most estimated) out_of_range) (length l.statuses) l.i
