-- `record_service::signs_right` meets its contract: the signs of the numbers left say what all say. Assumes nothing.
use Rattle.record_service.proofs.Numbers.{Signing}
use Rattle.record_service.proofs.signs_right.Given as goal

abbrev pub invariant-loop-i : goal.invariant-loop-i
invariant-loop-i l = Signing l.signed l.numbers l.i
