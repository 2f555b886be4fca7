-- `report_distances::widened` meets its contract: the first i places hold the smaller and the larger of the first i. Assumes nothing.
use Rattle.report_distances.proofs.Widening.{Widening}
use Rattle.report_distances.proofs.widened.Given as goal

abbrev pub invariant-loop-i : goal.invariant-loop-i
invariant-loop-i l = Widening l.least l.most l.here l.n l.i l.smallest l.largest
