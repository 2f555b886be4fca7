-- `report_distances::distances_of` meets its contract: the first i places hold the first i distances. Assumes nothing.
use lib.IntN.{pos}
use Rattle.apportion.proofs.Arrays.{Upto}
use Rattle.report_distances.specs.Extremes.{distance_by}
use Rattle.report_distances.proofs.distances_of.Given as goal

abbrev pub invariant-loop-i : goal.invariant-loop-i
invariant-loop-i l = Upto (pos 0) (distance_by l.extra l.remainder l.w) l.n l.i l.here
