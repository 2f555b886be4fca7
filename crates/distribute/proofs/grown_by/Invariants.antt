-- `distribute::grown_by` meets its contract: the first i places hold the first i sums. Assumes nothing.
use Rattle.apportion.proofs.Arrays.{Upto}
use Rattle.distribute.specs.Parts.{grown_by}
use Rattle.distribute.proofs.grown_by.Given as goal

abbrev pub invariant-loop-i : goal.invariant-loop-i
invariant-loop-i l = Upto 0 (grown_by l.remainder l.share l.residual) l.n l.i l.grown
