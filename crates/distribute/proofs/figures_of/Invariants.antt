-- `distribute::figures_of` meets its contract: the first i places hold the first i figures. Assumes nothing.
use Rattle.apportion.proofs.Arrays.{Upto}
use Rattle.distribute.specs.Parts.{figure_by}
use lib.IntN.{pos}
use Rattle.distribute.proofs.figures_of.Given as goal

abbrev pub invariant-loop-i : goal.invariant-loop-i
invariant-loop-i l = Upto (pos 0) (figure_by l.quotient l.after l.before) l.n l.i l.figures
