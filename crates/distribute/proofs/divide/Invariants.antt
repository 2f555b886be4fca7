-- `distribute::divide` meets its contract: the first i places hold the first i quotients and remainders. Assumes nothing.
use Rattle.distribute.proofs.Dividing.{Dividing}
use Rattle.distribute.proofs.divide.Given as goal

abbrev pub invariant-loop-i : goal.invariant-loop-i
invariant-loop-i l = Dividing l.grown l.w l.n l.i l.quotient l.rest
