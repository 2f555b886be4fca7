-- `apportion::one_each` meets its contract: the first i places hold what the first i get, which are those that come before the threshold and the cut. Assumes nothing.
use Rattle.apportion.proofs.Arrays.{Upto}
use Rattle.rules.specs.LargestRemainder.{one_each}
use Rattle.rules.specs.Words.{at}
use Rattle.apportion.proofs.one_each.Given as goal

abbrev pub invariant-loop-i : goal.invariant-loop-i
invariant-loop-i l = Upto 0 (one_each l.n (at l.rest) l.left) l.n l.i l.extra
