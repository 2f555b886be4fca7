-- `distribute::total` meets its contract: what it added is the sum so far, and no more than the whole. Assumes nothing.
use Rattle.rules.specs.Words.{at}
use Rattle.rules.proofs.Sums.{Adding}
use Rattle.distribute.proofs.total.Given as goal

abbrev pub invariant-loop-i : goal.invariant-loop-i
invariant-loop-i l = Adding (at l.values) l.n l.all l.i
