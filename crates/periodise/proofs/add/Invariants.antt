-- `periodise::add` meets its contract: the loop keeps the remainder of E x (weights so far), the figures so far and the hours ahead as they were, and each
-- hour's figure is what it held and the growth (`Adding`). Assumes nothing.
use Rattle.periodise.proofs.Spreading.{Adding}
use Rattle.periodise.proofs.add.Given as goal

abbrev pub invariant-loop-i : goal.invariant-loop-i
invariant-loop-i l = Adding l.initial.out l.s.e_wh l.s.before l.s.whole l.part l.skip l.divisor l.out l.left l.i
