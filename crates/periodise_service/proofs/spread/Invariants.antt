-- `periodise_service::spread` meets its contract: the loop keeps the figures so far and the remainder of E x (weights so far), and each hour's figure is the
-- growth (`Standing`). Assumes nothing.
use lib.ListN.{length}
use Rattle.rules.specs.Words.{at}
use Rattle.rules.proofs.Loops.{Filling}
use Rattle.rules.specs.Periodised.{periodised_figure}
use Rattle.periodise.proofs.Spreading.{Standing}
use Rattle.periodise_service.proofs.spread.Given as goal

abbrev pub invariant-loop-i : goal.invariant-loop-i
invariant-loop-i l = Standing l.e 0 l.s (at l.weights) l.divisor l.left l.i × Filling (periodised_figure l.e 0 l.s (at l.weights)) (length l.weights) l.out l.i
