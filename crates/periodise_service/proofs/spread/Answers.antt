-- `periodise_service::spread` meets its contract: the loop keeps the figures so far and the remainder of E x (weights so far), and each hour's figure is the
-- growth (`Standing`). Assumes nothing.
use native.Mathlib.Omega.{arith}
use Rattle.rules.specs.Words.{at}
use Rattle.rules.proofs.Loops.{fill_start, fill_next, fill_end}
use Rattle.periodise.proofs.Spreading.{stand_first, turn_asks, turn_gives, stand_next}
use Rattle.periodise_service.proofs.spread.Goals as goal

pub loop-i-init : goal.loop-i-init
loop-i-init c = (stand_first c.divisor_of-divisor.ensures, fill_start _ c.requires.out_len)

pub hour_of-t-requires : goal.hour_of-t-requires
unfolding at
hour_of-t-requires c = turn_asks c.requires.within c.loop-i.invariant.0 c.loop-i-test.true

pub loop-i-preserved : goal.loop-i-preserved
unfolding at
loop-i-preserved c = (stand_next c.requires.within c.loop-i.invariant.0 c.loop-i-test.true c.hour_of-t.ensures (omega arith), fill_next c.loop-i.invariant.1 c.loop-i-test.true (turn_gives c.requires.within c.loop-i.invariant.0 c.loop-i-test.true c.hour_of-t.ensures))

pub returns : goal.returns
returns c = fill_end c.loop-i.invariant.1 (omega arith)
