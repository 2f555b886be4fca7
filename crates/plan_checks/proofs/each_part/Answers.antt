-- `plan_checks::each_part` meets its contract: the first month with no hour of the reading, or with too many, is refused, at place 0. Assumes nothing.
use mathlib.Core.Path.{sym}
use native.Mathlib.Omega.{arith}
use Rattle.plan_checks.proofs.Checking.{part_refused, part_passed}
use Rattle.rules.proofs.Loops.{look_start, look_pass, look_stop, look_end}
use Rattle.rules.specs.Words.{at}
use Rattle.plan_checks.proofs.each_part.Goals as goal

pub loop-k-init : goal.loop-k-init
loop-k-init c = look_start _ _

pub returns-then-not-from-to : goal.returns-then-not-from-to
unfolding at
returns-then-not-from-to c = sym (look_stop c.loop-k.invariant (omega arith) (part_refused _ _ _ _ c.part_from-from.ensures c.part_to-to.ensures c.if-not-from-to.true-raw))

pub loop-k-preserved : goal.loop-k-preserved
unfolding at
loop-k-preserved c = look_pass c.loop-k.invariant (omega arith) (part_passed _ _ _ _ c.part_from-from.ensures c.part_to-to.ensures c.if-not-from-to.false-raw)

pub returns : goal.returns
returns c = sym (look_end c.loop-k.invariant (omega arith))
