-- `plan_checks::each_month` meets its contract: the first month of another length is refused, at place 0. Assumes nothing.
use mathlib.Core.Path.{refl, sym}
use native.Mathlib.Omega.{arith}
use Rattle.answer.proofs.Checks.{passes, stops}
use Rattle.rules.proofs.Loops.{look_start, look_pass, look_stop, look_end}
use Rattle.rules.specs.Plan.{hours_verdict}
use Rattle.rules.specs.Words.{at, within}
use Rattle.plan_checks.proofs.each_month.Goals as goal

pub loop-h-init : goal.loop-h-init
loop-h-init c = look_start _ _

pub returns-then-not-h : goal.returns-then-not-h
unfolding hours_verdict within at
returns-then-not-h c = sym (look_stop c.loop-h.invariant (omega arith) (stops _ _ refl c.if-not-h.true-raw))

pub loop-h-preserved : goal.loop-h-preserved
unfolding hours_verdict within at
loop-h-preserved c = look_pass c.loop-h.invariant (omega arith) (passes _ _ refl c.if-not-h.false-raw)

pub returns : goal.returns
returns c = sym (look_end c.loop-h.invariant (omega arith))
