-- `record_service::signs_right` meets its contract: the signs of the numbers left say what all say. Assumes nothing.
use lib.IntN.{pos}
use mir.Facts.{to_z-of_z}
use mir.Syntax.{w64}
use mir.Val.{SFits}
use borrow.Author.Rules.{rules}
use native.Mathlib.Omega.{arith}
use lib.ListN.{get_or}
use Rattle.record_service.proofs.Numbers.{sign_start, sign_wrong, sign_next, sign_end}
use Rattle.record_service.proofs.signs_right.Goals as goal

pub loop-i-init : goal.loop-i-init
loop-i-init c = sign_start _ _

pub returns-then-not-right : goal.returns-then-not-right
returns-then-not-right c =
    let f : SFits w64 (get_or c.args.numbers.now c.loop-i.i (pos 0)) = search rules in
    sign_wrong c.loop-i.invariant (omega arith) (rw (to_z-of_z f) at c.if-not-right.true)

pub loop-i-preserved : goal.loop-i-preserved
loop-i-preserved c =
    let f : SFits w64 (get_or c.args.numbers.now c.loop-i.i (pos 0)) = search rules in
    sign_next c.loop-i.invariant (omega arith) (rw (to_z-of_z f) at c.if-not-right.false)

pub returns : goal.returns
returns c = sign_end c.loop-i.invariant (omega arith)
