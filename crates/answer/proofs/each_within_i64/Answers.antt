-- `answer::each_within_i64` meets its contract: what is left of the list says what the whole says. Assumes nothing.
use mathlib.Core.Path.{ap}
use mathlib.Core.Bool.{not}
use native.Mathlib.Omega.{arith}
use borrow.Author.Rules.{rules}
use lib.IntN.{pos}
use lib.ListN.{get_or}
use mir.Facts.{to_z-of_z}
use mir.Syntax.{w64}
use mir.Val.{SFits}
use Rattle.answer.specs.Said.{named}
use Rattle.rules.specs.Services.{each_at_ℤ, check_at_ℤ, at_ℤ}
use Rattle.rules.proofs.Loops.{look_start, look_pass, look_stop, look_end}
use Rattle.answer.proofs.Checks.{passes, stops}
use Rattle.answer.proofs.Ranges.{by_its_ends}
use Rattle.answer.proofs.each_within_i64.Goals as goal

pub loop-i-init : goal.loop-i-init
loop-i-init c = look_start _ _

pub returns-then-not-within_i64 : goal.returns-then-not-within_i64
unfolding each_at_ℤ check_at_ℤ at_ℤ
returns-then-not-within_i64 c =
    let f : SFits w64 (get_or c.args.figures.now c.loop-i.i (pos 0)) = search rules in
    by_its_ends c.args.figures.now (named c.args.otherwise) c.ranges.lowest c.ranges.greatest
    (look_stop c.loop-i.invariant (omega arith)
    (stops _ _ (simp to_z-of_z at c.within_i64.ensures) (ap not c.if-not-within_i64.true)))

pub loop-i-preserved : goal.loop-i-preserved
unfolding check_at_ℤ at_ℤ
loop-i-preserved c =
    let f : SFits w64 (get_or c.args.figures.now c.loop-i.i (pos 0)) = search rules in
    look_pass c.loop-i.invariant (omega arith)
    (passes _ _ (simp to_z-of_z at c.within_i64.ensures) (ap not c.if-not-within_i64.false))

pub returns : goal.returns
unfolding each_at_ℤ
returns c = by_its_ends c.args.figures.now (named c.args.otherwise) c.ranges.lowest c.ranges.greatest (look_end c.loop-i.invariant (omega arith))
