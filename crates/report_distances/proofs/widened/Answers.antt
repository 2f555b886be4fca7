-- `report_distances::widened` meets its contract: the first i places hold the smaller and the larger of the first i. Assumes nothing.
use lib.IntN.{pos}
use lib.ListN.{get_or}
use native.Mathlib.Omega.{arith}
use borrow.Author.Rules.{rules}
use mir.Facts.{to_z-of_z}
use mir.Syntax.{w64}
use mir.Val.{SFits}
use Rattle.report_distances.proofs.Widening.{widen_start, widen_next, widen_end}
use Rattle.report_distances.proofs.widened.Goals as goal

pub loop-i-init : goal.loop-i-init
loop-i-init c = widen_start _ _ _ _

pub loop-i-preserved : goal.loop-i-preserved
loop-i-preserved c =
    let least : SFits w64 (get_or c.args.least.now c.loop-i.i (pos 0)) = search rules in
    let most : SFits w64 (get_or c.args.most.now c.loop-i.i (pos 0)) = search rules in
    let here : SFits w64 (get_or c.args.here.now c.loop-i.i (pos 0)) = search rules in
    let small : SFits w64 c.min.result = search rules in
    let large : SFits w64 c.max.result = search rules in
    simp to_z-of_z
    (widen_next c.loop-i.invariant (omega arith) (omega arith) (simp to_z-of_z at c.min.ensures.value)
    (simp to_z-of_z at c.max.ensures.value))

pub returns : goal.returns
returns c = widen_end c.loop-i.invariant (omega arith)
