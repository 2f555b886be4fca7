-- `distribute::figures_of` meets its contract: the first i places hold the first i figures. Assumes nothing.
use Rattle.apportion.proofs.Arrays.{upto_start, upto_next, upto_end}
use Rattle.distribute.specs.Parts.{figure_by}
use borrow.Author.Rules.{rules}
use lib.IntN.{pos}
use Rattle.rules.specs.Words.{at}
use mir.Facts.{to_z-of_z}
use mir.Syntax.{w64}
use mir.Val.{SFits}
use native.Mathlib.Omega.{arith}
use Rattle.distribute.proofs.figures_of.Goals as goal

pub loop-i-init : goal.loop-i-init
loop-i-init c = upto_start (pos 0) _ _

pub figure_of-requires : goal.figure_of-requires
unfolding at
figure_of-requires c =
    let small = c.requires.1 c.loop-i.i (omega arith) in
    (small.grown, omega (arith, small.grown, small.had))

pub loop-i-preserved : goal.loop-i-preserved
unfolding figure_by at
loop-i-preserved c =
    let fits : SFits w64 c.figure_of.result = search rules in
    rw (to_z-of_z fits)
    (upto_next c.loop-i.invariant (omega arith) (omega arith) c.figure_of.ensures)

pub returns : goal.returns
returns c = upto_end c.loop-i.invariant (omega arith)
