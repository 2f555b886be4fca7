-- `report_distances::distances_of` meets its contract: the first i places hold the first i distances. Assumes nothing.
use native.Mathlib.Omega.{arith}
use borrow.Author.Rules.{rules}
use lib.IntN.{pos}
use mir.Facts.{to_z-of_z}
use mir.Syntax.{w64}
use mir.Val.{SFits}
use Rattle.apportion.proofs.Arrays.{upto_start, upto_next, upto_end}
use Rattle.report_distances.specs.Extremes.{distance_by}
use Rattle.rules.specs.Words.{at}
use Rattle.report_distances.proofs.distances_of.Goals as goal

pub loop-i-init : goal.loop-i-init
loop-i-init c = upto_start (pos 0) _ _

pub distance-requires : goal.distance-requires
unfolding at
distance-requires c = c.requires.1 _ (omega arith)

pub loop-i-preserved : goal.loop-i-preserved
unfolding distance_by at
loop-i-preserved c =
    let fits : SFits w64 c.distance.result = search rules in
    rw (to_z-of_z fits)
    (upto_next c.loop-i.invariant (omega arith) (omega arith) c.distance.ensures)

pub returns : goal.returns
returns c = upto_end c.loop-i.invariant (omega arith)
