-- `report_text::every_party` meets its contract: the lines of the parties passed stand one after the other. Assumes nothing.
use native.Mathlib.Omega.{arith}
use lib.IntN.{pos}
use lib.ListN.{get_or}
use mir.Facts.{to_z-of_z}
use mir.Syntax.{w64}
use mir.Val.{SFits}
use Rattle.report_text.proofs.PartyLines.{few, party_asked, all_lines}
use Rattle.rules.specs.Limits.{most_parties}
use Rattle.text.proofs.Puts.{put_length}
use Rattle.text.proofs.Runs.{go_start, go_room, go_next, go_end}
use borrow.Author.Rules.{rules}
use Rattle.report_text.proofs.every_party.Goals as goal

pub loop-i-init : goal.loop-i-init
loop-i-init c = go_start _ _ _ _ _

pub bounds-smallest-i : goal.bounds-smallest-i
bounds-smallest-i c = omega (arith, few c.requires.distanced)

pub bounds-largest-i : goal.bounds-largest-i
bounds-largest-i c = omega (arith, few c.requires.distanced)

pub one_party-end-requires : goal.one_party-end-requires
one_party-end-requires c =
    let a : SFits w64 (get_or c.args.distances.smallest c.loop-i.i (pos 0)) = search rules in
    let b : SFits w64 (get_or c.args.distances.largest c.loop-i.i (pos 0)) = search rules in record { asked = party_asked c.requires.distanced (omega arith) (to_z-of_z a) (to_z-of_z b); room = go_room c.loop-i.invariant (omega arith) most_parties (few c.requires.distanced) (omega (arith, c.requires.room)) }

pub loop-i-preserved : goal.loop-i-preserved
loop-i-preserved c = go_next c.loop-i.invariant (omega arith) c.one_party-end.ensures

pub shape_of-out : goal.shape_of-out
shape_of-out c = put_length c.loop-i.invariant.put

pub returns : goal.returns
returns c = all_lines c.requires.distanced (go_end c.loop-i.invariant (omega arith) most_parties (few c.requires.distanced))
