-- `report_text::one_party` meets its contract: the columns are the party's distances. Assumes nothing.
use mir.Facts.{to_z-of_z}
use Rattle.report_text.proofs.PartyLines.{gln_asked, name_fits, party_text}
use Rattle.text.proofs.Puts.{put_as}
use Rattle.report_text.proofs.one_party.Goals as goal

pub gln_of-name-requires : goal.gln_of-name-requires
gln_of-name-requires c = gln_asked c.requires.asked

pub distances_line-requires : goal.distances_line-requires
distances_line-requires c = (name_fits c.requires.asked c.gln_of-name.ensures, c.requires.room)

pub returns : goal.returns
returns c =
    record {
      put =
          put_as (party_text c.requires.asked c.gln_of-name.ensures (to_z-of_z c.ranges.smallest) (to_z-of_z c.ranges.largest))
          c.distances_line.ensures.text;
      within = c.distances_line.ensures.within;
    }
