-- `report_text::heading_and_hours` meets its contract: the heading line, and the first hours' after it. Assumes nothing.
use Rattle.report_text.proofs.Parts.{first_inside, room_for_hours, first_part_lem}
use Rattle.report_text.proofs.heading_and_hours.Goals as goal

pub hours_from-requires : goal.hours_from-requires
hours_from-requires c = record {
  known = c.requires.known;
  inside = first_inside _ _ c.requires.known.read c.requires.first_asked;
  hour_room_in_bounds =
      room_for_hours _ _ c.requires.known.read c.requires.first_asked c.heading_line-after_heading.ensures.text
      c.heading_line-after_heading.ensures.within c.requires.first_room_in_bounds;
}

pub returns : goal.returns
returns c =
    first_part_lem _ _ c.requires.known.read c.requires.first_asked c.heading_line-after_heading.ensures.text
    c.heading_line-after_heading.ensures.within c.hours_from.ensures
