-- `report_text::three_parts` meets its contract: each part stands at the start of its buffer. Assumes nothing.
use Rattle.report_text.proofs.Parts.{first_asked, rest_inside, room_for_rest, rest_part_lem}
use Rattle.report_text.proofs.Reports.{reported}
use Rattle.report_text.proofs.three_parts.Goals as goal

pub heading_and_hours-first_bytes-requires : goal.heading_and_hours-first_bytes-requires
heading_and_hours-first_bytes-requires c = record {
  known = c.requires.known;
  first_asked = first_asked _ _ c.requires.known.read c.min-hours.ensures c.requires.estimated_value;
  first_room_in_bounds = c.requires.roomy.first_room_holds;
}

pub hours_from-rest_bytes-requires : goal.hours_from-rest_bytes-requires
hours_from-rest_bytes-requires c = record {
  known = c.requires.known;
  inside = rest_inside _ _ c.requires.known.read c.min-hours.ensures;
  hour_room_in_bounds = room_for_rest _ _ c.requires.known.read c.min-hours.ensures c.requires.roomy.rest_room_holds;
}

pub every_party-parties_bytes-requires : goal.every_party-parties_bytes-requires
every_party-parties_bytes-requires c = record { distanced = c.requires.distanced; room = c.requires.roomy.parties_room_holds }

pub returns : goal.returns
returns c =
    reported _ _ _ _ c.requires.roomy c.heading_and_hours-first_bytes.ensures
    (rest_part_lem _ _ c.requires.known.read c.min-hours.ensures c.hours_from-rest_bytes.ensures)
    c.every_party-parties_bytes.ensures
