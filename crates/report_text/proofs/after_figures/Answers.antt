-- `report_text::after_figures` meets its contract: no room, or the lines. Assumes nothing.
use mathlib.Core.Path.{refl, sym, ◌∙◌}
use Rattle.report_text.proofs.Making.{known, distanced, counted}
use Rattle.report_text.proofs.Reports.{roomy, too_short}
use Rattle.answer.proofs.Checks.{flag_on}
use Rattle.rules.specs.Refusals.{afterwards}
use Rattle.report_text.proofs.after_figures.Goals as goal

pub returns-then-not-has_room : goal.returns-then-not-has_room
unfolding afterwards
returns-then-not-has_room c =
    record {
      answer = too_short _ _ _ _ c.has_room.ensures c.if-not-has_room.true-raw;
      first_hours_holds = refl;
      other_hours = refl;
      all_parties = refl;
    }

pub three_parts-requires : goal.three_parts-requires
three_parts-requires c = record {
  known = known _ _ c.requires.accepted c.requires.numbers_of refl c.applied-applied_wh.ensures;
  distanced = distanced _ _ c.requires.accepted c.requires.numbers_of;
  estimated_value = counted _ _ c.requires.accepted c.requires.numbers_of;
  roomy = roomy _ _ _ (sym c.has_room.ensures ∙ flag_on _ c.if-not-has_room.false-raw);
}
