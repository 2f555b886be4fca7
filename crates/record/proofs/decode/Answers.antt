-- `record::decode` meets its contract: each kind reads its own fields, and a known kind that is none of the others is the end. Assumes nothing.
use mir.Facts.{to_z-of_z}
use mir.Syntax.{w64}
use mir.Val.{SFits}
use Rattle.rules.specs.Record.{heading_kind, party_kind, fixed_hour_kind, reading_kind, price_kind, refixed_hour_kind, end_kind, long_reading_kind, brp_party_kind}
use Rattle.rules.proofs.EachKind.{body_lengths}
use mathlib.Core.Path.{◌∙◌}
use native.Mathlib.Omega.{arith}
use Rattle.record.proofs.Decoding.{stands, as_at, end_kind_lem, party_is, brp_party_is, fixed_is, price_is, refixed_is, end_is}
use borrow.Author.Rules.{rules}
use Rattle.record.proofs.decode.Goals as goal

pub heading_in-requires : goal.heading_in-requires
unfolding body_lengths
heading_in-requires c = omega (arith, stands c.requires heading_kind c.in-1.is)

pub share_in-requires : goal.share_in-requires
unfolding body_lengths
share_in-requires c = omega (arith, stands c.requires party_kind c.in-2.is)

pub u16_at-requires : goal.u16_at-requires
unfolding body_lengths
u16_at-requires c = omega (arith, stands c.requires fixed_hour_kind c.in-3.is)

pub flows_in-requires : goal.flows_in-requires
unfolding body_lengths
flows_in-requires c = omega (arith, stands c.requires fixed_hour_kind c.in-3.is)

pub reading_in-requires : goal.reading_in-requires
unfolding body_lengths
reading_in-requires c = omega (arith, stands c.requires reading_kind c.in-4.is)

pub u16_at-requires-in-5 : goal.u16_at-requires-in-5
unfolding body_lengths
u16_at-requires-in-5 c = omega (arith, stands c.requires price_kind c.in-5.is)

pub price_in-requires : goal.price_in-requires
unfolding body_lengths
price_in-requires c = omega (arith, stands c.requires price_kind c.in-5.is)

pub u16_at-requires-in-6 : goal.u16_at-requires-in-6
unfolding body_lengths
u16_at-requires-in-6 c = omega (arith, stands c.requires refixed_hour_kind c.in-6.is)

pub flows_in-requires-in-6 : goal.flows_in-requires-in-6
unfolding body_lengths
flows_in-requires-in-6 c = omega (arith, stands c.requires refixed_hour_kind c.in-6.is)

pub long_reading_in-requires : goal.long_reading_in-requires
unfolding body_lengths
long_reading_in-requires c = omega (arith, stands c.requires long_reading_kind c.in-8.is)

pub brp_share_in-requires : goal.brp_share_in-requires
unfolding body_lengths
brp_share_in-requires c = omega (arith, stands c.requires brp_party_kind c.in-18.is)

pub u32_at-requires : goal.u32_at-requires
unfolding body_lengths
u32_at-requires c = omega (arith, stands c.requires end_kind (end_kind_lem c.requires (search rules)))

pub returns-in-1 : goal.returns-in-1
returns-in-1 c = c.heading_in.ensures ∙ as_at c.requires heading_kind c.in-1.is

pub returns-in-2 : goal.returns-in-2
unfolding body_lengths
returns-in-2 c =
    rw c.share_in.ensures
    (party_is _ (omega (arith, stands c.requires party_kind c.in-2.is)) ∙ as_at c.requires party_kind c.in-2.is)

pub returns-in-3 : goal.returns-in-3
returns-in-3 c = rw (c.u16_at.ensures, c.flows_in.ensures) (fixed_is _ ∙ as_at c.requires fixed_hour_kind c.in-3.is)

pub returns-in-4 : goal.returns-in-4
returns-in-4 c = c.reading_in.ensures ∙ as_at c.requires reading_kind c.in-4.is

pub returns-in-5 : goal.returns-in-5
unfolding body_lengths
returns-in-5 c =
    let f : SFits w64 c.price_in.result = search rules in
    rw (to_z-of_z f, c.u16_at-in-5.ensures, c.price_in.ensures)
    (price_is _ (omega (arith, stands c.requires price_kind c.in-5.is)) ∙ as_at c.requires price_kind c.in-5.is)

pub returns-in-6 : goal.returns-in-6
returns-in-6 c = rw (c.u16_at-in-6.ensures, c.flows_in-in-6.ensures) (refixed_is _ ∙ as_at c.requires refixed_hour_kind c.in-6.is)

pub returns-in-8 : goal.returns-in-8
returns-in-8 c = c.long_reading_in.ensures ∙ as_at c.requires long_reading_kind c.in-8.is

pub returns-in-18 : goal.returns-in-18
unfolding body_lengths
returns-in-18 c =
    rw c.brp_share_in.ensures
    (brp_party_is _ (omega (arith, stands c.requires brp_party_kind c.in-18.is)) ∙ as_at c.requires brp_party_kind c.in-18.is)

pub returns-in_default : goal.returns-in_default
returns-in_default c = rw c.u32_at.ensures (end_is _ ∙ as_at c.requires end_kind (end_kind_lem c.requires (search rules)))
