-- `record_write::encode` meets its contract: each kind is written by its own function, and a record without fault fits it. Assumes nothing.
use mir.Facts.{to_z-of_z}
use mir.Syntax.{w64}
use mir.Val.{SFits}
use Rattle.record_write.specs.Writing.{kind_of}
use Rattle.rules.specs.Record as RRecord
use Rattle.rules.proofs.EachKind.{body_lengths}
use Rattle.record_bytes.proofs.Encoding.{record_bytes_lem}
use mathlib.Core.Path.{ap}
use native.Mathlib.Omega.{arith}
use Rattle.record_write.proofs.WriteOne.{room_of, price_small}
use borrow.Author.Rules.{rules}
use Rattle.record_write.proofs.encode.Goals as goal

pub put_heading-requires : goal.put_heading-requires
unfolding body_lengths
put_heading-requires c = omega (arith, room_of c.requires RRecord.heading_kind (ap kind_of c.in-Heading.is))

pub put_party_record-requires : goal.put_party_record-requires
put_party_record-requires c = rw c.in-Party.is at c.requires

pub put_hour-requires : goal.put_hour-requires
unfolding body_lengths
put_hour-requires c = omega (arith, room_of c.requires RRecord.fixed_hour_kind (ap kind_of c.in-FixedHour.is))

pub put_reading-requires : goal.put_reading-requires
unfolding body_lengths
put_reading-requires c = room_of c.requires _ (ap kind_of c.in-Reading.is)

pub put_price-requires : goal.put_price-requires
unfolding body_lengths
put_price-requires c =
    let f : SFits w64 c.in-Price.price_ore = search rules in
    (rw (to_z-of_z f) (price_small c.requires c.in-Price.is), omega (arith, room_of c.requires RRecord.price_kind (ap kind_of c.in-Price.is)))

pub put_hour-requires-in-RefixedHour : goal.put_hour-requires-in-RefixedHour
unfolding body_lengths
put_hour-requires-in-RefixedHour c = omega (arith, room_of c.requires RRecord.refixed_hour_kind (ap kind_of c.in-RefixedHour.is))

pub put_end-requires : goal.put_end-requires
unfolding body_lengths
put_end-requires c = omega (arith, room_of c.requires RRecord.end_kind (ap kind_of c.in-End.is))

pub returns-in-Heading : goal.returns-in-Heading
returns-in-Heading c = rw c.in-Heading.is c.put_heading.ensures

pub returns-in-Party : goal.returns-in-Party
returns-in-Party c = rw c.in-Party.is c.put_party_record.ensures

pub returns-in-FixedHour : goal.returns-in-FixedHour
unfolding record_bytes_lem
returns-in-FixedHour c = rw c.in-FixedHour.is c.put_hour.ensures

pub returns-in-Reading : goal.returns-in-Reading
returns-in-Reading c = rw c.in-Reading.is c.put_reading.ensures

pub returns-in-Price : goal.returns-in-Price
returns-in-Price c =
    let f : SFits w64 c.in-Price.price_ore = search rules in
    rw c.in-Price.is (rw (to_z-of_z f) at c.put_price.ensures)

pub returns-in-RefixedHour : goal.returns-in-RefixedHour
unfolding record_bytes_lem
returns-in-RefixedHour c = rw c.in-RefixedHour.is c.put_hour-in-RefixedHour.ensures

pub returns-in-End : goal.returns-in-End
returns-in-End c = rw c.in-End.is c.put_end.ensures
