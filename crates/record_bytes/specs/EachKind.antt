-- The bytes of an hour, and a party and a reading of either kind, in the words of the rules (01 "The month file").
use Rattle.std.specs.Prelude.{List, ℕ}
use Rattle.record.specs.declared.Reading as CReading
use Rattle.rules.specs.Flows.{Flows}
use Rattle.rules.specs.Record as RRecord
use Rattle.rules.specs.Words.{joined}

-- "03 fixed hour", "06 refixed hour: as 03": the bytes of either after its kind
unfoldable pub hour_bytes : ℕ → Flows → List ℕ
hour_bytes hour f = joined (RRecord.in_widths RRecord.hour_widths (RRecord.hour_fields hour f))

-- "02 party: GLN 13 ASCII digits, load share 8", W5: 12 with a BRP's GLN between them: a party with its own BRP or with another
abbrev pub party_with : List ℕ → RRecord.Brp → ℕ → RRecord.Party
party_with gln brp share = record { gln = gln; brp = brp; share = share }

-- "04 reading: party 1, a 2, b 2, E 4", W3: 08 with two weights besides: the numbers of a reading, over this month or over several
abbrev pub reading_over : CReading.Reading → RRecord.Over → RRecord.Reading
reading_over r over = record { party = r.party; a = r.a; b = r.b; e = r.e_wh; over = over }
