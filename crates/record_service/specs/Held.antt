-- What the functions of this crate compute on the way: the tests of a list of numbers, and the record of these numbers in fields of so many bytes, where a
-- number that its field can not hold is the nearest that it can. That this comes to what the rules say of the numbers themselves is proved in proofs/Alike.
use Rattle.std.specs.Prelude.{Bool, true, cond, ◌&&◌, ◌||◌, List, [], ◌∷◌, ℕ, suc, eqb, leb, ℤ, pos, negsuc, nat_abs, length}
use Rattle.std.specs.Int.Signed.{le_z}
use Rattle.record.specs.declared.Brp.TheVariants.{Own, Named}
use Rattle.record.specs.declared.Heading as CHeading
use Rattle.record.specs.declared.Flows as CFlows
use Rattle.record.specs.declared.Over as COver
use Rattle.record.specs.declared.Over.TheVariants.{ThisMonth, ManyMonths}
use Rattle.record.specs.declared.Reading as CReading
use Rattle.record.specs.declared.Record.{Record}
use Rattle.record.specs.declared.Record.TheVariants.{Heading, Party, FixedHour, Reading, Price, RefixedHour, End}
use Rattle.rules.specs.PlainRecord.{nth}
use Rattle.rules.specs.Record.{heading_kind, party_kind, fixed_hour_kind, reading_kind, price_kind, refixed_hour_kind, end_kind, long_reading_kind, brp_party_kind, field_widths}

-- how many numbers a kind has: one for each field, but none for a party's GLN or its BRP's, which stand beside them
unfoldable pub field_count : ℕ → ℕ
field_count kind = cond (eqb kind party_kind || eqb kind brp_party_kind) 1 (length (field_widths kind))

-- the place of the number that may be negative, an hour's net supply or the price; past the last place of the longest list where there is none
unfoldable pub signed_place : ℕ → ℕ
signed_place kind = cond (eqb kind fixed_hour_kind) 2 (cond (eqb kind refixed_hour_kind) 2 (cond (eqb kind price_kind) 1 6))

-- every number from place i on is 0 or more, but for the one that may be negative
unfoldable pub signs_from : ℕ → ℕ → List ℤ → Bool
signs_from signed i [] = true
signs_from signed i (z ∷ zs) = (eqb i signed || le_z (pos 0) z) && signs_from signed (suc i) zs

-- an end count has room in its four bytes ("any 4 bytes" are good), and a weight in its eight
unfoldable pub fields_held : ℕ → List ℤ → Bool
fields_held kind numbers =
    cond (eqb kind end_kind) (leb (nat_abs (nth numbers 0)) 4294967295)
    (cond (eqb kind long_reading_kind) (leb (nat_abs (nth numbers 4)) 18446744073709551615 && leb (nat_abs (nth numbers 5)) 18446744073709551615) true)

-- the list has the kind's length, no number is negative in an unsigned field, and those that no rule bounds have room in their bytes
unfoldable pub list_right : ℕ → List ℤ → Bool
list_right kind numbers =
    eqb (length numbers) (field_count kind) && signs_from (signed_place kind) 0 numbers && fields_held kind numbers

-- the nearest number of 0 .. most: one outside its range stays outside, since every range ends below what its field can hold
unfoldable pub held_in : ℕ → ℤ → ℕ
held_in most (pos n) = cond (leb n most) n most
held_in most (negsuc n) = 0

unfoldable pub held : ℕ → List ℤ → ℕ → ℕ
held most numbers k = held_in most (nth numbers k)

abbrev pub held_heading : List ℤ → CHeading.Heading
held_heading l =
    record { area = held 65535 l 0; year = held 65535 l 1; month = held 255 l 2; hours = held 65535 l 3; parties = held 255 l 4; carrier = held 255 l 5 }

abbrev pub held_flows : List ℤ → CFlows.Flows
held_flows l =
    record {
      status = held 255 l 1;
      net_wh = nth l 2;
      production_wh = held 18446744073709551615 l 3;
      hourly_wh = held 18446744073709551615 l 4;
      flex_wh = held 18446744073709551615 l 5;
    }

abbrev pub held_reading : List ℤ → COver.Over → CReading.Reading
held_reading l over = record { party = held 255 l 0; a = held 65535 l 1; b = held 65535 l 2; e_wh = held 4294967295 l 3; over = over }

abbrev pub held_weights : List ℤ → COver.Over
held_weights l = ManyMonths (held 18446744073709551615 l 4) (held 18446744073709551615 l 5)

-- the record of a kind and its numbers; the kind that is none of the others is the end (an unknown one is refused first)
unfoldable pub held_record : ℕ → List ℤ → Record
held_record kind l =
    cond (eqb kind heading_kind) (Heading (held_heading l))
    (cond (eqb kind party_kind) (Party Own (held 18446744073709551615 l 0))
    (cond (eqb kind fixed_hour_kind) (FixedHour (held 65535 l 0) (held_flows l))
    (cond (eqb kind reading_kind) (Reading (held_reading l ThisMonth))
    (cond (eqb kind price_kind) (Price (held 65535 l 0) (nth l 1))
    (cond (eqb kind refixed_hour_kind) (RefixedHour (held 65535 l 0) (held_flows l))
    (cond (eqb kind long_reading_kind) (Reading (held_reading l (held_weights l)))
    (cond (eqb kind brp_party_kind) (Party Named (held 18446744073709551615 l 0)) (End (held 4294967295 l 0)))))))))
