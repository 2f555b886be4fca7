-- THE RECORD WRITER ON PLAIN NUMBERS: the kind is a number and the fields are a list of numbers, with a party's GLN and its BRP's GLN beside them. So the kind may be unknown,
-- which a record's can not: "The record writer tests 2, 4, 5, 11, 12 and then 16, all at place 0" (01 "Refusal numbers"). And the list may have another length
-- than the kind has fields, or a number that its field can not hold: that one "is judged as if the field could" (READINGS A43; quoted below, too).
-- A new kind is one clause of `plain_record`.
use Rattle.std.specs.Prelude.{Bool, true, false, cond, ◌&&◌, List, [], ◌∷◌, ℕ, ◌^◌, eqb, ltb, ℤ, pos, negsuc, get_or}
use Rattle.std.specs.Int.Signed.{le_z}
use Rattle.rules.specs.Flows.{Flows}
use Rattle.rules.specs.Record.{heading_kind, party_kind, fixed_hour_kind, reading_kind, price_kind, refixed_hour_kind, end_kind, long_reading_kind, brp_party_kind, known, Heading}
use Rattle.rules.specs.Record.{own_brp, named_brp, party_from, Over, this_month, many_months, Reading, Record, never_asked}
use Rattle.rules.specs.Record.{heading, party, fixed_hour, reading, price, refixed_hour, end, Field, number, signed_number, digits, fields_of, write_verdict}
use Rattle.rules.specs.Refusals.{unknown_kind, out_of_range, Verdict, unless, first}

-- The k-th number, and the same in a field that has no sign. (One below 0 is refused there, below; what is written for it here is 0.)
abbrev pub nth : List ℤ → ℕ → ℤ
nth numbers k = get_or numbers k (pos 0)

unfoldable pub no_sign : ℤ → ℕ
no_sign (pos n) = n
no_sign (negsuc n) = 0

unfoldable pub nth_no_sign : List ℤ → ℕ → ℕ
nth_no_sign numbers k = no_sign (nth numbers k)

-- THE RECORD that a kind, its numbers and its GLNs are: each number as it is, however large
unfoldable pub plain_heading : List ℤ → Heading
plain_heading l =
    record { area = nth_no_sign l 0; year = nth_no_sign l 1; month = nth_no_sign l 2; hours = nth_no_sign l 3; parties = nth_no_sign l 4; carrier = nth_no_sign l 5 }

unfoldable pub plain_flows : List ℤ → Flows
plain_flows l =
    record { status = nth_no_sign l 1; net = nth l 2; production = nth_no_sign l 3; hourly = nth_no_sign l 4; flex = nth_no_sign l 5 }

unfoldable pub plain_reading : List ℤ → Over → Reading
plain_reading l over = record { party = nth_no_sign l 0; a = nth_no_sign l 1; b = nth_no_sign l 2; e = nth_no_sign l 3; over = over }

unfoldable pub plain_record : ℕ → List ℤ → List ℕ → List ℕ → Record
plain_record kind l gln brp_gln =
    cond (eqb kind heading_kind) (heading (plain_heading l))
    (cond (eqb kind party_kind) (party (party_from gln own_brp (nth_no_sign l 0)))
    (cond (eqb kind fixed_hour_kind) (fixed_hour (nth_no_sign l 0) (plain_flows l))
    (cond (eqb kind reading_kind) (reading (plain_reading l this_month))
    (cond (eqb kind price_kind) (price (nth_no_sign l 0) (nth l 1))
    (cond (eqb kind refixed_hour_kind) (refixed_hour (nth_no_sign l 0) (plain_flows l))
    (cond (eqb kind end_kind) (end (nth_no_sign l 0))
    (cond (eqb kind long_reading_kind) (reading (plain_reading l (many_months (nth_no_sign l 4) (nth_no_sign l 5))))
    (cond (eqb kind brp_party_kind) (party (party_from gln (named_brp brp_gln) (nth_no_sign l 0))) never_asked))))))))

-- 4: "a list of fields of another length than the kind has", and a number "below 0 in a field that has no sign .., whatever the field". Every field has its
-- number and no number is left over; a GLN's digits are none of the numbers.
unfoldable pub stand_in : List Field → List ℤ → Bool
stand_in [] [] = true
stand_in [] (z ∷ numbers) = false
stand_in (number n ∷ fields) [] = false
stand_in (number n ∷ fields) (z ∷ numbers) = le_z (pos 0) z && stand_in fields numbers
stand_in (signed_number s ∷ fields) [] = false
stand_in (signed_number s ∷ fields) (z ∷ numbers) = stand_in fields numbers
stand_in (digits gln ∷ fields) numbers = stand_in fields numbers

-- 4: "the end count may be any 4 bytes" (01), W3: "The record writer takes any weights", of 8 bytes each; and no more than the bytes hold. (Every other field
-- has a rule of its own, which a number beyond its field fails.)
unfoldable pub fields_hold : ℕ → List ℤ → Bool
fields_hold kind numbers =
    cond (eqb kind end_kind) (ltb (nth_no_sign numbers 0) (256 ^ 4))
    (cond (eqb kind long_reading_kind) (ltb (nth_no_sign numbers 4) (256 ^ 8) && ltb (nth_no_sign numbers 5) (256 ^ 8)) true)

-- 2 first, then 4 of the list, then as the writer of that record: "above, by the field's own rule (a or b 11, E 12, else 4)"
unfoldable pub plain_verdict : ℕ → List ℤ → List ℕ → List ℕ → ℕ → Verdict
plain_verdict kind numbers gln brp_gln lent =
    first
    (unless (known kind) unknown_kind 0
    ∷ unless (stand_in (fields_of (plain_record kind numbers gln brp_gln)) numbers && fields_hold kind numbers) out_of_range 0
    ∷ write_verdict (plain_record kind numbers gln brp_gln) lent
    ∷ [])
