-- WHAT A RECORD KIND IS (01 "The month file"), all of it here: its number, its fields and their widths, the record that its fields are and back, what a
-- record adds to the month, when it is due and what is tested of it. A new kind is one entry or clause of `layouts`, `Record`, `record_from`, `kind_of`,
-- `fields_of`, `with`, `due` and `checks`; and of `records_of` and `Whole` (specs/WellFormed).
use Rattle.std.specs.Prelude.{Bool, true, cond, ◌&&◌, ◌||◌, List, [], ◌∷◌, ◌++◌, ℕ, zero, suc, ◌+◌, ◌-◌, ◌*◌, ◌^◌, ◌/◌, ◌%◌, eqb, leb, ltb, ℤ, pos, negsuc, length, get_or, take, drop}
use Rattle.rules.specs.Flows.{Flows, flows_in_range, silent_is_zero}
use Rattle.rules.specs.Gln.{valid_gln, rises}
use Rattle.rules.specs.Limits.{greatest_area, earliest_year, latest_year, months_of_aYear, most_hours, most_parties, greatest_share, greatest_energy, greatest_price, gln_digits}
use Rattle.rules.specs.Refusals.{file_fault, unknown_kind, out_of_range, gln_fault, span_fault, energy_too_large, wrong_count, wrong_length, Verdict, Answer, unless, first, answer}
use Rattle.rules.specs.Setting.{Prices, needed, optional}
use Rattle.rules.specs.Words.{at, within, within_ℤ, joined}

-- THE KINDS: "One byte of kind, then a body."
abbrev pub heading_kind : ℕ
heading_kind = 1

abbrev pub party_kind : ℕ
party_kind = 2

abbrev pub fixed_hour_kind : ℕ
fixed_hour_kind = 3

abbrev pub reading_kind : ℕ
reading_kind = 4

abbrev pub price_kind : ℕ
price_kind = 5

abbrev pub refixed_hour_kind : ℕ
refixed_hour_kind = 6

abbrev pub end_kind : ℕ
end_kind = 7

-- W3: "A new record 08 .. stands among the 04 records": a reading over several months
abbrev pub long_reading_kind : ℕ
long_reading_kind = 8

-- W5: "A new party record 12 hexadecimal": a supplier with its balance responsible party (BRP)
abbrev pub brp_party_kind : ℕ
brp_party_kind = 18

-- "03 fixed hour: hour 2, status 1, net supply 8, production 8, hourly 8, flex 8", "06 refixed hour: as 03"
abbrev pub hour_widths : List ℕ
hour_widths = 2 ∷ 1 ∷ 8 ∷ 8 ∷ 8 ∷ 8 ∷ []

-- The table of 01, "kind", "fields (bytes)": each kind with the number of bytes of each of its fields, in order. "01 heading: area 2, year 2, month 1,
-- hours H 2, parties P 1, loss carrier 1", "02 party: GLN 13 ASCII digits, load share 8", "04 reading: party 1, a 2, b 2, E 4", "05 price: hour 2, price 4",
-- "07 end: number of records before it 4". W3: "08 (body 25: party 1, a 2, b 2, E 4, weight before this month 8, weight of the whole reading 8)".
-- W5: "12 hexadecimal (body 34: supplier GLN 13, BRP GLN 13, load share 8)".
unfoldable pub layouts : List (ℕ × List ℕ)
layouts =
    (heading_kind, 2 ∷ 2 ∷ 1 ∷ 2 ∷ 1 ∷ 1 ∷ [])
    ∷ (party_kind, gln_digits ∷ 8 ∷ [])
    ∷ (fixed_hour_kind, hour_widths)
    ∷ (reading_kind, 1 ∷ 2 ∷ 2 ∷ 4 ∷ [])
    ∷ (price_kind, 2 ∷ 4 ∷ [])
    ∷ (refixed_hour_kind, hour_widths)
    ∷ (end_kind, 4 ∷ [])
    ∷ (long_reading_kind, 1 ∷ 2 ∷ 2 ∷ 4 ∷ 8 ∷ 8 ∷ [])
    ∷ (brp_party_kind, gln_digits ∷ gln_digits ∷ 8 ∷ [])
    ∷ []

-- the widths that a table has for a kind: none for a kind that is not in it
unfoldable pub widths_in : List (ℕ × List ℕ) → ℕ → List ℕ
widths_in [] kind = []
widths_in (entry ∷ more) kind = cond (eqb entry.0 kind) entry.1 (widths_in more kind)

unfoldable pub field_widths : ℕ → List ℕ
field_widths kind = widths_in layouts kind

-- "The body lengths, by kind, are these": a body is its fields one after the other. (Law `lengths_are`: 9, 21, 35, 9, 6, 35, 4, 25, 34.) Of an unknown kind it is 0.
unfoldable pub total_of : List ℕ → ℕ
total_of [] = 0
total_of (width ∷ widths) = width + total_of widths

unfoldable pub body_length : ℕ → ℕ
body_length kind = total_of (field_widths kind)

unfoldable pub known : ℕ → Bool
known kind = leb 1 (body_length kind)

-- THE RECORDS
pub record Heading : Type 0 where
  pub area : ℕ
  pub year : ℕ
  pub month : ℕ
  pub hours : ℕ
  pub parties : ℕ
  pub carrier : ℕ

-- Who is balance responsible for a supplier. W5: "A file with 02 records is still read, each party being its own BRP"; a 12 record names the BRP by its GLN.
pub data Brp : Type 0 where
  own_brp : Brp
  named_brp : List ℕ → Brp

-- a supplier
pub record Party : Type 0 where
  pub gln : List ℕ
  pub brp : Brp
  pub share : ℕ

-- the GLN of a supplier's BRP
abbrev pub brp_gln_of : List ℕ → Brp → List ℕ
brp_gln_of gln own_brp = gln
brp_gln_of gln (named_brp brp_gln) = brp_gln

abbrev pub brp_gln : Party → List ℕ
brp_gln p = brp_gln_of p.gln p.brp

-- What a reading's E lies over: the hours from a to before b of this month (04), or several months, of which those before this one weigh so much and all
-- together so much (W3, 08: "weight before this month 8, weight of the whole reading 8").
pub data Over : Type 0 where
  this_month : Over
  many_months : ℕ → ℕ → Over

-- W3: '"reading" in 01 counts 04 and 08 together'
pub record Reading : Type 0 where
  pub party : ℕ
  pub a : ℕ
  pub b : ℕ
  pub e : ℕ
  pub over : Over

-- A record, by kind; a party is of the kind 02 or 12 by its BRP, a reading 04 or 08 by what it lies over. Of an hour, a refixed hour and a price the first number is the hour field; an end
-- has the number of records before it.
pub data Record : Type 0 where
  heading : Heading → Record
  party : Party → Record
  fixed_hour : ℕ → Flows → Record
  reading : Reading → Record
  price : ℕ → ℤ → Record
  refixed_hour : ℕ → Flows → Record
  end : ℕ → Record

-- NUMBERS AS BYTES. "Numbers are big-endian": the first byte counts most
unfoldable pub number_onto : ℕ → List ℕ → ℕ
number_onto before [] = before
number_onto before (byte ∷ rest) = number_onto (before * 256 + byte) rest

-- n in so many bytes, the first counting most
unfoldable pub bytes_of : ℕ → ℕ → List ℕ
bytes_of zero n = []
bytes_of (suc width) n = bytes_of width (n / 256) ++ ((n % 256) ∷ [])

-- "net supply and price are two's complement": the upper half of the numbers of a width stands for the negative ones
unfoldable pub signed : ℕ → ℕ → ℤ
signed width n = cond (ltb n (256 ^ width / 2)) (pos n) (negsuc (256 ^ width - 1 - n))

unfoldable pub unsigned : ℕ → ℤ → ℕ
unsigned width (pos n) = n
unsigned width (negsuc n) = 256 ^ width - 1 - n

-- READING A RECORD: its body is cut into its fields by their widths
unfoldable pub cut_into : List ℕ → List ℕ → List (List ℕ)
cut_into [] body = []
cut_into (width ∷ widths) body = take width body ∷ cut_into widths (drop width body)

-- the k-th field as bytes, as a number, and as a number that may be negative
unfoldable pub field : List (List ℕ) → ℕ → List ℕ
field fields k = get_or fields k []

unfoldable pub number_at : List (List ℕ) → ℕ → ℕ
number_at fields k = number_onto 0 (field fields k)

unfoldable pub signed_at : List (List ℕ) → ℕ → ℤ
signed_at fields k = signed (length (field fields k)) (number_at fields k)

unfoldable pub heading_from : List (List ℕ) → Heading
heading_from fields =
    record { area = number_at fields 0; year = number_at fields 1; month = number_at fields 2; hours = number_at fields 3; parties = number_at fields 4; carrier = number_at fields 5 }

unfoldable pub flows_from : List (List ℕ) → Flows
flows_from fields =
    record { status = number_at fields 1; net = signed_at fields 2; production = number_at fields 3; hourly = number_at fields 4; flex = number_at fields 5 }

unfoldable pub reading_from : List (List ℕ) → Over → Reading
reading_from fields over = record { party = number_at fields 0; a = number_at fields 1; b = number_at fields 2; e = number_at fields 3; over = over }

unfoldable pub party_from : List ℕ → Brp → ℕ → Party
party_from gln brp share = record { gln = gln; brp = brp; share = share }

-- An unknown kind is no record and is refused (2) before its record is asked for. A definition has to give something: this, which nothing looks at.
unfoldable pub never_asked : Record
never_asked = end 0

-- the record that a kind and its fields are
unfoldable pub record_from : ℕ → List (List ℕ) → Record
record_from kind fields =
    cond (eqb kind heading_kind) (heading (heading_from fields))
    (cond (eqb kind party_kind) (party (party_from (field fields 0) own_brp (number_at fields 1)))
    (cond (eqb kind fixed_hour_kind) (fixed_hour (number_at fields 0) (flows_from fields))
    (cond (eqb kind reading_kind) (reading (reading_from fields this_month))
    (cond (eqb kind price_kind) (price (number_at fields 0) (signed_at fields 1))
    (cond (eqb kind refixed_hour_kind) (refixed_hour (number_at fields 0) (flows_from fields))
    (cond (eqb kind end_kind) (end (number_at fields 0))
    (cond (eqb kind long_reading_kind) (reading (reading_from fields (many_months (number_at fields 4) (number_at fields 5))))
    (cond (eqb kind brp_party_kind) (party (party_from (field fields 0) (named_brp (field fields 1)) (number_at fields 2))) never_asked))))))))

-- the kind and the record that stand at the start of some bytes
unfoldable pub kind_at : List ℕ → ℕ
kind_at bytes = at bytes 0

unfoldable pub record_at : List ℕ → Record
record_at bytes = record_from (kind_at bytes) (cut_into (field_widths (kind_at bytes)) (drop 1 bytes))

-- WRITING A RECORD: what stands in a field is a number, a number that may be negative, or digits as they are
pub data Field : Type 0 where
  number : ℕ → Field
  signed_number : ℤ → Field
  digits : List ℕ → Field

unfoldable pub field_bytes : ℕ → Field → List ℕ
field_bytes width (number n) = bytes_of width n
field_bytes width (signed_number z) = bytes_of width (unsigned width z)
field_bytes width (digits bytes) = bytes

-- each field in its width
unfoldable pub in_widths : List ℕ → List Field → List (List ℕ)
in_widths [] fields = []
in_widths (width ∷ widths) [] = []
in_widths (width ∷ widths) (f ∷ fields) = field_bytes width f ∷ in_widths widths fields

-- a record's kind, and its fields in order
abbrev pub party_kind_of : Brp → ℕ
party_kind_of own_brp = party_kind
party_kind_of (named_brp brp_gln) = brp_party_kind

abbrev pub reading_kind_of : Over → ℕ
reading_kind_of this_month = reading_kind
reading_kind_of (many_months before whole) = long_reading_kind

abbrev pub kind_of : Record → ℕ
kind_of (heading h) = heading_kind
kind_of (party p) = party_kind_of p.brp
kind_of (fixed_hour hour f) = fixed_hour_kind
kind_of (reading r) = reading_kind_of r.over
kind_of (price hour p) = price_kind
kind_of (refixed_hour hour f) = refixed_hour_kind
kind_of (end count) = end_kind

unfoldable pub hour_fields : ℕ → Flows → List Field
hour_fields hour f =
    number hour ∷ number f.status ∷ signed_number f.net ∷ number f.production ∷ number f.hourly ∷ number f.flex ∷ []

unfoldable pub brp_fields : Brp → List Field
brp_fields own_brp = []
brp_fields (named_brp brp_gln) = digits brp_gln ∷ []

unfoldable pub weight_fields : Over → List Field
weight_fields this_month = []
weight_fields (many_months before whole) = number before ∷ number whole ∷ []

unfoldable pub fields_of : Record → List Field
fields_of (heading h) =
    number h.area ∷ number h.year ∷ number h.month ∷ number h.hours ∷ number h.parties ∷ number h.carrier ∷ []
fields_of (party p) = digits p.gln ∷ (brp_fields p.brp ++ (number p.share ∷ []))
fields_of (fixed_hour hour f) = hour_fields hour f
fields_of (reading r) = number r.party ∷ number r.a ∷ number r.b ∷ number r.e ∷ weight_fields r.over
fields_of (price hour p) = number hour ∷ signed_number p ∷ []
fields_of (refixed_hour hour f) = hour_fields hour f
fields_of (end count) = number count ∷ []

-- a record's bytes: its kind, then its fields one after the other
unfoldable pub record_bytes : Record → List ℕ
record_bytes r = kind_of r ∷ joined (in_widths (field_widths (kind_of r)) (fields_of r))

-- WHAT A RECORD ADDS TO THE MONTH

-- What has been read so far, and at the end the month: the heading, then a list for each kind, in file order.
pub record MonthFile : Type 0 where
  pub heading : Heading
  pub parties : List Party
  pub fixed : List Flows
  pub refixed : List Flows
  pub prices : List ℤ
  pub readings : List Reading

-- before the first record: H and P are 0 until the heading gives them
unfoldable pub nothing_yet : MonthFile
nothing_yet =
    record { heading = record { area = 0; year = 0; month = 0; hours = 0; parties = 0; carrier = 0 }; parties = []; fixed = []; refixed = []; prices = []; readings = [] }

-- H and P, as the heading gives them
unfoldable pub H : MonthFile → ℕ
H m = m.heading.hours

unfoldable pub P : MonthFile → ℕ
P m = m.heading.parties

-- The month with one of its parts put anew. (A record is always written out whole here: each of these names the part that changes and copies the others.)
abbrev pub set_heading : MonthFile → Heading → MonthFile
set_heading m x =
    record { heading = x; parties = m.parties; fixed = m.fixed; refixed = m.refixed; prices = m.prices; readings = m.readings }

abbrev pub set_parties : MonthFile → List Party → MonthFile
set_parties m x =
    record { heading = m.heading; parties = x; fixed = m.fixed; refixed = m.refixed; prices = m.prices; readings = m.readings }

abbrev pub set_fixed : MonthFile → List Flows → MonthFile
set_fixed m x =
    record { heading = m.heading; parties = m.parties; fixed = x; refixed = m.refixed; prices = m.prices; readings = m.readings }

abbrev pub set_refixed : MonthFile → List Flows → MonthFile
set_refixed m x =
    record { heading = m.heading; parties = m.parties; fixed = m.fixed; refixed = x; prices = m.prices; readings = m.readings }

abbrev pub set_prices : MonthFile → List ℤ → MonthFile
set_prices m x =
    record { heading = m.heading; parties = m.parties; fixed = m.fixed; refixed = m.refixed; prices = x; readings = m.readings }

abbrev pub set_readings : MonthFile → List Reading → MonthFile
set_readings m x =
    record { heading = m.heading; parties = m.parties; fixed = m.fixed; refixed = m.refixed; prices = m.prices; readings = x }

-- what has been read, with one record more
unfoldable pub with : MonthFile → Record → MonthFile
with m (heading h) = set_heading m h
with m (party p) = set_parties m (m.parties ++ (p ∷ []))
with m (fixed_hour hour f) = set_fixed m (m.fixed ++ (f ∷ []))
with m (reading r) = set_readings m (m.readings ++ (r ∷ []))
with m (price hour p) = set_prices m (m.prices ++ (p ∷ []))
with m (refixed_hour hour f) = set_refixed m (m.refixed ++ (f ∷ []))
with m (end count) = m

-- THE ORDER (3, "kind or hour field out of order"). "Order: one 01; P times 02; H times 03; none or H times 06; H times 05; any number of 04; one 07. Hour
-- fields run 0, 1, 2 and so on": whether a record is due next. W3: an 08 "stands among the 04 records", in any order. W5: a 12 "may stand in place of 02 for all
-- parties of a file"; "a mixture of 02 and 12 is 3": a party's record is of the kind of the party's before it. W6: "A file for the first alone may have no 05
-- records": none or H times 05; where the prices are needed `priced_for` asks for all of them.
unfoldable pub after_the_last : (Party → Party → Bool) → List Party → Party → Bool
after_the_last test [] p = true
after_the_last test (q ∷ []) p = test q p
after_the_last test (q ∷ (q' ∷ qs)) p = after_the_last test (q' ∷ qs) p

abbrev pub alike : Party → Party → Bool
alike q p = eqb (party_kind_of q.brp) (party_kind_of p.brp)

unfoldable pub alike_after : List Party → Party → Bool
alike_after parties p = after_the_last alike parties p

-- H times 03, and none or H times 06
unfoldable pub hours_there : MonthFile → Bool
hours_there m = eqb (length m.fixed) (H m) && (eqb (length m.refixed) 0 || eqb (length m.refixed) (H m))

-- H times 05, or none: where none is there yet, the hours are
unfoldable pub prices_there : MonthFile → Bool
prices_there m = eqb (length m.prices) (H m) || (eqb (length m.prices) 0 && hours_there m)

unfoldable pub due : MonthFile → Record → Bool
due m (heading h) = eqb (H m) 0
due m (party p) = ltb (length m.parties) (P m) && alike_after m.parties p
due m (fixed_hour hour f) = eqb (length m.parties) (P m) && ltb (length m.fixed) (H m) && eqb hour (length m.fixed)
due m (refixed_hour hour f) =
    eqb (length m.fixed) (H m) && ltb (length m.refixed) (H m) && eqb (length m.prices) 0 && eqb (length m.readings) 0
    && eqb hour (length m.refixed)
due m (price hour p) =
    hours_there m && ltb (length m.prices) (H m) && eqb (length m.readings) 0 && eqb hour (length m.prices)
due m (reading r) = leb 1 (H m) && prices_there m
due m (end count) = leb 1 (H m) && prices_there m

-- Where the prices are needed, nothing that comes after them is due before all are there: "the statement program goes on refusing such a file with 3", at the
-- record that stands where hour 0's price is due (law `refused_where_a_price_is_due`).
unfoldable pub all_priced : Prices → MonthFile → Bool
all_priced needed m = eqb (length m.prices) (H m)
all_priced optional m = true

unfoldable pub priced_for : Prices → MonthFile → Record → Bool
priced_for prices m (heading h) = true
priced_for prices m (party p) = true
priced_for prices m (fixed_hour hour f) = true
priced_for prices m (refixed_hour hour f) = true
priced_for prices m (price hour p) = true
priced_for prices m (reading r) = all_priced prices m
priced_for prices m (end count) = all_priced prices m

-- WHERE A RECORD STANDS: in a file, after what was read of it so far, as record number n; or by itself, with so many hours and parties, at a place.
pub data Position : Type 0 where
  in_file : MonthFile → ℕ → Position
  by_itself : ℕ → ℕ → ℕ → Position

-- "There b above 745 is 11; an hour above 744 or a reading's party above 63 is 4": a record alone has the most hours and parties that a file can have
abbrev pub alone : Position
alone = by_itself most_hours most_parties 0

abbrev pub hours_of : Position → ℕ
hours_of (in_file m n) = H m
hours_of (by_itself hours parties place) = hours

abbrev pub parties_of : Position → ℕ
parties_of (in_file m n) = P m
parties_of (by_itself hours parties place) = parties

abbrev pub place_of : Position → ℕ
place_of (in_file m n) = n
place_of (by_itself hours parties place) = place

-- "GLNs rise strictly.": a party's GLN is above that of the party before it. Of a record by itself "file order or rising GLNs" are not asked. W5:
-- "BRP GLNs need not rise and may repeat."
unfoldable pub rises_after : List Party → Party → Bool
rises_after parties p = after_the_last (λ q p. rises q.gln p.gln) parties p

abbrev pub rises_at : Position → Party → Bool
rises_at (in_file m n) p = rises_after m.parties p
rises_at (by_itself hours parties place) p = true

-- "07 end: number of records before it". By itself "the end count may be any 4 bytes".
abbrev pub counts_at : Position → ℕ → Bool
counts_at (in_file m n) count = eqb count n
counts_at (by_itself hours parties place) count = true

-- "Area 1..999. Year 2000..2099. Month 1..12. H 1..745. P 1..64; loss carrier .. below P."
unfoldable pub heading_in_range : Heading → Bool
heading_in_range h =
    within 1 greatest_area h.area && within earliest_year latest_year h.year && within 1 months_of_aYear h.month
    && within 1 most_hours h.hours
    && within 1 most_parties h.parties
    && ltb h.carrier h.parties

-- an hour field below H, "Net supply -8,000,000,000..8,000,000,000; other flows 0..8,000,000,000", "With status 0 a figure other than 0 is refused with 4"
unfoldable pub hour_in_range : ℕ → ℕ → Flows → Bool
hour_in_range hours hour f = ltb hour hours && flows_in_range f && silent_is_zero f

-- THE CHECKS OF A RECORD'S FIELDS, kind by kind, each list in the order "4, 5, 11, 12, 15" (5: "GLN not digits, wrong check digit, not rising").
-- W3: those of an 08 are those of a 04; its weights may be any. W5: "a bad BRP GLN is 5". (The BRP of a 02 is the party itself, and has its GLN.)
unfoldable pub checks : Position → Record → List Verdict
checks here (heading h) = unless (heading_in_range h) out_of_range (place_of here) ∷ []
checks here (party p) =
    unless (leb p.share greatest_share) out_of_range (place_of here)
    ∷ unless (valid_gln p.gln) gln_fault (place_of here)
    ∷ unless (valid_gln (brp_gln p)) gln_fault (place_of here)
    ∷ unless (rises_at here p) gln_fault (place_of here)
    ∷ []
checks here (fixed_hour hour f) = unless (hour_in_range (hours_of here) hour f) out_of_range (place_of here) ∷ []
checks here (reading r) =
    unless (ltb r.party (parties_of here)) out_of_range (place_of here)
    ∷ unless (ltb r.a r.b && leb r.b (hours_of here)) span_fault (place_of here)
    ∷ unless (leb r.e greatest_energy) energy_too_large (place_of here)
    ∷ []
checks here (price hour p) =
    unless (ltb hour (hours_of here) && within_ℤ greatest_price p) out_of_range (place_of here) ∷ []
checks here (refixed_hour hour f) = unless (hour_in_range (hours_of here) hour f) out_of_range (place_of here) ∷ []
checks here (end count) = unless (counts_at here count) wrong_count (place_of here) ∷ []

-- ONE RECORD ALONE

-- "One record can also be read alone, by 2, 1 and then the same rules (an empty part is 1); bytes after it are not looked at."
unfoldable pub read_alone : List ℕ → Answer Record
read_alone bytes =
    answer
    (first
    (unless (leb 1 (length bytes)) file_fault 0
    ∷ unless (known (kind_at bytes)) unknown_kind 0
    ∷ unless (leb (1 + body_length (kind_at bytes)) (length bytes)) file_fault 0
    ∷ checks alone (record_at bytes)))
    (record_at bytes)

-- "The record writer .. judges the fields of one record (4, 5, 11, 12)", then 16, "record writer: too short", all at place 0. W3: "The record writer takes any
-- weights."
unfoldable pub write_verdict : Record → ℕ → Verdict
write_verdict r lent = first (checks alone r ++ (unless (leb (length (record_bytes r)) lent) wrong_length 0 ∷ []))

-- It "takes one record's fields and a lent part, writes kind and body at its start, touches nothing further on and tells the bytes
-- written": what the part then holds.
unfoldable pub written : Record → List ℕ → List ℕ
written r lent = record_bytes r ++ drop (length (record_bytes r)) lent
