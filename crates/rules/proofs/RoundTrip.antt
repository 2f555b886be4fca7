-- Demand 2: "a record written is read back the same, and a record read is written back as the same bytes". A number's bytes read as the number and back,
-- the fields of a body glued together are cut out again, and two's complement undoes itself; so both ways hold for every kind.
use mathlib.Core.Bool.{Bool, true, false, cond, ◌&&◌}
use mathlib.Core.List.{List, [], ◌∷◌, ◌++◌, append_assoc}
use mathlib.Core.Path.{◌≡◌, refl, sym, ◌∙◌, ap, ap₂}
use Prim.Native.Nat.{ℕ, zero, suc, ◌+◌, ◌-◌, ◌*◌, ◌/◌, ◌%◌, ◌^◌, ◌≤◌, ◌<◌}
use native.Mathlib.Nat.{pow-suc}
use native.Mathlib.Numerals.{one-add}
use native.Mathlib.Omega.{arith}
use borrow.Author.Tests.{ltb-true, leb-true, eqb-true, lt-ltb, le-ltb, le-leb}
use lib.Dec.{leb, ltb}
use lib.IntN.{ℤ, pos, negsuc}
use lib.ListN.{length, get_or, take, drop, length-append, length-drop}
use lib.Seq.{take_at, drop_at, drop-cons, drop-drop, take-suc, take-add, take_all, get_or-drop, length-take-le}
use lib.Signed.{mag, le_z}
use Rattle.rules.specs.Accepted.{NoneRefuses}
use Rattle.rules.specs.Flows.{Flows, flows_in_range, silent_is_zero}
use Rattle.rules.specs.Gln.{valid_gln}
use Rattle.rules.specs.Limits.{estimated, most_hours, most_parties, greatest_share, greatest_flow, greatest_energy, greatest_price, gln_digits}
use Rattle.rules.specs.Record.{Brp, own_brp, named_brp, Heading, Party, Over, this_month, many_months, Reading, Record, heading, party, fixed_hour, reading, price, refixed_hour, end, hour_widths, layouts}
use Rattle.rules.specs.Record.{brp_gln_of, brp_gln, widths_in, field_widths, party_kind_of, brp_fields, reading_kind_of, weight_fields}
use Rattle.rules.specs.Record.{total_of, body_length, known, number_onto, bytes_of, signed, unsigned, cut_into, field, number_at, signed_at, heading_from, flows_from}
use Rattle.rules.specs.Record.{party_from, reading_from, record_from, kind_at, record_at, number, digits, field_bytes, in_widths, kind_of, hour_fields}
use Rattle.rules.specs.Record.{fields_of, record_bytes, alone, heading_in_range, hour_in_range, checks, read_alone}
use Rattle.rules.specs.Refusals.{Verdict, accepted, refused, given, unless, and_then, first, answer}
use Rattle.rules.specs.Words.{at, within_ℤ, joined}
use Rattle.rules.proofs.EachKind.{Entries, each_kind, kind_known, kind_of_record}
use Rattle.rules.proofs.Refusals.{accepted_exactly, unless_exactly}
use Rattle.rules.proofs.Whole.{HeadingFacts, heading_facts, both_pass}
unfoldable pub use Rattle.rules.specs.WellFormed.{Bytes}
pub use Rattle.rules.specs.WellFormed.{Held, WeightsHeld}

-- NUMBERS AND BYTES

pub bytes_length : (width n : ℕ) → length (bytes_of width n) ≡ width
unfolding bytes_of
bytes_length zero n = refl
bytes_length (suc width) n = length-append (bytes_of width (n / 256)) ((n % 256) ∷ []) ∙ omega (arith, bytes_length width (n / 256))

number_last : (before : ℕ) (xs : List ℕ) (x : ℕ) → number_onto before (xs ++ (x ∷ [])) ≡ number_onto before xs * 256 + x
unfolding number_onto
number_last before [] x = refl
number_last before (y ∷ xs) x = number_last (before * 256 + y) xs x

-- a number that its width can hold reads back
pub number_of_bytes : (width n : ℕ) → n < 256 ^ width → number_onto 0 (bytes_of width n) ≡ n
unfolding number_onto bytes_of
number_of_bytes zero n h = omega arith
number_of_bytes (suc width) n h =
    number_last 0 (bytes_of width (n / 256)) (n % 256)
    ∙ ap (λ (x : ℕ). x * 256 + n % 256) (number_of_bytes width (n / 256) (omega (arith, pow-suc 256 width)))
    ∙ omega arith

bytes_take : (n : ℕ) (l : List ℕ) → Bytes l → Bytes (take n l)
unfolding Bytes
bytes_take zero l h i = omega arith
bytes_take (suc n) [] h i = omega arith
bytes_take (suc n) (x ∷ l) h zero = h 0
bytes_take (suc n) (x ∷ l) h (suc i) = bytes_take n l (λ j. h (suc j)) i

pub bytes_drop : (n : ℕ) (l : List ℕ) → Bytes l → Bytes (drop n l)
unfolding Bytes
bytes_drop n l h i = rw (get_or-drop n l i 0) (h (n + i))

-- the last byte of a number counts once, those before it 256 times
module _ (width : ℕ) (l : List ℕ) (e : length l ≡ suc width) where
  split : l ≡ take width l ++ (get_or l width 0 ∷ [])
  split = sym (take_all (suc width) l (omega arith)) ∙ take-suc l width 0 (omega arith)

  last_counts : number_onto 0 l ≡ number_onto 0 (take width l) * 256 + get_or l width 0
  last_counts = ap (number_onto 0) split ∙ number_last 0 (take width l) (get_or l width 0)

-- as many bytes as the width are below its power, and read as a number they are its bytes again
number_small : (width : ℕ) (l : List ℕ) → length l ≡ width → Bytes l → number_onto 0 l < 256 ^ width
unfolding number_onto Bytes
number_small zero [] e h = omega arith
number_small zero (x ∷ l) e h = absurd (omega arith)
number_small (suc width) l e h =
    let n : number_onto 0 (take width l) < 256 ^ width = number_small width (take width l) (length-take-le width l (omega arith)) (bytes_take width l h) in
    omega (arith, last_counts width l e, h width, pow-suc 256 width)

bytes_of_number : (width : ℕ) (l : List ℕ) → length l ≡ width → Bytes l → bytes_of width (number_onto 0 l) ≡ l
unfolding bytes_of Bytes
bytes_of_number zero [] e h = refl
bytes_of_number zero (x ∷ l) e h = absurd (omega arith)
bytes_of_number (suc width) l e h =
    let high : number_onto 0 l / 256 ≡ number_onto 0 (take width l) = omega (arith, last_counts width l e, h width) in
    let low : number_onto 0 l % 256 ≡ get_or l width 0 = omega (arith, last_counts width l e, h width) in
    ap₂ (λ (a b : ℕ). bytes_of width a ++ (b ∷ [])) high low
    ∙ ap (λ (m : List ℕ). m ++ (get_or l width 0 ∷ [])) (bytes_of_number width (take width l) (length-take-le width l (omega arith)) (bytes_take width l h))
    ∙ sym (split width l e)

-- TWO'S COMPLEMENT

pub signed_of_unsigned : (width : ℕ) (z : ℤ) → mag z < 256 ^ width / 2 → signed width (unsigned width z) ≡ z
unfolding signed unsigned
signed_of_unsigned width (pos n) h = rw (lt-ltb n (256 ^ width / 2) h)
signed_of_unsigned width (negsuc n) h =
    rw (le-ltb (256 ^ width - 1 - n) (256 ^ width / 2) (omega arith)) (ap negsuc (omega arith))

unsigned_small : (width : ℕ) (z : ℤ) → mag z < 256 ^ width → unsigned width z < 256 ^ width
unfolding unsigned
unsigned_small width (pos n) h = h
unsigned_small width (negsuc n) h = omega arith

pub unsigned_of_signed : (width n : ℕ) → n < 256 ^ width → unsigned width (signed width n) ≡ n
unfolding signed unsigned
unsigned_of_signed width n h = either (ltb n (256 ^ width / 2))
  where
    either : (t : Bool) → unsigned width (cond t (pos n) (negsuc (256 ^ width - 1 - n))) ≡ n
    either true = refl
    either false = omega arith

-- a number of a width, read as signed and written again
signed_again : (width : ℕ) (l : List ℕ) → length l ≡ width → Bytes l → unsigned width (signed (length l) (number_onto 0 l)) ≡ number_onto 0 l
signed_again width l e h = rw e (unsigned_of_signed width (number_onto 0 l) (number_small width l e h))

-- a signed number that its width can hold reads back
signed_back : (width : ℕ) (z : ℤ) → mag z < 256 ^ width / 2
    → signed (length (bytes_of width (unsigned width z))) (number_onto 0 (bytes_of width (unsigned width z))) ≡ z
signed_back width z h =
    rw (bytes_length width (unsigned width z), number_of_bytes width (unsigned width z) (unsigned_small width z (omega arith)))
    (signed_of_unsigned width z h)

-- FIELDS AND BODIES

abbrev widths_of : List (List ℕ) → List ℕ
widths_of [] = []
widths_of (f ∷ fs) = length f ∷ widths_of fs

-- what was joined is cut out again
cut_joined : (fs : List (List ℕ)) (more : List ℕ) → cut_into (widths_of fs) (joined fs ++ more) ≡ fs
unfolding cut_into joined
cut_joined [] more = refl
cut_joined (f ∷ fs) more =
    ap (λ (l : List ℕ). take (length f) l ∷ cut_into (widths_of fs) (drop (length f) l)) (append_assoc f (joined fs) more)
    ∙ ap₂ (λ (x : List ℕ) (y : List ℕ). x ∷ cut_into (widths_of fs) y) (take_at f (joined fs ++ more) (length f) refl) (drop_at f (joined fs ++ more) (length f) refl)
    ∙ ap (λ (x : List (List ℕ)). f ∷ x) (cut_joined fs more)

joined_length : (fs : List (List ℕ)) → length (joined fs) ≡ total_of (widths_of fs)
unfolding joined total_of
joined_length [] = refl
joined_length (f ∷ fs) = length-append f (joined fs) ∙ omega (arith, joined_length fs)

-- what was cut out is joined again
joined_cut : (widths body : List ℕ) → joined (cut_into widths body) ≡ take (total_of widths) body
unfolding cut_into joined total_of
joined_cut [] body = refl
joined_cut (width ∷ widths) body =
    ap (λ (l : List ℕ). take width body ++ l) (joined_cut widths (drop width body)) ∙ sym (take-add width (total_of widths) body)

-- each field read as a number and written again
abbrev again : List ℕ → List (List ℕ) → List (List ℕ)
again [] fs = []
again (width ∷ widths) [] = []
again (width ∷ widths) (f ∷ fs) = bytes_of width (number_onto 0 f) ∷ again widths fs

again_same : (widths body : List ℕ) → total_of widths ≤ length body → Bytes body → again widths (cut_into widths body) ≡ cut_into widths body
unfolding cut_into total_of
again_same [] body r h = refl
again_same (width ∷ widths) body r h =
    ap₂ (λ (x : List ℕ) (y : List (List ℕ)). x ∷ y)
    (bytes_of_number width (take width body) (length-take-le width body (omega arith)) (bytes_take width body h))
    (again_same widths (drop width body) (rw (length-drop width body) (omega arith)) (bytes_drop width body h))

-- RECORDS

-- a valid GLN has thirteen digits
pub both_true : (a b : Bool) → a && b ≡ true → (a ≡ true) × (b ≡ true)
both_true a b e = both_pass a b e

pub valid_length : (gln : List ℕ) → valid_gln gln ≡ true → length gln ≡ gln_digits
unfolding valid_gln
valid_length gln e = eqb-true (length gln) gln_digits (both_true _ _ (both_true _ _ e).0).0

-- what the checks of a record alone say: none of them refuses
pub none_refuses : (r : Record) → first (checks alone r) ≡ accepted → NoneRefuses (checks alone r)
none_refuses r e = (accepted_exactly (checks alone r)).0 e

pub valid_gln_lem : (p : Party) → NoneRefuses (checks alone (party p)) → valid_gln p.gln ≡ true
unfolding checks
valid_gln_lem p c = (unless_exactly (valid_gln p.gln) _ _).0 c.1.0

pub valid_brp_gln : (p : Party) → NoneRefuses (checks alone (party p)) → valid_gln (brp_gln p) ≡ true
unfolding checks
valid_brp_gln p c = (unless_exactly (valid_gln (brp_gln p)) _ _).0 c.1.1.0

pub price_range : (hour : ℕ) (p : ℤ) → NoneRefuses (checks alone (price hour p)) → ltb hour most_hours && within_ℤ greatest_price p ≡ true
unfolding checks
price_range hour p c = (unless_exactly (ltb hour most_hours && within_ℤ greatest_price p) _ _).0 c.0

party_widths : (gln : List ℕ) (brp : Brp) (share : ℕ) → length gln ≡ gln_digits → length (brp_gln_of gln brp) ≡ gln_digits
    → widths_of (in_widths (field_widths (party_kind_of brp)) (digits gln ∷ (brp_fields brp ++ (number share ∷ [])))) ≡ field_widths (party_kind_of brp)
unfolding field_widths layouts widths_in brp_fields in_widths field_bytes
party_widths gln own_brp share own brps = rw (own, bytes_length 8 share)
party_widths gln (named_brp brp_gln) share own brps = rw (own, brps, bytes_length 8 share)

reading_widths : (who a b e : ℕ) (over : Over)
    → widths_of (in_widths (field_widths (reading_kind_of over)) (number who ∷ number a ∷ number b ∷ number e ∷ weight_fields over)) ≡ field_widths (reading_kind_of over)
unfolding field_widths layouts widths_in weight_fields in_widths field_bytes
reading_widths who a b e this_month = simp bytes_length
reading_widths who a b e (many_months before whole) = simp bytes_length

-- every field of a record without fault has its width
widths_are : (r : Record) → NoneRefuses (checks alone r) → widths_of (in_widths (field_widths (kind_of r)) (fields_of r)) ≡ field_widths (kind_of r)
unfolding field_widths layouts widths_in fields_of hour_fields in_widths field_bytes
widths_are (heading h) c = simp bytes_length
widths_are (party p) c =
    party_widths p.gln p.brp p.share (valid_length p.gln (valid_gln_lem p c)) (valid_length (brp_gln p) (valid_brp_gln p c))
widths_are (fixed_hour hour f) c = simp bytes_length
widths_are (reading r) c = reading_widths r.party r.a r.b r.e r.over
widths_are (price hour p) c = simp bytes_length
widths_are (refixed_hour hour f) c = simp bytes_length
widths_are (end count) c = simp bytes_length

pub record_length : (r : Record) → first (checks alone r) ≡ accepted → length (record_bytes r) ≡ 1 + body_length (kind_of r)
unfolding record_bytes body_length
record_length r e =
    let fields : List (List ℕ) = in_widths (field_widths (kind_of r)) (fields_of r) in
    omega (arith, joined_length fields, ap total_of (widths_are r (none_refuses r e)))

-- READ OF WRITTEN

pub within_size : (most : ℕ) (z : ℤ) → within_ℤ (suc most) z ≡ true → mag z ≤ suc most
unfolding within_ℤ
within_size most (pos n) e = leb-true n (suc most) (both_true (le_z (negsuc most) (pos n)) (leb n (suc most)) e).1
within_size most (negsuc n) e = let h : n ≤ most = leb-true n most (both_true (leb n most) true e).0 in omega arith

pub price_size : (p : ℤ) → within_ℤ greatest_price p ≡ true → mag p ≤ greatest_price
price_size p e = within_size (greatest_price - 1) p e

-- the fields of an hour within their ranges
record HourHeld (hour : ℕ) (f : Flows) : Type 0 where
  hour_small : hour < most_hours
  status_small : f.status ≤ estimated
  net_small : mag f.net ≤ greatest_flow
  production_small : f.production ≤ greatest_flow
  hourly_small : f.hourly ≤ greatest_flow
  flex_small : f.flex ≤ greatest_flow

hour_held : (hour : ℕ) (f : Flows) → hour_in_range most_hours hour f ≡ true → HourHeld hour f
unfolding hour_in_range flows_in_range
hour_held hour f e =
    let status = leb f.status estimated in
    let net = within_ℤ greatest_flow f.net in
    let production = leb f.production greatest_flow in
    let hourly = leb f.hourly greatest_flow in
    let a = both_true (ltb hour most_hours && flows_in_range f) (silent_is_zero f) e in
    let b = both_true (ltb hour most_hours) (flows_in_range f) a.0 in
    let c = both_true (status && net && production && hourly) (leb f.flex greatest_flow) b.1 in
    let d = both_true (status && net && production) hourly c.0 in
    let g = both_true (status && net) production d.0 in
    let h = both_true status net g.0 in
    record {
      hour_small = ltb-true hour most_hours b.0;
      status_small = leb-true f.status estimated h.0;
      net_small = within_size (greatest_flow - 1) f.net h.1;
      production_small = leb-true f.production greatest_flow g.1;
      hourly_small = leb-true f.hourly greatest_flow d.1;
      flex_small = leb-true f.flex greatest_flow c.1;
    }

hour_back : (hour : ℕ) (f : Flows) → HourHeld hour f → number_onto 0 (bytes_of 2 hour) ≡ hour
hour_back hour f h = number_of_bytes 2 hour (omega (arith, h.hour_small))

flows_back_lem : (hour : ℕ) (f : Flows) → HourHeld hour f → flows_from (in_widths hour_widths (hour_fields hour f)) ≡ f
unfolding flows_from number_at signed_at field in_widths field_bytes hour_fields
flows_back_lem hour f h =
    rw (
      number_of_bytes 1 f.status (omega (arith, h.status_small)),
      signed_back 8 f.net (omega (arith, h.net_small)),
      number_of_bytes 8 f.production (omega (arith, h.production_small)),
      number_of_bytes 8 f.hourly (omega (arith, h.hourly_small)),
      number_of_bytes 8 f.flex (omega (arith, h.flex_small)),
    )

-- a record's fields, each in its width
abbrev written_fields : Record → List (List ℕ)
written_fields r = in_widths (field_widths (kind_of r)) (fields_of r)

heading_back : (h : Heading) → HeadingFacts h → record_from (kind_of (heading h)) (written_fields (heading h)) ≡ heading h
unfolding field_widths layouts widths_in fields_of in_widths field_bytes record_from heading_from number_at field
heading_back h f =
    rw (
      number_of_bytes 2 h.area (omega (arith, f.area.1)),
      number_of_bytes 2 h.year (omega (arith, f.year.1)),
      number_of_bytes 1 h.month (omega (arith, f.month.1)),
      number_of_bytes 2 h.hours (omega (arith, f.hours.1)),
      number_of_bytes 1 h.parties (omega (arith, f.parties.1)),
      number_of_bytes 1 h.carrier (omega (arith, f.parties.1, f.carrier)),
    )

-- the numbers of a reading, and its weights as its kind has them
weights_back : (who a b e : ℕ) (over : Over) → who < 256 ^ 1 → a < 256 ^ 2 → b < 256 ^ 2 → e < 256 ^ 4 → WeightsHeld over
    → record_from (reading_kind_of over) (in_widths (field_widths (reading_kind_of over)) (number who ∷ number a ∷ number b ∷ number e ∷ weight_fields over))
    ≡ reading (record { party = who; a = a; b = b; e = e; over = over })
unfolding field_widths layouts widths_in weight_fields in_widths field_bytes record_from reading_from number_at field
weights_back who a b e this_month p-small a_small b-small e-small held =
    rw (number_of_bytes 1 who p-small, number_of_bytes 2 a a_small, number_of_bytes 2 b b-small, number_of_bytes 4 e e-small)
weights_back who a b e (many_months before whole) p-small a_small b-small e-small held =
    rw (
      number_of_bytes 1 who p-small,
      number_of_bytes 2 a a_small,
      number_of_bytes 2 b b-small,
      number_of_bytes 4 e e-small,
      number_of_bytes 8 before held.0,
      number_of_bytes 8 whole held.1,
    )

party_back : (gln : List ℕ) (brp : Brp) (share : ℕ) → share < 256 ^ 8
    → record_from (party_kind_of brp) (in_widths (field_widths (party_kind_of brp)) (digits gln ∷ (brp_fields brp ++ (number share ∷ []))))
    ≡ party (record { gln = gln; brp = brp; share = share })
unfolding field_widths layouts widths_in brp_fields in_widths field_bytes record_from party_from number_at field
party_back gln own_brp share small = rw (number_of_bytes 8 share small)
party_back gln (named_brp brp_gln) share small = rw (number_of_bytes 8 share small)

reading_back : (r : Reading) → WeightsHeld r.over → NoneRefuses (checks alone (reading r)) → record_from (kind_of (reading r)) (written_fields (reading r)) ≡ reading r
unfolding checks fields_of
reading_back r held c =
    let whose = (unless_exactly (ltb r.party most_parties) _ _).0 c.0 in
    let span = both_true (ltb r.a r.b) (leb r.b most_hours) ((unless_exactly _ _ _).0 c.1.0) in
    let b : r.b ≤ most_hours = leb-true r.b most_hours span.1 in
    let a : r.a < r.b = ltb-true r.a r.b span.0 in
    let energy = (unless_exactly (leb r.e greatest_energy) _ _).0 c.1.1.0 in
    weights_back r.party r.a r.b r.e r.over (omega (arith, ltb-true r.party most_parties whose)) (omega arith) (omega arith)
    (omega (arith, leb-true r.e greatest_energy energy))
    held

price_back : (hour : ℕ) (p : ℤ) → NoneRefuses (checks alone (price hour p)) → record_from (kind_of (price hour p)) (written_fields (price hour p)) ≡ price hour p
unfolding field_widths layouts widths_in fields_of in_widths field_bytes record_from number_at signed_at field
price_back hour p c =
    let both = both_true (ltb hour most_hours) (within_ℤ greatest_price p) (price_range hour p c) in
    let small : mag p ≤ greatest_price = price_size p both.1 in
    rw (number_of_bytes 2 hour (omega (arith, ltb-true hour most_hours both.0)), signed_back 4 p (omega arith))

-- the fields of a record without fault are read as the record
fields_back : (r : Record) → Held r → NoneRefuses (checks alone r) → record_from (kind_of r) (written_fields r) ≡ r
unfolding checks field_widths layouts widths_in fields_of hour_fields in_widths field_bytes record_from number_at field
fields_back (heading h) n c = heading_back h (heading_facts h ((unless_exactly (heading_in_range h) _ _).0 c.0))
fields_back (party p) n c =
    let share = (unless_exactly (leb p.share greatest_share) _ _).0 c.0 in
    party_back p.gln p.brp p.share (omega (arith, leb-true p.share greatest_share share))
fields_back (fixed_hour hour f) n c =
    let h = hour_held hour f ((unless_exactly (hour_in_range most_hours hour f) _ _).0 c.0) in
    ap₂ fixed_hour (hour_back hour f h) (flows_back_lem hour f h)
fields_back (reading r) n c = reading_back r n c
fields_back (price hour p) n c = price_back hour p c
fields_back (refixed_hour hour f) n c =
    let h = hour_held hour f ((unless_exactly (hour_in_range most_hours hour f) _ _).0 c.0) in
    ap₂ refixed_hour (hour_back hour f h) (flows_back_lem hour f h)
fields_back (end count) n c = ap end (number_of_bytes 4 count n)

pub record_back_lem : (r : Record) (more : List ℕ) → Held r → NoneRefuses (checks alone r) → record_at (record_bytes r ++ more) ≡ r
unfolding record_bytes record_at kind_at at
record_back_lem r more n c =
    ap (λ (ws : List ℕ). record_from (kind_of r) (cut_into ws (joined (written_fields r) ++ more))) (sym (widths_are r c))
    ∙ ap (record_from (kind_of r)) (cut_joined (written_fields r) more)
    ∙ fields_back r n c

pub kind_back : (r : Record) (more : List ℕ) → kind_at (record_bytes r ++ more) ≡ kind_of r
unfolding record_bytes kind_at at
kind_back r more = refl

-- READ OF WRITTEN IS THE SAME RECORD, for every record without fault, whatever follows it
pub read_of_written : (r : Record) (more : List ℕ) → Held r → first (checks alone r) ≡ accepted → read_alone (record_bytes r ++ more) ≡ given r
unfolding read_alone first and_then unless answer
read_of_written r more n e =
    let s : List ℕ = record_bytes r ++ more in
    let size : 1 + body_length (kind_of r) ≤ length s = omega (arith, length-append (record_bytes r) more, record_length r e) in
    let fits = le-leb (1 + body_length (kind_of r)) (length s) size in
    rw (le-leb 1 (length s) (omega arith), kind_back r more, kind_known r, fits, record_back_lem r more n (none_refuses r e), e)

-- WRITTEN OF READ

-- the fields that a body is cut into, by the record that they are: of an hour, net supply stands after three bytes; of a price, the price after two
module _ (body : List ℕ) (h : Bytes body) where
  abbrev after_hour : List ℕ
  after_hour = drop 1 (drop 2 body)

  hour_again : total_of hour_widths ≤ length body
      → in_widths hour_widths (hour_fields (number_at (cut_into hour_widths body) 0) (flows_from (cut_into hour_widths body))) ≡ cut_into hour_widths body
  unfolding total_of cut_into flows_from number_at signed_at field in_widths field_bytes hour_fields
  hour_again r =
      let size : 8 ≤ length after_hour = rw (length-drop 1 (drop 2 body), length-drop 2 body) (omega arith) in
      let net = signed_again 8 (take 8 after_hour) (length-take-le 8 after_hour size) (bytes_take 8 after_hour (bytes_drop 1 (drop 2 body) (bytes_drop 2 body h))) in
      ap (λ (n : ℕ).
      bytes_of 2 (number_onto 0 (take 2 body)) ∷ bytes_of 1 (number_onto 0 (take 1 (drop 2 body))) ∷ bytes_of 8 n
      ∷ again (8 ∷ 8 ∷ 8 ∷ []) (cut_into (8 ∷ 8 ∷ 8 ∷ []) (drop 8 after_hour)))
      net
      ∙ again_same hour_widths body r h

  price_again : 6 ≤ length body
      → bytes_of 2 (number_onto 0 (take 2 body)) ∷ bytes_of 4 (unsigned 4 (signed (length (take 4 (drop 2 body))) (number_onto 0 (take 4 (drop 2 body))))) ∷ []
      ≡ cut_into (2 ∷ 4 ∷ []) body
  unfolding total_of cut_into
  price_again r =
      let size : 4 ≤ length (drop 2 body) = rw (length-drop 2 body) (omega arith) in
      let ore = signed_again 4 (take 4 (drop 2 body)) (length-take-le 4 (drop 2 body) size) (bytes_take 4 (drop 2 body) (bytes_drop 2 body h)) in
      ap (λ (n : ℕ). bytes_of 2 (number_onto 0 (take 2 body)) ∷ bytes_of 4 n ∷ []) ore ∙ again_same (2 ∷ 4 ∷ []) body r h

  gln_again : 21 ≤ length body
      → take gln_digits body ∷ bytes_of 8 (number_onto 0 (take 8 (drop gln_digits body))) ∷ [] ≡ cut_into (gln_digits ∷ 8 ∷ []) body
  unfolding total_of cut_into
  gln_again r =
      ap (λ (fs : List (List ℕ)). take gln_digits body ∷ fs)
      (again_same (8 ∷ []) (drop gln_digits body) (rw (length-drop gln_digits body) (omega arith)) (bytes_drop gln_digits body h))

  glns_again : 34 ≤ length body
      → take gln_digits body ∷ take gln_digits (drop gln_digits body) ∷ bytes_of 8 (number_onto 0 (take 8 (drop gln_digits (drop gln_digits body)))) ∷ []
      ≡ cut_into (gln_digits ∷ gln_digits ∷ 8 ∷ []) body
  unfolding total_of cut_into
  glns_again r =
      let after-glns : List ℕ = drop gln_digits (drop gln_digits body) in
      let size : 8 ≤ length after-glns = rw (length-drop gln_digits (drop gln_digits body), length-drop gln_digits body) (omega arith) in
      ap (λ (fs : List (List ℕ)). take gln_digits body ∷ take gln_digits (drop gln_digits body) ∷ fs)
      (again_same (8 ∷ []) after-glns size (bytes_drop gln_digits (drop gln_digits body) (bytes_drop gln_digits body h)))

  -- the record cut out of a body has that body's fields
  abbrev SameFields : ℕ → List ℕ → Type 0
  SameFields k ws = total_of ws ≤ length body → in_widths ws (fields_of (record_from k (cut_into ws body))) ≡ cut_into ws body

  same_fields : Entries SameFields layouts
  unfolding layouts total_of cut_into fields_of brp_fields weight_fields record_from heading_from party_from reading_from number_at signed_at field in_widths field_bytes
  same_fields = (
    λ r. again_same (2 ∷ 2 ∷ 1 ∷ 2 ∷ 1 ∷ 1 ∷ []) body r h,
    (
      λ r. gln_again r,
      (
        λ r. hour_again r,
        (
          λ r. again_same (1 ∷ 2 ∷ 2 ∷ 4 ∷ []) body r h,
          (
            λ r. price_again r,
            (
              λ r. hour_again r,
              (λ r. again_same (4 ∷ []) body r h, (λ r. again_same (1 ∷ 2 ∷ 2 ∷ 4 ∷ 8 ∷ 8 ∷ []) body r h, (λ r. glns_again r, tt))),
            ),
          ),
        ),
      ),
    ),
  )

  -- and what stands in its fields has room in them
  abbrev HasRoom : ℕ → List ℕ → Type 0
  HasRoom k ws = total_of ws ≤ length body → Held (record_from k (cut_into ws body))

  small_at : (place width : ℕ) → place + width ≤ length body → number_onto 0 (take width (drop place body)) < 256 ^ width
  small_at place width b =
      number_small width (take width (drop place body)) (length-take-le width (drop place body) (rw (length-drop place body) (omega arith)))
      (bytes_take width (drop place body) (bytes_drop place body h))

  weights_after : (a b c d : ℕ) (l : List ℕ) → drop a (drop b (drop c (drop d l))) ≡ drop (d + c + b + a) l
  weights_after a b c d l =
      ap (λ (x : List ℕ). drop a (drop b x)) (drop-drop c d l) ∙ ap (drop a) (drop-drop b (d + c) l) ∙ drop-drop a (d + c + b) l

  has_room : Entries HasRoom layouts
  unfolding layouts total_of cut_into record_from reading_from number_at field
  has_room = (
    λ r. tt,
    (
      λ r. tt,
      (
        λ r. tt,
        (
          λ r. tt,
          (
            λ r. tt,
            (
              λ r. tt,
              (
                λ r. small_at 0 4 r,
                (
                  λ r. (
                    rw (weights_after 4 2 2 1 body) (small_at 9 8 (omega arith)),
                    rw (weights_after 4 2 2 1 body, drop-drop 8 9 body) (small_at 17 8 (omega arith)),
                  ),
                  (λ r. tt, tt),
                ),
              ),
            ),
          ),
        ),
      ),
    ),
  )

-- WHAT IS READ FROM BYTES HAS ROOM IN THEM
pub read_is_held : (kind : ℕ) (body : List ℕ) → Bytes body → known kind ≡ true → body_length kind ≤ length body → Held (record_at (kind ∷ body))
unfolding record_at kind_at at body_length
read_is_held kind body h k b = each_kind (HasRoom body h) (has_room body h) kind k b

-- what a reading that gives a record says of the bytes
pub given_by : {A : Type 0} (v : Verdict) (a b : A) → answer v a ≡ given b → (v ≡ accepted) × (a ≡ b)
unfolding answer
given_by accepted a b e = (refl, cc)
given_by (refused r place) a b e = let z : ◌≡◌ {A = ℕ} 0 1 = cc in absurd (omega arith)

pub record Read (s : List ℕ) (r : Record) : Type 0 where
  pub some : 1 ≤ length s
  pub kind_known : known (kind_at s) ≡ true
  pub fits : 1 + body_length (kind_at s) ≤ length s
  pub judged : first (checks alone r) ≡ accepted
  pub is : record_at s ≡ r

pub what_read_says : (s : List ℕ) (r : Record) → read_alone s ≡ given r → Read s r
unfolding read_alone
what_read_says s r e =
    let both = given_by _ (record_at s) r e in
    let all = (accepted_exactly _).0 both.0 in
    let fits = (unless_exactly (leb (1 + body_length (kind_at s)) (length s)) _ 0).0 all.1.1.0 in
    record {
      some = leb-true 1 (length s) ((unless_exactly (leb 1 (length s)) _ 0).0 all.0);
      kind_known = (unless_exactly (known (kind_at s)) _ 0).0 all.1.0;
      fits = leb-true (1 + body_length (kind_at s)) (length s) fits;
      judged = rw (← both.1) ((accepted_exactly (checks alone (record_at s))).1 all.1.1.1);
      is = both.1;
    }

-- WRITTEN OF READ IS THE SAME BYTES
pub written_of_read : (s : List ℕ) (r : Record) → Bytes s → read_alone s ≡ given r → record_bytes r ≡ take (1 + body_length (kind_at s)) s
unfolding record_bytes record_at body_length kind_at at
written_of_read s r h e =
    let says : Read s r = what_read_says s r e in
    let body : List ℕ = drop 1 s in
    let k : ℕ = get_or s 0 0 in
    let small : Bytes body = bytes_drop 1 s h in
    let room : body_length k ≤ length body = rw (length-drop 1 s) (omega (arith, says.fits)) in
    let same = each_kind (SameFields body small) (same_fields body small) k says.kind_known room in
    let kind : kind_of (record_at s) ≡ k = kind_of_record k (cut_into (field_widths k) body) says.kind_known in
    let split : s ≡ k ∷ body = drop-cons s 0 0 (omega (arith, says.some)) in
    ap record_bytes (sym says.is)
    ∙ ap (λ (x : ℕ). x ∷ joined (in_widths (field_widths x) (fields_of (record_at s)))) kind
    ∙ ap (λ (fs : List (List ℕ)). k ∷ joined fs) same
    ∙ ap (λ (l : List ℕ). k ∷ l) (joined_cut (field_widths k) body)
    ∙ sym (ap₂ (λ (n : ℕ) (l : List ℕ). take n l) (one-add (body_length k)) split)
