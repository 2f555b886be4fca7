-- The fields of a record stand one after the other, so the field after n bytes of fields starts at byte n + 1 of the record: each kind's fields, read at
-- their places, are those that the rules cut out of the body.
use mathlib.Core.List.{List, [], ◌∷◌}
use mathlib.Core.Path.{◌≡◌, refl, sym, ◌∙◌, ap}
use Prim.Native.Nat.{ℕ, ◌+◌, ◌≤◌}
use native.Mathlib.Omega.{arith}
use borrow.Author.Tests.{le-leb}
use Rattle.gln.specs.Gln.{gln_part}
use lib.ListN.{length, get_or, take, drop, length-drop}
use lib.Seq.{drop-drop, length-take-le}
use Rattle.record.specs.Record.{Whole, record_as, flows_at, glns_in}
use Rattle.rules.specs.Limits.{gln_digits}
use Rattle.rules.specs.Record.{heading_kind, party_kind, fixed_hour_kind, reading_kind, price_kind, refixed_hour_kind, end_kind, long_reading_kind, brp_party_kind, hour_widths, layouts, widths_in}
use Rattle.rules.specs.Record.{field_widths, own_brp, named_brp, this_month, many_months}
use Rattle.rules.specs.Record.{heading, party, fixed_hour, reading, price, refixed_hour, end, body_length, number_onto, signed, cut_into, field, number_at, signed_at}
use Rattle.rules.specs.Record.{heading_from, flows_from, party_from, reading_from, record_from, kind_at, record_at}
use Rattle.rules.specs.Words.{at}
use Rattle.rules.proofs.EachKind.{NoneOfTheOthers, last_kind}

-- the number in a width from a place on
abbrev num : ℕ → ℕ → List ℕ → ℕ
num width p s = number_onto 0 (take width (drop p s))

-- fields of these widths from a place on
abbrev fields_at : List ℕ → ℕ → List ℕ → List (List ℕ)
fields_at [] p s = []
fields_at (width ∷ widths) p s = take width (drop p s) ∷ fields_at widths (p + width) s

cut_at : (widths : List ℕ) (p : ℕ) (s : List ℕ) → fields_at widths p s ≡ cut_into widths (drop p s)
unfolding cut_into
cut_at [] p s = refl
cut_at (width ∷ widths) p s =
    ap (λ (l : List (List ℕ)). take width (drop p s) ∷ l)
    (cut_at widths (p + width) s ∙ ap (cut_into widths) (sym (drop-drop width p s)))

-- a field of so many bytes that are there has that length
length_at : (width p : ℕ) (s : List ℕ) → p + width ≤ length s → length (take width (drop p s)) ≡ width
length_at width p s h = length-take-le width (drop p s) (rw (length-drop p s) (omega arith))

pub heading_is : (s : List ℕ)
    → heading (record { area = num 2 1 s; year = num 2 3 s; month = num 1 5 s; hours = num 2 6 s; parties = num 1 8 s; carrier = num 1 9 s }) ≡ record_as heading_kind s
unfolding record_as record_from heading_from field_widths layouts widths_in field number_at
heading_is s = ap (record_from heading_kind) (cut_at (2 ∷ 2 ∷ 1 ∷ 2 ∷ 1 ∷ 1 ∷ []) 1 s)

pub party_is : (s : List ℕ) → 22 ≤ length s → party (record { gln = (glns_in s).gln; brp = own_brp; share = num 8 14 s }) ≡ record_as party_kind s
unfolding record_as record_from party_from field_widths layouts widths_in field number_at gln_part
party_is s h = rw (le-leb 14 (length s) (omega arith)) (ap (record_from party_kind) (cut_at (gln_digits ∷ 8 ∷ []) 1 s))

pub brp_party_is : (s : List ℕ) → 35 ≤ length s
    → party (record { gln = (glns_in s).gln; brp = named_brp (glns_in s).brp_gln; share = num 8 27 s }) ≡ record_as brp_party_kind s
unfolding record_as record_from party_from field_widths layouts widths_in field number_at gln_part
brp_party_is s h =
    rw (le-leb 14 (length s) (omega arith), le-leb 27 (length s) (omega arith))
    (ap (record_from brp_party_kind) (cut_at (gln_digits ∷ gln_digits ∷ 8 ∷ []) 1 s))

pub flows_is : (s : List ℕ) → 36 ≤ length s
    → record { status = num 1 3 s; net = signed 8 (num 8 4 s); production = num 8 12 s; hourly = num 8 20 s; flex = num 8 28 s } ≡ flows_at s
unfolding flows_at flows_from field number_at signed_at
flows_is s h =
    ap (λ (width : ℕ).
    record { status = num 1 3 s; net = signed width (num 8 4 s); production = num 8 12 s; hourly = num 8 20 s; flex = num 8 28 s })
    (sym (length_at 8 4 s (omega arith)))
    ∙ ap flows_from (cut_at hour_widths 1 s)

pub fixed_is : (s : List ℕ) → fixed_hour (num 2 1 s) (flows_at s) ≡ record_as fixed_hour_kind s
unfolding record_as record_from cut_into field_widths layouts widths_in field number_at flows_at
fixed_is s = refl

pub reading_is : (s : List ℕ) → reading (record { party = num 1 1 s; a = num 2 2 s; b = num 2 4 s; e = num 4 6 s; over = this_month }) ≡ record_as reading_kind s
unfolding record_as record_from reading_from field_widths layouts widths_in field number_at
reading_is s = ap (record_from reading_kind) (cut_at (1 ∷ 2 ∷ 2 ∷ 4 ∷ []) 1 s)

pub long_reading_is : (s : List ℕ)
    → reading (record { party = num 1 1 s; a = num 2 2 s; b = num 2 4 s; e = num 4 6 s; over = many_months (num 8 10 s) (num 8 18 s) }) ≡ record_as long_reading_kind s
unfolding record_as record_from reading_from field_widths layouts widths_in field number_at
long_reading_is s = ap (record_from long_reading_kind) (cut_at (1 ∷ 2 ∷ 2 ∷ 4 ∷ 8 ∷ 8 ∷ []) 1 s)

pub price_is : (s : List ℕ) → 7 ≤ length s → price (num 2 1 s) (signed 4 (num 4 3 s)) ≡ record_as price_kind s
unfolding record_as record_from field_widths layouts widths_in field number_at signed_at
price_is s h =
    ap (λ (width : ℕ). price (num 2 1 s) (signed width (num 4 3 s))) (sym (length_at 4 3 s (omega arith)))
    ∙ ap (record_from price_kind) (cut_at (2 ∷ 4 ∷ []) 1 s)

pub refixed_is : (s : List ℕ) → refixed_hour (num 2 1 s) (flows_at s) ≡ record_as refixed_hour_kind s
unfolding record_as record_from cut_into field_widths layouts widths_in field number_at flows_at
refixed_is s = refl

pub end_is : (s : List ℕ) → end (num 4 1 s) ≡ record_as end_kind s
unfolding record_as record_from field_widths layouts widths_in field number_at
end_is s = ap (record_from end_kind) (cut_at (4 ∷ []) 1 s)

-- A record that stands whole, of the kind that its first byte is.
module _ {s : List ℕ} (w : Whole s) where
  abbrev first : ℕ
  first = get_or s 0 0

  pub stands : (k : ℕ) → first ≡ k → 1 + body_length k ≤ length s
  unfolding kind_at at
  stands k e = rw e at w.fits

  pub as_at : (k : ℕ) → first ≡ k → record_as k s ≡ record_at s
  unfolding record_as record_at kind_at at
  as_at k e = sym (ap (λ (x : ℕ). record_from x (cut_into (field_widths x) (drop 1 s))) e)

-- of a record that stands whole, a kind that is none of the others is the end
pub end_kind_lem : {s : List ℕ} → Whole s → NoneOfTheOthers (get_or s 0 0) → get_or s 0 0 ≡ end_kind
unfolding kind_at at
end_kind_lem w n = last_kind _ w.known_kind n
