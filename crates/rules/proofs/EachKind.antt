-- What holds of every known kind, from the table of kinds: a law that holds of each entry holds of each kind that is known, with the widths that it has.
use mathlib.Core.Bool.{Bool, true, false, cond}
use mathlib.Core.List.{List, [], ◌∷◌}
use mathlib.Core.Path.{◌≡◌, refl, sym, ◌∙◌, ap, subst}
use Prim.Native.Nat.{ℕ, ◌≤◌}
use native.Mathlib.Omega.{arith}
use borrow.Author.Tests.{eqb-true, leb-true, leb-false}
use lib.Dec.{eqb}
use Rattle.rules.specs.Record.{heading_kind, party_kind, fixed_hour_kind, reading_kind, price_kind, refixed_hour_kind, end_kind, long_reading_kind, brp_party_kind}
use Rattle.rules.specs.Record.{Brp, own_brp, named_brp, party_kind_of, party_from, Over, this_month, many_months, reading_kind_of, reading_from}
use Rattle.rules.specs.Record.{Record, heading, party, fixed_hour, reading, price, refixed_hour, end, layouts, widths_in, field_widths, total_of, body_length, known, kind_of, record_from}

-- To unfold this name is to unfold all that a body length is computed by, and no more is meant by it.
unfoldable pub body_lengths : Unit {0}
unfolding body_length field_widths layouts widths_in total_of
body_lengths = tt

-- it holds of each entry of a table
abbrev pub Entries : (ℕ → List ℕ → Type 0) → List (ℕ × List ℕ) → Type 0
Entries Q [] = Unit
Entries Q (entry ∷ more) = Q entry.0 entry.1 × Entries Q more

each_of : (Q : ℕ → List ℕ → Type 0) (table : List (ℕ × List ℕ)) → Entries Q table → (k : ℕ) → 1 ≤ total_of (widths_in table k) → Q k (widths_in table k)
unfolding widths_in total_of
each_of Q [] h k b = absurd (omega arith)
each_of Q (entry ∷ more) h k b = go (eqb entry.0 k) refl (λ c. each_of Q more h.1 k c) b
  where
    go : (t : Bool) → eqb entry.0 k ≡ t → (1 ≤ total_of (widths_in more k) → Q k (widths_in more k))
        → 1 ≤ total_of (cond t entry.1 (widths_in more k))
        → Q k (cond t entry.1 (widths_in more k))
    go true e later b = subst (λ (x : ℕ). Q x entry.1) (eqb-true entry.0 k e) h.0
    go false e later b = later b

-- EVERY KNOWN KIND IS ONE OF THE TABLE'S
pub each_kind : (Q : ℕ → List ℕ → Type 0) → Entries Q layouts → (k : ℕ) → known k ≡ true → Q k (field_widths k)
unfolding known body_length field_widths
each_kind Q h k e = each_of Q layouts h k (leb-true 1 (total_of (widths_in layouts k)) e)

-- THE BODY LENGTHS, as 01's table, W3 and W5 print them
abbrev pub party_length : Brp → ℕ
party_length own_brp = 21
party_length (named_brp brp_gln) = 34

abbrev pub reading_length : Over → ℕ
reading_length this_month = 9
reading_length (many_months before whole) = 25

abbrev pub length_of : Record → ℕ
length_of (heading h) = 9
length_of (party p) = party_length p.brp
length_of (fixed_hour hour f) = 35
length_of (reading r) = reading_length r.over
length_of (price hour p) = 6
length_of (refixed_hour hour f) = 35
length_of (end count) = 4

party_lengths_are : (brp : Brp) → body_length (party_kind_of brp) ≡ party_length brp
unfolding body_lengths
party_lengths_are own_brp = refl
party_lengths_are (named_brp brp_gln) = refl

reading_lengths_are : (over : Over) → body_length (reading_kind_of over) ≡ reading_length over
unfolding body_lengths
reading_lengths_are this_month = refl
reading_lengths_are (many_months before whole) = refl

pub lengths_are : (r : Record) → body_length (kind_of r) ≡ length_of r
unfolding body_lengths
lengths_are (heading h) = refl
lengths_are (party p) = party_lengths_are p.brp
lengths_are (fixed_hour hour f) = refl
lengths_are (reading r) = reading_lengths_are r.over
lengths_are (price hour p) = refl
lengths_are (refixed_hour hour f) = refl
lengths_are (end count) = refl

party_known : (brp : Brp) → known (party_kind_of brp) ≡ true
unfolding known body_lengths
party_known own_brp = refl
party_known (named_brp brp_gln) = refl

reading_known : (over : Over) → known (reading_kind_of over) ≡ true
unfolding known body_lengths
reading_known this_month = refl
reading_known (many_months before whole) = refl

pub kind_known : (r : Record) → known (kind_of r) ≡ true
unfolding known body_lengths
kind_known (heading h) = refl
kind_known (party p) = party_known p.brp
kind_known (fixed_hour hour f) = refl
kind_known (reading r) = reading_known r.over
kind_known (price hour p) = refl
kind_known (refixed_hour hour f) = refl
kind_known (end count) = refl

-- the record that a known kind and its fields are is of that kind
own_kinds : (fields : List (List ℕ)) → Entries (λ (k : ℕ) (ws : List ℕ). kind_of (record_from k fields) ≡ k) layouts
unfolding layouts record_from party_from reading_from
own_kinds fields = (refl, (refl, (refl, (refl, (refl, (refl, (refl, (refl, (refl, tt)))))))))

pub kind_of_record : (k : ℕ) (fields : List (List ℕ)) → known k ≡ true → kind_of (record_from k fields) ≡ k
kind_of_record k fields e = each_kind (λ (k : ℕ) (ws : List ℕ). kind_of (record_from k fields) ≡ k) (own_kinds fields) k e

pub length_of_record : (k : ℕ) (fields : List (List ℕ)) → known k ≡ true → body_length k ≡ length_of (record_from k fields)
length_of_record k fields e = ap body_length (sym (kind_of_record k fields e)) ∙ lengths_are (record_from k fields)

-- No body is longer than an hour's 35 bytes.
short_entries : Entries (λ (k : ℕ) (ws : List ℕ). total_of ws ≤ 35) layouts
unfolding layouts total_of
short_entries = (omega arith, (omega arith, (omega arith, (omega arith, (omega arith, (omega arith, (omega arith, (omega arith, (omega arith, tt)))))))))

pub body_short : (k : ℕ) → body_length k ≤ 35
unfolding known body_length
body_short k = go (known k) refl
  where
    go : (t : Bool) → known k ≡ t → body_length k ≤ 35
    go true e = each_kind (λ (k : ℕ) (ws : List ℕ). total_of ws ≤ 35) short_entries k e
    go false e = omega (arith, leb-false 1 (body_length k) e)

-- a known kind that is none of the others is the end
abbrev pub Not : ℕ → ℕ → Type 0
Not k other = k ≡ other → ⊥

abbrev LastKind : ℕ → List ℕ → Type 0
LastKind k ws =
    Not k heading_kind → Not k party_kind → Not k fixed_hour_kind → Not k reading_kind → Not k price_kind → Not k refixed_hour_kind → Not k long_reading_kind → Not k brp_party_kind
    → k ≡ end_kind

last_kinds : Entries LastKind layouts
unfolding layouts
last_kinds = (
  λ a b c d e f g h. absurd (a refl),
  (
    λ a b c d e f g h. absurd (b refl),
    (
      λ a b c d e f g h. absurd (c refl),
      (
        λ a b c d e f g h. absurd (d refl),
        (
          λ a b c d e f g h. absurd (e refl),
          (
            λ a b c d e f g h. absurd (f refl),
            (λ a b c d e f g h. refl, (λ a b c d e f g h. absurd (g refl), (λ a b c d e f g h. absurd (h refl), tt))),
          ),
        ),
      ),
    ),
  ),
)

-- the same, as a match on a kind leaves it
abbrev pub NoneOfTheOthers : ℕ → Type 0
NoneOfTheOthers k =
    (((((((Unit {0} × Not k heading_kind) × Not k party_kind) × Not k fixed_hour_kind) × Not k reading_kind) × Not k price_kind) × Not k refixed_hour_kind) × Not k long_reading_kind)
    × Not k brp_party_kind

pub last_kind : (k : ℕ) → known k ≡ true → NoneOfTheOthers k → k ≡ end_kind
last_kind k e n =
    each_kind LastKind last_kinds k e n.0.0.0.0.0.0.0.1 n.0.0.0.0.0.0.1 n.0.0.0.0.0.1 n.0.0.0.0.1 n.0.0.0.1 n.0.0.1
    n.0.1
    n.1

-- every kind is one byte
byte_entries : Entries (λ (k : ℕ) (ws : List ℕ). k ≤ 255) layouts
unfolding layouts
byte_entries = (omega arith, (omega arith, (omega arith, (omega arith, (omega arith, (omega arith, (omega arith, (omega arith, (omega arith, tt)))))))))

pub kind_is_a_byte : (k : ℕ) → known k ≡ true → k ≤ 255
kind_is_a_byte k e = each_kind (λ (k : ℕ) (ws : List ℕ). k ≤ 255) byte_entries k e
