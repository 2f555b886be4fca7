-- Where each record of a file stands: a file that is read has its heading at 0, then the parties, the fixed hours, the refixed hours and the prices, each kind
-- at a fixed distance, and the readings, each behind the bytes of those before it; the parties likewise, whose records are all of one length (W5). What has been
-- read so far takes up as many bytes as its records have.
use mathlib.Core.Bool.{Bool, true, false, ◌&&◌}
use mathlib.Core.List.{List, [], ◌∷◌, ◌++◌}
use mathlib.Core.Logic.{◌⊎◌, inl, inr, ⊎_elim}
use mathlib.Core.Path.{◌≡◌, refl, sym, ◌∙◌, ap, subst}
use Prim.Native.Nat.{ℕ, zero, suc, ◌+◌, ◌-◌, ◌*◌, ◌≤◌, ◌<◌}
use native.Mathlib.Nat.{eq-zero-or-pos, eq-or-lt_of_le}
use native.Mathlib.Omega.{arith}
use borrow.Author.Tests.{ltb-true, leb-true, eqb-true, eq-eqb}
use lib.Dec.{eqb, ltb}
use lib.IntN.{ℤ}
use lib.ListN.{length, get_or, drop, length-append, length-drop, get_or-append}
use lib.Seq.{drop-drop, get_or_at}
use Rattle.rules.specs.Accepted.{NoneRefuses}
use Rattle.rules.specs.Flows.{Flows}
use Rattle.rules.specs.MonthFile.{MonthFile, nothing_yet, H, P, due, alike_after, record_checks, with, is_end, closed, read_on, read_month}
use Rattle.rules.specs.Record.{Heading, Party, Reading, Record, heading, party, fixed_hour, reading, price, refixed_hour, end, body_length, known, field_widths}
use Rattle.rules.specs.Record.{cut_into, kind_at, record_at, in_file, heading_in_range, checks}
use Rattle.rules.specs.Refusals.{given, first}
use Rattle.rules.specs.Setting.{Prices}
use Rattle.rules.specs.WellFormed.{Every, as_party, as_reading}
use Rattle.rules.specs.Words.{at}
use Rattle.rules.proofs.Whole.{Counts, Sound, price_due, all_there, before_the_heading, both_pass, heading_facts, step, nothing_is_sound, went_on, closed_gives, of_the_right_length}
use Rattle.rules.proofs.Refusals.{accepted_exactly, unless_exactly, given_not_refusal}
pub use Rattle.rules.proofs.EachKind.{length_of, party_length, reading_length, length_of_record}

-- a record of the file that stands at an offset
pub record Standing (file : List ℕ) (offset : ℕ) (r : Record) : Type 0 where
  pub is : record_at (drop offset file) ≡ r
  pub known_kind : known (kind_at (drop offset file)) ≡ true
  pub fits : offset + (1 + length_of r) ≤ length file

-- the members of a list stand one after the other, at these offsets, as these records
abbrev pub Row : {A : Type 0} → List ℕ → (ℕ → ℕ) → (ℕ → A → Record) → List A → Type 0
Row {A} file offset mk l = (k : ℕ) → k < length l → (d : A) → Standing file (offset k) (mk k (get_or l k d))

row_none : {A : Type 0} (file : List ℕ) (offset : ℕ → ℕ) (mk : ℕ → A → Record) (l : List A) → length l ≡ 0 → Row file offset mk l
row_none file offset mk l e k b d = absurd (omega arith)

row_more : {A : Type 0} (file : List ℕ) (offset : ℕ → ℕ) (mk : ℕ → A → Record) (l : List A) (x : A) → Row file offset mk l
    → Standing file (offset (length l)) (mk (length l) x) → Row file offset mk (l ++ (x ∷ []))
row_more {A} file offset mk l x row new k b d =
    ⊎_elim
    (λ (e : k ≡ length l).
    subst (λ (j : ℕ). Standing file (offset j) (mk j (get_or (l ++ (x ∷ [])) j d))) (sym e)
    (rw (get_or_at l x [] d (length l) refl) new))
    (λ (c : k < length l). rw (get_or-append l (x ∷ []) d k c) (row k c d))
    (eq-or-lt_of_le (omega (arith, length-append l (x ∷ []))))

-- the same at offsets that are the same
row_same : {A : Type 0} (file : List ℕ) {offset offset' : ℕ → ℕ} (mk : ℕ → A → Record) (l : List A) → ((k : ℕ) → k < length l → offset k ≡ offset' k)
    → Row file offset mk l → Row file offset' mk l
row_same file mk l same row k b d = subst (λ (o : ℕ). Standing file o (mk k (get_or l k d))) (same k b) (row k b d)

-- a record whose hour field is the number that is due, and that stands where that number stands
at_its_place : {A : Type 0} {file : List ℕ} {offset place hour : ℕ} → offset ≡ place → (mk : ℕ → A → Record) {k : ℕ} → eqb hour k ≡ true → {x : A}
    → Standing file offset (mk hour x)
    → Standing file place (mk k x)
at_its_place {A} {file} {offset} {place} {hour} there mk {k} due {x} here =
    subst (λ (o : ℕ). Standing file o (mk k x)) there (subst (λ (t : ℕ). Standing file offset (mk t x)) (eqb-true hour k due) here)

-- the offsets, in a file of so many parties, hours and refixed hours
-- A record's bytes with its kind, by what is in it: of a party with a BRP of its own more than of one without, of a reading over months more than of one in this
-- month. Records of a list stand one behind the other: the k-th behind the bytes of those before it.
unfoldable pub sizes_before : {A : Type 0} → (A → Record) → List A → ℕ → ℕ
sizes_before make [] k = 0
sizes_before make (x ∷ l) zero = 0
sizes_before make (x ∷ l) (suc k) = (1 + length_of (make x)) + sizes_before make l k

abbrev pub all_sizes : {A : Type 0} → (A → Record) → List A → ℕ
all_sizes make l = sizes_before make l (length l)

abbrev pub party_offset : List Party → ℕ → ℕ
party_offset parties k = 10 + sizes_before party parties k

abbrev pub fixed_offset : List Party → ℕ → ℕ
fixed_offset parties k = 10 + all_sizes party parties + 36 * k

abbrev pub refixed_offset : List Party → ℕ → ℕ → ℕ
refixed_offset parties hours k = 10 + all_sizes party parties + 36 * hours + 36 * k

abbrev pub price_offset : List Party → ℕ → ℕ → ℕ → ℕ
price_offset parties hours refixed k = 10 + all_sizes party parties + 36 * hours + 36 * refixed + 7 * k

abbrev pub reading_offset : List Party → ℕ → ℕ → ℕ → List Reading → ℕ → ℕ
reading_offset parties hours refixed prices readings k = 10 + all_sizes party parties + 36 * hours + 36 * refixed + 7 * prices + sizes_before reading readings k

no_sizes : {A : Type 0} (make : A → Record) (l : List A) → length l ≡ 0 → all_sizes make l ≡ 0
unfolding sizes_before
no_sizes make [] e = refl
no_sizes make (x ∷ l) e = absurd (omega arith)

same_sizes : {A : Type 0} (make : A → Record) (l : List A) (x : A) (k : ℕ) → k ≤ length l → sizes_before make l k ≡ sizes_before make (l ++ (x ∷ [])) k
unfolding sizes_before
same_sizes make [] x zero b = refl
same_sizes make [] x (suc k) b = absurd (omega arith)
same_sizes make (y ∷ l) x zero b = refl
same_sizes make (y ∷ l) x (suc k) b = ap (λ (n : ℕ). (1 + length_of (make y)) + n) (same_sizes make l x k (omega arith))

pub one_size_more : {A : Type 0} (make : A → Record) (l : List A) (x : A) → all_sizes make (l ++ (x ∷ [])) ≡ all_sizes make l + (1 + length_of (make x))
unfolding sizes_before
one_size_more make [] x = omega arith
one_size_more make (y ∷ l) x = omega (arith, one_size_more make l x)

-- the bytes up to the next
pub next_size : {A : Type 0} (make : A → Record) (l : List A) (k : ℕ) (d : A) → k < length l → sizes_before make l (suc k) ≡ sizes_before make l k + (1 + length_of (make (get_or l k d)))
unfolding sizes_before
next_size make [] k d b = absurd (omega arith)
next_size make (x ∷ []) zero d b = omega arith
next_size make (x ∷ []) (suc k) d b = absurd (omega arith)
next_size make (x ∷ (y ∷ l)) zero d b = omega arith
next_size make (x ∷ (y ∷ l)) (suc k) d b = omega (arith, next_size make (y ∷ l) k d (omega arith))

-- records of one length: the k-th stands behind k times so many bytes
pub equal_sizes :
    {A : Type 0} (make : A → Record) (size : ℕ) (l : List A) → Every (λ (x : A). 1 + length_of (make x) ≡ size) l → (k : ℕ) → k ≤ length l
    → sizes_before make l k ≡ size * k
unfolding sizes_before
equal_sizes make size [] same k b = let none : k ≡ 0 = omega arith in rw none (omega arith)
equal_sizes make size (x ∷ l) same zero b = omega arith
equal_sizes make size (x ∷ l) same (suc k) b = omega (arith, same.0, equal_sizes make size l same.1 k (omega arith))

-- What has been read so far of a file, up to an offset.
pub record Placed (file : List ℕ) (m : MonthFile) (offset : ℕ) : Type 0 where
  pub at_start : H m ≡ 0 → offset ≡ 0
  pub so_far : 0 < H m → offset ≡ 10 + all_sizes party m.parties + 36 * length m.fixed + 36 * length m.refixed + 7 * length m.prices + all_sizes reading m.readings
  pub head : 0 < H m → Standing file 0 (heading m.heading)
  pub parties : Row file (party_offset m.parties) as_party m.parties
  pub fixed : Row file (fixed_offset m.parties) fixed_hour m.fixed
  pub refixed : Row file (refixed_offset m.parties (H m)) refixed_hour m.refixed
  pub prices : Row file (price_offset m.parties (H m) (length m.refixed)) price m.prices
  pub readings : Row file (reading_offset m.parties (H m) (length m.refixed) (length m.prices) m.readings) as_reading m.readings

nothing_is_placed : (file : List ℕ) → Placed file nothing_yet 0
unfolding nothing_yet H P
nothing_is_placed file =
    record {
      at_start = λ e. refl;
      so_far = λ b. absurd (omega arith);
      head = λ b. absurd (omega arith);
      parties = row_none file (party_offset []) as_party [] refl;
      fixed = row_none file (fixed_offset []) fixed_hour [] refl;
      refixed = row_none file (refixed_offset [] 0) refixed_hour [] refl;
      prices = row_none file (price_offset [] 0 0) price [] refl;
      readings = row_none file (reading_offset [] 0 0 0 []) as_reading [] refl;
    }

one_longer : {A : Type 0} (l : List A) (x : A) → length (l ++ (x ∷ [])) ≡ length l + 1
one_longer l x = length-append l (x ∷ [])

-- What the counts say where a record is due.
module _ {h p a f r q g : ℕ} (c : Counts h p a f r q g) where
  none_of : (n : ℕ) → (0 < n → ⊥) → n ≡ 0
  none_of n not = ⊎_elim (λ (z : n ≡ 0). z) (λ (b : 0 < n). absurd (not b)) (eq-zero-or-pos n)

  some_hours : 0 < p → 0 < h
  some_hours b = ⊎_elim (λ (z : h ≡ 0). absurd (omega (arith, c.headed z))) (λ (s : 0 < h). s) (eq-zero-or-pos h)

  pub parties_due : a < p → (0 < h) × (f ≡ 0) × (r ≡ 0) × (q ≡ 0) × (g ≡ 0)
  parties_due b =
      let some : 0 < h = some_hours (omega arith) in
      let no_fixed : f ≡ 0 = none_of f (λ x. omega (arith, c.parties_first x)) in
      let no-prices : q ≡ 0 = none_of q (λ x. omega (arith, c.fixed_priced x)) in
      (some, no_fixed, none_of r (λ x. omega (arith, c.fixed_first x)), no-prices, none_of g (λ x. omega (arith, (c.hours_first x).1)))

  pub fixed_due : f < h → (r ≡ 0) × (q ≡ 0) × (g ≡ 0)
  fixed_due b =
      let no-prices : q ≡ 0 = none_of q (λ x. omega (arith, c.fixed_priced x)) in
      (none_of r (λ x. omega (arith, c.fixed_first x)), no-prices, none_of g (λ x. omega (arith, (c.hours_first x).1)))

  all_parties : f ≡ h → 0 < h → a ≡ p
  all_parties e b = c.parties_first (omega arith)

-- One record more, of each kind.
module _ (file : List ℕ) (m : MonthFile) (s : Sound m) (offset : ℕ) (p : Placed file m offset) where
  place_heading : (h : Heading) → due m (heading h) ≡ true → 0 < h.hours → Standing file offset (heading h) → Placed file (with m (heading h)) (offset + 10)
  unfolding due with H P
  place_heading h d some here =
      let none = before_the_heading s.counts (eqb-true m.heading.hours 0 d) in
      let start : offset ≡ 0 = p.at_start (eqb-true m.heading.hours 0 d) in
      record {
        at_start = λ e. absurd (omega arith);
        so_far = λ b. omega (arith, no_sizes party m.parties none.0, none.1, none.2, none.3, no_sizes reading m.readings none.4);
        head = λ b. subst (λ (o : ℕ). Standing file o (heading h)) start here;
        parties = row_none file (party_offset m.parties) as_party m.parties none.0;
        fixed = row_none file (fixed_offset m.parties) fixed_hour m.fixed none.1;
        refixed = row_none file (refixed_offset m.parties h.hours) refixed_hour m.refixed none.2;
        prices = row_none file (price_offset m.parties h.hours (length m.refixed)) price m.prices none.3;
        readings = row_none file (reading_offset m.parties h.hours (length m.refixed) (length m.prices) m.readings) as_reading m.readings none.4;
      }

  place_party : (x : Party) → due m (party x) ≡ true → Standing file offset (party x) → Placed file (with m (party x)) (offset + (1 + length_of (party x)))
  unfolding due with H P
  place_party x d here =
      let tests = both_pass (ltb (length m.parties) (P m)) (alike_after m.parties x) d in
      let none = parties_due s.counts (ltb-true (length m.parties) (P m) tests.0) in
      let there : offset ≡ party_offset m.parties (length m.parties) =
      omega (arith, p.so_far none.0, none.1, none.2, none.3, no_sizes reading m.readings none.4) in
      let more : List Party = m.parties ++ (x ∷ []) in
      let moved : (k : ℕ) → k ≤ length m.parties → party_offset m.parties k ≡ party_offset more k = λ k b. omega (arith, same_sizes party m.parties x k b) in
      record {
        at_start = λ e. absurd (omega (arith, none.0));
        so_far = λ b. omega (arith, one_size_more party m.parties x, p.so_far b);
        head = p.head;
        parties =
            row_more file (party_offset more) as_party m.parties x (row_same file as_party m.parties (λ k b. moved k (omega arith)) p.parties)
            (subst (λ (o : ℕ). Standing file o (party x)) (there ∙ moved (length m.parties) (omega arith)) here);
        fixed = row_none file (fixed_offset more) fixed_hour m.fixed none.1;
        refixed = row_none file (refixed_offset more (H m)) refixed_hour m.refixed none.2;
        prices = row_none file (price_offset more (H m) (length m.refixed)) price m.prices none.3;
        readings = row_none file (reading_offset more (H m) (length m.refixed) (length m.prices) m.readings) as_reading m.readings none.4;
      }

  place_fixed : (hour : ℕ) (x : Flows) → due m (fixed_hour hour x) ≡ true → Standing file offset (fixed_hour hour x) → Placed file (with m (fixed_hour hour x)) (offset + 36)
  unfolding due with H P
  place_fixed hour x d here =
      let outer = both_pass (eqb (length m.parties) (P m) && ltb (length m.fixed) (H m)) (eqb hour (length m.fixed)) d in
      let inner = both_pass (eqb (length m.parties) (P m)) (ltb (length m.fixed) (H m)) outer.0 in
      let all : length m.parties ≡ P m = eqb-true (length m.parties) (P m) inner.0 in
      let more : length m.fixed < H m = ltb-true (length m.fixed) (H m) inner.1 in
      let none = fixed_due s.counts more in
      let there : offset ≡ fixed_offset m.parties (length m.fixed) = omega (arith, p.so_far (omega arith), none.0, none.1, no_sizes reading m.readings none.2) in
      record {
        at_start = λ e. absurd (omega arith);
        so_far = λ b. omega (arith, one_longer m.fixed x, p.so_far b);
        head = p.head;
        parties = p.parties;
        fixed = row_more file (fixed_offset m.parties) fixed_hour m.fixed x p.fixed (at_its_place there fixed_hour outer.1 here);
        refixed = p.refixed;
        prices = p.prices;
        readings = p.readings;
      }

  place_refixed : (hour : ℕ) (x : Flows) → due m (refixed_hour hour x) ≡ true → Standing file offset (refixed_hour hour x) → Placed file (with m (refixed_hour hour x)) (offset + 36)
  unfolding due with H P
  place_refixed hour x d here =
      let outer = both_pass (eqb (length m.fixed) (H m) && ltb (length m.refixed) (H m) && eqb (length m.prices) 0 && eqb (length m.readings) 0) (eqb hour (length m.refixed)) d in
      let last = both_pass (eqb (length m.fixed) (H m) && ltb (length m.refixed) (H m) && eqb (length m.prices) 0) (eqb (length m.readings) 0) outer.0 in
      let middle = both_pass (eqb (length m.fixed) (H m) && ltb (length m.refixed) (H m)) (eqb (length m.prices) 0) last.0 in
      let inner = both_pass (eqb (length m.fixed) (H m)) (ltb (length m.refixed) (H m)) middle.0 in
      let all : length m.fixed ≡ H m = eqb-true (length m.fixed) (H m) inner.0 in
      let more : length m.refixed < H m = ltb-true (length m.refixed) (H m) inner.1 in
      let no-prices : length m.prices ≡ 0 = eqb-true (length m.prices) 0 middle.1 in
      let no_more : length m.readings ≡ 0 = eqb-true (length m.readings) 0 last.1 in
      let everyone : length m.parties ≡ P m = all_parties s.counts all (omega arith) in
      let there : offset ≡ refixed_offset m.parties (H m) (length m.refixed) = omega (arith, p.so_far (omega arith), no_sizes reading m.readings no_more) in
      record {
        at_start = λ e. absurd (omega arith);
        so_far = λ b. omega (arith, one_longer m.refixed x, p.so_far b);
        head = p.head;
        parties = p.parties;
        fixed = p.fixed;
        refixed = row_more file (refixed_offset m.parties (H m)) refixed_hour m.refixed x p.refixed (at_its_place there refixed_hour outer.1 here);
        prices = row_none file (price_offset m.parties (H m) (length (m.refixed ++ (x ∷ [])))) price m.prices no-prices;
        readings = row_none file (reading_offset m.parties (H m) (length (m.refixed ++ (x ∷ []))) (length m.prices) m.readings) as_reading m.readings no_more;
      }

  place_price : (hour : ℕ) (x : ℤ) → due m (price hour x) ≡ true → Standing file offset (price hour x) → Placed file (with m (price hour x)) (offset + 7)
  unfolding due with H P
  place_price hour x d here =
      let is_due = price_due m hour x d in
      let all : length m.fixed ≡ H m = is_due.all_fixed in
      let more : length m.prices < H m = is_due.more in
      let no_more : length m.readings ≡ 0 = is_due.no_readings in
      let everyone : length m.parties ≡ P m = all_parties s.counts all (omega arith) in
      let there : offset ≡ price_offset m.parties (H m) (length m.refixed) (length m.prices) = omega (arith, p.so_far (omega arith), no_sizes reading m.readings no_more) in
      record {
        at_start = λ e. absurd (omega arith);
        so_far = λ b. omega (arith, one_longer m.prices x, p.so_far b);
        head = p.head;
        parties = p.parties;
        fixed = p.fixed;
        refixed = p.refixed;
        prices =
            row_more file (price_offset m.parties (H m) (length m.refixed)) price m.prices x p.prices
            (at_its_place there price (eq-eqb hour (length m.prices) is_due.in_turn) here);
        readings = row_none file (reading_offset m.parties (H m) (length m.refixed) (length (m.prices ++ (x ∷ []))) m.readings) as_reading m.readings no_more;
      }

  place_reading : (x : Reading) → due m (reading x) ≡ true → Standing file offset (reading x) → Placed file (with m (reading x)) (offset + (1 + length_of (reading x)))
  unfolding due with H P
  place_reading x d here =
      let there = all_there m s d in
      let some : 1 ≤ H m = there.0 in
      let all : length m.fixed ≡ H m = there.1 in
      let everyone : length m.parties ≡ P m = all_parties s.counts all some in
      let here_is : offset ≡ reading_offset m.parties (H m) (length m.refixed) (length m.prices) m.readings (length m.readings) = omega (arith, p.so_far some) in
      let moved : (k : ℕ) → k ≤ length m.readings
      → reading_offset m.parties (H m) (length m.refixed) (length m.prices) m.readings k
      ≡ reading_offset m.parties (H m) (length m.refixed) (length m.prices) (m.readings ++ (x ∷ [])) k =
      λ k b. omega (arith, same_sizes reading m.readings x k b) in
      record {
        at_start = λ e. absurd (omega arith);
        so_far = λ b. omega (arith, one_size_more reading m.readings x, p.so_far b);
        head = p.head;
        parties = p.parties;
        fixed = p.fixed;
        refixed = p.refixed;
        prices = p.prices;
        readings =
            row_more file (reading_offset m.parties (H m) (length m.refixed) (length m.prices) (m.readings ++ (x ∷ []))) as_reading m.readings x
            (row_same file as_reading m.readings (λ k b. moved k (omega arith)) p.readings)
            (subst (λ (o : ℕ). Standing file o (reading x)) (here_is ∙ moved (length m.readings) (omega arith)) here);
      }

-- a record of any kind but the end
pub place :
    (file : List ℕ) (m : MonthFile) → Sound m → (offset : ℕ) → Placed file m offset → (n : ℕ) (r : Record)
    → is_end r ≡ false
    → due m r ≡ true
    → NoneRefuses (checks (in_file m n) r)
    → Standing file offset r
    → Placed file (with m r) (offset + (1 + length_of r))
unfolding is_end H P checks
place file m s offset p n (heading h) e d c here =
    place_heading file m s offset p h d (heading_facts h ((unless_exactly (heading_in_range h) _ _).0 c.0)).hours.0 here
place file m s offset p n (party x) e d c here = place_party file m s offset p x d here
place file m s offset p n (fixed_hour hour x) e d c here = place_fixed file m s offset p hour x d here
place file m s offset p n (reading x) e d c here = place_reading file m s offset p x d here
place file m s offset p n (price hour x) e d c here = place_price file m s offset p hour x d here
place file m s offset p n (refixed_hour hour x) e d c here = place_refixed file m s offset p hour x d here
place file m s offset p n (end count) e d c here = absurd (let z : ◌≡◌ {A = ℕ} 0 1 = cc in omega arith)

-- where a record stands that passed 2 and 1
pub here_stands : (file : List ℕ) (offset kind : ℕ) (body : List ℕ) → drop offset file ≡ kind ∷ body → known kind ≡ true
    → 1 + body_length kind ≤ length (kind ∷ body) → Standing file offset (record_at (kind ∷ body))
unfolding kind_at at record_at
here_stands file offset kind body e k b =
    let size : length (drop offset file) ≡ length file - offset = length-drop offset file in
    let same : length (drop offset file) ≡ suc (length body) = ap length e in
    record { is = ap record_at e; known_kind = rw e k; fits = omega (arith, length_of_record kind (cut_into (field_widths kind) body) k) }

-- the bytes after it
pub bytes_after : (file : List ℕ) (offset kind : ℕ) (body : List ℕ) → drop offset file ≡ kind ∷ body → known kind ≡ true
    → drop (body_length kind) body ≡ drop (offset + (1 + length_of (record_at (kind ∷ body)))) file
unfolding kind_at at record_at
bytes_after file offset kind body e k =
    let longer : 1 + length_of (record_at (kind ∷ body)) ≡ suc (body_length kind) = omega (arith, length_of_record kind (cut_into (field_widths kind) body) k) in
    ap (drop (suc (body_length kind))) (sym e) ∙ drop-drop (suc (body_length kind)) offset file
    ∙ ap (λ (l : ℕ). drop (offset + l) file) (sym longer)

end_or_not : (r : Record) → (is_end r ≡ true) ⊎ (is_end r ≡ false)
end_or_not r = go (is_end r) refl
  where
    go : (t : Bool) → is_end r ≡ t → (is_end r ≡ true) ⊎ (is_end r ≡ false)
    go true e = inl e
    go false e = inr e

read_on_placed : (prices : Prices) (file : List ℕ) (more : ℕ) (bytes : List ℕ) (n : ℕ) (m : MonthFile) (offset : ℕ) → drop offset file ≡ bytes → Sound m
    → Placed file m offset → {m' : MonthFile} → read_on prices more bytes n m ≡ given m' → (o : ℕ) × Placed file m' o
unfolding read_on record_checks kind_at at
read_on_placed prices file zero bytes n m offset here s p e = absurd (given_not_refusal e)
read_on_placed prices file (suc more) [] n m offset here s p e = absurd (given_not_refusal e)
read_on_placed prices file (suc more) (kind ∷ body) n m offset here s p {m'} e =
    let r = record_at (kind ∷ body) in
    let on = went_on (first (record_checks prices m n (kind ∷ body))) _ e in
    let passed = (accepted_exactly (record_checks prices m n (kind ∷ body))).0 on.0 in
    let k : known kind ≡ true = (unless_exactly (known kind) _ _).0 passed.0 in
    let b : 1 + body_length kind ≤ length (kind ∷ body) = leb-true (1 + body_length kind) (length (kind ∷ body)) ((unless_exactly _ _ _).0 passed.1.0) in
    let d : due m r ≡ true = (unless_exactly (due m r) _ _).0 passed.1.1.0 in
    let s' : Sound (with m r) = step m s n r d passed.1.1.1.1 in
    ⊎_elim
    (λ (z : is_end r ≡ true).
    let gives : closed m (suc n) (drop (body_length kind) body) ≡ given m' = rw z at on.1 in
    (offset, subst (λ (x : MonthFile). Placed file x offset) (closed_gives m (suc n) (drop (body_length kind) body) gives) p))
    (λ (z : is_end r ≡ false).
    let gives : read_on prices more (drop (body_length kind) body) (suc n) (with m r) ≡ given m' = rw z at on.1 in
    read_on_placed prices file more (drop (body_length kind) body) (suc n) (with m r) (offset + (1 + length_of r))
    (sym (bytes_after file offset kind body here k)) s'
    (place file m s offset p n r z d passed.1.1.1.1 (here_stands file offset kind body here k b)) gives)
    (end_or_not r)

-- THE RECORDS OF A FILE THAT IS READ STAND AT THEIR PLACES.
pub what_is_read_is_placed : (prices : Prices) (file : List ℕ) {m : MonthFile} → read_month prices file ≡ given m → (o : ℕ) × Placed file m o
what_is_read_is_placed prices file e = read_on_placed prices file (length file) file 0 nothing_yet 0 refl nothing_is_sound (nothing_is_placed file) (of_the_right_length prices file e).1
