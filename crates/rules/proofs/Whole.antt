-- What is read is whole (specs/WellFormed): a file that is read through to its end record has the records that its heading announces, each within its rules.
-- Each record that is due and right keeps what has been read so far `Sound`, and where the end record is due a sound month is `Whole`.
use mathlib.Core.Bool.{Bool, true, false, cond, ◌&&◌, ◌||◌}
use mathlib.Core.List.{List, [], ◌∷◌, ◌++◌}
use mathlib.Core.Logic.{◌⊎◌, ◌↔◌, inl, inr, ⊎_elim}
use mathlib.Core.Path.{◌≡◌, refl, ◌∙◌, ap, subst}
use Prim.Native.Nat.{ℕ, zero, suc, ◌≤◌, ◌<◌, zero-le}
use native.Mathlib.Nat.{le_refl, le_antisymm, not-suc-le-zero, le_of_suc-le-suc, eq-zero-or-pos, lt_trans}
use native.Mathlib.Omega.{arith}
use borrow.Author.Tests.{ltb-true, leb-true, eqb-true, lt-ltb, le-leb}
use lib.Dec.{eqb, leb, ltb}
use lib.IntN.{ℤ, pos, negsuc, nat_abs}
use lib.Signed.{le_z}
use lib.ListN.{length, get_or, drop, length-append, length-drop}
use Rattle.rules.specs.Accepted.{NoneRefuses}
use Rattle.rules.specs.Flows.{Flows, flows_in_range, silent_is_zero}
use Rattle.rules.specs.Gln.{valid_gln, rises, digits_onto}
use Rattle.rules.specs.Limits.{greatest_area, earliest_year, latest_year, months_of_aYear, most_hours, most_parties, greatest_share, greatest_energy, greatest_price, longest_file}
use Rattle.rules.specs.MonthFile.{MonthFile, nothing_yet, H, P, with, hours_there, prices_there, due, all_priced, priced_for, after_the_last, alike_after, rises_after}
use Rattle.rules.specs.MonthFile.{record_checks, is_end, closed, onward, read_on, read_month}
use Rattle.rules.specs.Record.{Heading, Party, Reading, Record, heading, party, fixed_hour, reading, price, refixed_hour, end, body_length, record_at}
use Rattle.rules.specs.Record.{brp_gln, party_kind_of, in_file, heading_in_range, hour_in_range, checks}
use Rattle.rules.specs.Refusals.{file_fault, Verdict, accepted, refused, Answer, given, refusal, first}
use Rattle.rules.specs.Services.{same_ℤ}
use Rattle.rules.specs.Setting.{Prices, needed, optional}
use Rattle.rules.specs.Words.{within, within_ℤ}
use Rattle.rules.proofs.Refusals.{accepted_exactly, unless_exactly, given_not_refusal}
pub use Rattle.rules.specs.WellFormed.{Every, PartyRight, FlowsRight, PriceRight, ReadingRight, HeadingRight, Below, Rising, SameKind, OneKind, Whole, Priced}

-- Tests: one is passed or not; both are passed; one of them is; two numbers are the same.
pub true_not_false : ◌≡◌ {A = Bool} true false → ⊥
true_not_false e = let z : ◌≡◌ {A = ℕ} 0 1 = cc in omega arith

pub both_pass : (a b : Bool) → a && b ≡ true → (a ≡ true) × (b ≡ true)
both_pass true b e = (refl, e)
both_pass false b e = (e, absurd (let z : ◌≡◌ {A = ℕ} 0 1 = cc in omega arith))

pub same_is : (a b : ℤ) → same_ℤ a b ≡ true → a ≡ b
unfolding same_ℤ
same_is (pos a) (pos b) h =
    let e : (leb a b ≡ true) × (leb b a ≡ true) = both_pass (leb a b) (leb b a) h in
    ap pos (le_antisymm (leb-true a b e.0) (leb-true b a e.1))
same_is (pos a) (negsuc b) h = let z : ◌≡◌ {A = ℕ} 0 1 = cc in absurd (omega arith)
same_is (negsuc a) (pos b) h = let z : ◌≡◌ {A = ℕ} 0 1 = cc in absurd (omega arith)
same_is (negsuc a) (negsuc b) h =
    let e : (leb b a ≡ true) × (leb a b ≡ true) = both_pass (leb b a) (leb a b) h in
    ap negsuc (le_antisymm (leb-true a b e.1) (leb-true b a e.0))

pub same_tests : (a b : ℤ) → a ≡ b → same_ℤ a b ≡ true
unfolding same_ℤ
same_tests a b e = subst (λ (x : ℤ). le_z a x && le_z x a ≡ true) e (itself a)
  where
    itself : (z : ℤ) → le_z z z && le_z z z ≡ true
    itself (pos n) = rw (le-leb n n (le_refl n))
    itself (negsuc n) = rw (le-leb n n (le_refl n))

pub one_passes : (a b : Bool) → a || b ≡ true → (a ≡ true) ⊎ (b ≡ true)
one_passes true b e = inl refl
one_passes false b e = inr e

pub within_is : (low high n : ℕ) → within low high n ≡ true → (low ≤ n) × (n ≤ high)
unfolding within
within_is low high n e =
    let both : (leb low n ≡ true) × (leb n high ≡ true) = both_pass (leb low n) (leb n high) e in
    (leb-true low n both.0, leb-true n high both.1)

pub within_size : (most : ℕ) (z : ℤ) → within_ℤ most z ≡ true → nat_abs z ≤ most
unfolding within_ℤ
within_size zero (pos n) e = leb-true n 0 (both_pass (leb 0 n) (leb n 0) e).1
within_size (suc most) (pos n) e = leb-true n (suc most) (both_pass true (leb n (suc most)) e).1
within_size zero (negsuc n) e = absurd (let z : ◌≡◌ {A = ℕ} 0 1 = cc in omega arith)
within_size (suc most) (negsuc n) e = omega (arith, leb-true n most (both_pass (leb n most) true e).0)

-- Every member of a list is such: one more, none, one of them.
pub every_more : {A : Type 0} (is : A → Type 0) (l : List A) (x : A) → Every is l → is x → Every is (l ++ (x ∷ []))
every_more is [] x h k = (k, tt)
every_more is (y ∷ l) x h k = (h.0, every_more is l x h.1 k)

every_none : {A : Type 0} (is : A → Type 0) (l : List A) → length l ≡ 0 → Every is l
every_none is [] e = tt
every_none is (x ∷ l) e = absurd (omega arith)

pub every_at : {A : Type 0} (is : A → Type 0) (l : List A) → Every is l → (i : ℕ) (d : A) → i < length l → is (get_or l i d)
every_at is [] h i d b = absurd (not-suc-le-zero b)
every_at is (x ∷ l) h zero d b = h.0
every_at is (x ∷ l) h (suc i) d b = every_at is l h.1 i d (le_of_suc-le-suc b)

one_more : {A : Type 0} (l : List A) (x : A) → length (l ++ (x ∷ [])) ≡ suc (length l)
one_more l x = length-append l (x ∷ []) ∙ omega arith

-- What the rule of its fields says of a heading.
pub record HeadingFacts (h : Heading) : Type 0 where
  pub area : (1 ≤ h.area) × (h.area ≤ greatest_area)
  pub year : (earliest_year ≤ h.year) × (h.year ≤ latest_year)
  pub month : (1 ≤ h.month) × (h.month ≤ months_of_aYear)
  pub hours : (1 ≤ h.hours) × (h.hours ≤ most_hours)
  pub parties : (1 ≤ h.parties) × (h.parties ≤ most_parties)
  pub carrier : h.carrier < h.parties

pub heading_facts : (h : Heading) → HeadingRight h → HeadingFacts h
unfolding heading_in_range
heading_facts h e =
    let area = within 1 greatest_area h.area in
    let year = within earliest_year latest_year h.year in
    let month = within 1 months_of_aYear h.month in
    let hours = within 1 most_hours h.hours in
    let parties = within 1 most_parties h.parties in
    let t5 = both_pass (area && year && month && hours && parties) (ltb h.carrier h.parties) e in
    let t4 = both_pass (area && year && month && hours) parties t5.0 in
    let t3 = both_pass (area && year && month) hours t4.0 in
    let t2 = both_pass (area && year) month t3.0 in
    let t1 = both_pass area year t2.0 in
    record {
      area = within_is 1 greatest_area h.area t1.0;
      year = within_is earliest_year latest_year h.year t1.1;
      month = within_is 1 months_of_aYear h.month t2.1;
      hours = within_is 1 most_hours h.hours t3.1;
      parties = within_is 1 most_parties h.parties t4.1;
      carrier = ltb-true h.carrier h.parties t5.1;
    }

-- GLNs THAT RISE: what is above the last of some that rise is above them all.
pub rises_strictly : (earlier later : List ℕ) → (rises earlier later ≡ true) ↔ (digits_onto 0 earlier < digits_onto 0 later)
unfolding rises
rises_strictly earlier later = (ltb-true (digits_onto 0 earlier) (digits_onto 0 later), lt-ltb (digits_onto 0 earlier) (digits_onto 0 later))

above_all : (l : List Party) (p : Party) → Rising l → rises_after l p ≡ true → Every (λ (q : Party). Below q p) l
unfolding rises_after after_the_last
above_all [] p h e = tt
above_all (q ∷ []) p h e = ((rises_strictly q.gln p.gln).0 e, tt)
above_all (q ∷ (q' ∷ l)) p h e =
    let later : Every (λ (x : Party). Below x p) (q' ∷ l) = above_all (q' ∷ l) p h.1 e in
    (lt_trans h.0.0 later.0, later)

one_above : (l : List Party) (p : Party) → Rising l → Every (λ (q : Party). Below q p) l → Rising (l ++ (p ∷ []))
one_above [] p h a = (tt, tt)
one_above (q ∷ l) p h a = (every_more (Below q) l p h.0 a.0, one_above l p h.1 a.1)

rising_more : (l : List Party) (p : Party) → Rising l → rises_after l p ≡ true → Rising (l ++ (p ∷ []))
rising_more l p h e = one_above l p h (above_all l p h e)

-- PARTIES OF ONE KIND: a record like the last one's keeps them so.
like_the_first : (q : Party) (l : List Party) (p : Party) → Every (SameKind q) l → alike_after (q ∷ l) p ≡ true → SameKind q p
unfolding alike_after after_the_last
like_the_first q [] p k e = eqb-true (party_kind_of q.brp) (party_kind_of p.brp) e
like_the_first q (x ∷ []) p k e = k.0 ∙ eqb-true (party_kind_of x.brp) (party_kind_of p.brp) e
like_the_first q (x ∷ (y ∷ l)) p k e = like_the_first q (y ∷ l) p k.1 e

one_kind_more : (l : List Party) (p : Party) → OneKind l → alike_after l p ≡ true → OneKind (l ++ (p ∷ []))
one_kind_more [] p k e = tt
one_kind_more (q ∷ l) p k e = every_more (SameKind q) l p k (like_the_first q l p k e)

-- How many of each kind there are, of a file of h hours and p parties: a parties, f fixed and r refixed hours, q prices, g readings.
pub record Counts (h p a f r q g : ℕ) : Type 0 where
  pub parties : a ≤ p
  pub fixed : f ≤ h
  pub refixed : r ≤ h
  pub prices : q ≤ h
  pub parties_first : 0 < f → a ≡ p
  pub fixed_first : 0 < r → f ≡ h
  pub fixed_priced : 0 < q → f ≡ h
  pub refixed_priced : 0 < q → 0 < r → r ≡ h
  pub hours_first : 0 < g → (0 < h) × (f ≡ h) × ((r ≡ 0) ⊎ (r ≡ h)) × ((q ≡ 0) ⊎ (q ≡ h))
  pub headed : h ≡ 0 → p ≡ 0

module _ {h p a f r q g : ℕ} (c : Counts h p a f r q g) where
  pub before_the_heading : h ≡ 0 → (a ≡ 0) × (f ≡ 0) × (r ≡ 0) × (q ≡ 0) × (g ≡ 0)
  before_the_heading z = (
    omega (arith, c.parties, c.headed z),
    omega (arith, c.fixed),
    omega (arith, c.refixed),
    omega (arith, c.prices),
    ⊎_elim (λ (e : g ≡ 0). e) (λ (b : 0 < g). absurd (omega (arith, (c.hours_first b).0))) (eq-zero-or-pos g),
  )

  one_party : a < p → Counts h p (suc a) f r q g
  one_party b =
      record {
        parties = b;
        fixed = c.fixed;
        refixed = c.refixed;
        prices = c.prices;
        parties_first = λ x. absurd (omega (arith, c.parties_first x));
        fixed_first = c.fixed_first;
        fixed_priced = c.fixed_priced;
        refixed_priced = c.refixed_priced;
        hours_first = c.hours_first;
        headed = c.headed;
      }

  one_fixed : a ≡ p → f < h → Counts h p a (suc f) r q g
  one_fixed e b =
      record {
        parties = c.parties;
        fixed = b;
        refixed = c.refixed;
        prices = c.prices;
        parties_first = λ x. e;
        fixed_first = λ x. absurd (omega (arith, c.fixed_first x));
        fixed_priced = λ x. absurd (omega (arith, c.fixed_priced x));
        refixed_priced = c.refixed_priced;
        hours_first = λ x. absurd (omega (arith, (c.hours_first x).1));
        headed = c.headed;
      }

  one_refixed : f ≡ h → r < h → q ≡ 0 → g ≡ 0 → Counts h p a f (suc r) q g
  one_refixed e b z no_readings =
      record {
        parties = c.parties;
        fixed = c.fixed;
        refixed = b;
        prices = c.prices;
        parties_first = c.parties_first;
        fixed_first = λ x. e;
        fixed_priced = c.fixed_priced;
        refixed_priced = λ x y. absurd (omega arith);
        hours_first = λ x. absurd (omega arith);
        headed = c.headed;
      }

  one_price : f ≡ h → (r ≡ 0) ⊎ (r ≡ h) → q < h → g ≡ 0 → Counts h p a f r (suc q) g
  one_price e none_or_all b no_readings =
      record {
        parties = c.parties;
        fixed = c.fixed;
        refixed = c.refixed;
        prices = b;
        parties_first = c.parties_first;
        fixed_first = c.fixed_first;
        fixed_priced = λ x. e;
        refixed_priced = λ x y. ⊎_elim (λ (z : r ≡ 0). absurd (omega arith)) (λ (w : r ≡ h). w) none_or_all;
        hours_first = λ x. absurd (omega arith);
        headed = c.headed;
      }

  one_reading : (0 < h) × (f ≡ h) × ((r ≡ 0) ⊎ (r ≡ h)) × ((q ≡ 0) ⊎ (q ≡ h)) → Counts h p a f r q (suc g)
  one_reading there =
      record {
        parties = c.parties;
        fixed = c.fixed;
        refixed = c.refixed;
        prices = c.prices;
        parties_first = c.parties_first;
        fixed_first = c.fixed_first;
        fixed_priced = c.fixed_priced;
        refixed_priced = c.refixed_priced;
        hours_first = λ x. there;
        headed = c.headed;
      }

none_counted : {h p : ℕ} → 0 < h → Counts h p 0 0 0 0 0
none_counted {h} {p} b =
    record {
      parties = zero-le;
      fixed = zero-le;
      refixed = zero-le;
      prices = zero-le;
      parties_first = λ x. absurd (omega arith);
      fixed_first = λ x. absurd (omega arith);
      fixed_priced = λ x. absurd (omega arith);
      refixed_priced = λ x y. absurd (omega arith);
      hours_first = λ x. absurd (omega arith);
      headed = λ z. absurd (omega arith);
    }

nothing_counted : Counts 0 0 0 0 0 0 0
nothing_counted =
    record {
      parties = zero-le;
      fixed = zero-le;
      refixed = zero-le;
      prices = zero-le;
      parties_first = λ x. refl;
      fixed_first = λ x. refl;
      fixed_priced = λ x. refl;
      refixed_priced = λ x y. refl;
      hours_first = λ x. absurd (omega arith);
      headed = λ z. refl;
    }

pub record Sound (m : MonthFile) : Type 0 where
  pub counts : Counts (H m) (P m) (length m.parties) (length m.fixed) (length m.refixed) (length m.prices) (length m.readings)
  pub head : 0 < H m → HeadingRight m.heading
  pub parties : Every PartyRight m.parties
  pub rising : Rising m.parties
  pub one_kind : OneKind m.parties
  pub fixed : Every FlowsRight m.fixed
  pub refixed : Every FlowsRight m.refixed
  pub prices : Every PriceRight m.prices
  pub readings : Every (ReadingRight (H m) (P m)) m.readings

pub nothing_is_sound : Sound nothing_yet
unfolding nothing_yet H P
nothing_is_sound =
    record { counts = nothing_counted; head = λ x. absurd (omega arith); parties = tt; rising = tt; one_kind = tt; fixed = tt; refixed = tt; prices = tt; readings = tt }

-- WHAT IS THERE WHERE A PRICE, A READING OR THE END IS DUE
none_or_all : (h n : ℕ) → eqb n 0 || eqb n h ≡ true → (n ≡ 0) ⊎ (n ≡ h)
none_or_all h n e = ⊎_elim (λ t. inl (eqb-true n 0 t)) (λ t. inr (eqb-true n h t)) (one_passes (eqb n 0) (eqb n h) e)

hours_are_there : (m : MonthFile) → hours_there m ≡ true → (length m.fixed ≡ H m) × ((length m.refixed ≡ 0) ⊎ (length m.refixed ≡ H m))
unfolding hours_there
hours_are_there m d =
    let tests = both_pass (eqb (length m.fixed) (H m)) (eqb (length m.refixed) 0 || eqb (length m.refixed) (H m)) d in
    (eqb-true (length m.fixed) (H m) tests.0, none_or_all (H m) (length m.refixed) tests.1)

pub record PriceDue (m : MonthFile) (hour : ℕ) : Type 0 where
  pub all_fixed : length m.fixed ≡ H m
  pub refixed : (length m.refixed ≡ 0) ⊎ (length m.refixed ≡ H m)
  pub more : length m.prices < H m
  pub no_readings : length m.readings ≡ 0
  pub in_turn : hour ≡ length m.prices

pub price_due : (m : MonthFile) (hour : ℕ) (z : ℤ) → due m (price hour z) ≡ true → PriceDue m hour
unfolding due
price_due m hour z d =
    let last = both_pass (hours_there m && ltb (length m.prices) (H m) && eqb (length m.readings) 0) (eqb hour (length m.prices)) d in
    let outer = both_pass (hours_there m && ltb (length m.prices) (H m)) (eqb (length m.readings) 0) last.0 in
    let inner = both_pass (hours_there m) (ltb (length m.prices) (H m)) outer.0 in
    let hours = hours_are_there m inner.0 in
    record {
      all_fixed = hours.0;
      refixed = hours.1;
      more = ltb-true (length m.prices) (H m) inner.1;
      no_readings = eqb-true (length m.readings) 0 outer.1;
      in_turn = eqb-true hour (length m.prices) last.1;
    }

pub all_there :
    (m : MonthFile) → Sound m → leb 1 (H m) && prices_there m ≡ true
    → (0 < H m) × (length m.fixed ≡ H m) × ((length m.refixed ≡ 0) ⊎ (length m.refixed ≡ H m)) × ((length m.prices ≡ 0) ⊎ (length m.prices ≡ H m))
unfolding prices_there
all_there m s d =
    let tests = both_pass (leb 1 (H m)) (prices_there m) d in
    let some : 1 ≤ H m = leb-true 1 (H m) tests.0 in
    let priced = eqb (length m.prices) (H m) in
    let unpriced = eqb (length m.prices) 0 && hours_there m in
    ⊎_elim
    (λ (t : priced ≡ true).
    let all : length m.prices ≡ H m = eqb-true (length m.prices) (H m) t in
    let one : 0 < length m.prices = omega arith in
    (some, s.counts.fixed_priced one, ⊎_elim (λ z. inl z) (λ b. inr (s.counts.refixed_priced one b)) (eq-zero-or-pos (length m.refixed)), inr all))
    (λ (t : unpriced ≡ true).
    let none = both_pass (eqb (length m.prices) 0) (hours_there m) t in
    let hours = hours_are_there m none.1 in
    (some, hours.0, hours.1, inl (eqb-true (length m.prices) 0 none.0)))
    (one_passes priced unpriced tests.1)

-- One record that is due and passes its checks keeps the month sound.
module _ (m : MonthFile) (s : Sound m) (n : ℕ) where
  abbrev Passes : Record → Type 0
  Passes r = NoneRefuses (checks (in_file m n) r)

  with_heading : (h : Heading) → due m (heading h) ≡ true → Passes (heading h) → Sound (with m (heading h))
  unfolding due with H P checks
  with_heading h d c =
      let none = before_the_heading s.counts (eqb-true m.heading.hours 0 d) in
      let right : HeadingRight h = (unless_exactly (heading_in_range h) _ _).0 c.0 in
      record {
        counts = simp (none.0, none.1, none.2, none.3, none.4) (none_counted (heading_facts h right).hours.0);
        head = λ x. right;
        parties = s.parties;
        rising = s.rising;
        one_kind = s.one_kind;
        fixed = s.fixed;
        refixed = s.refixed;
        prices = s.prices;
        readings = every_none (ReadingRight h.hours h.parties) m.readings none.4;
      }

  with_party : (p : Party) → due m (party p) ≡ true → Passes (party p) → Sound (with m (party p))
  unfolding due with H P checks
  with_party p d c =
      let share : p.share ≤ greatest_share = leb-true p.share greatest_share ((unless_exactly (leb p.share greatest_share) _ _).0 c.0) in
      let tests = both_pass (ltb (length m.parties) (P m)) (alike_after m.parties p) d in
      let valid : valid_gln p.gln ≡ true = (unless_exactly (valid_gln p.gln) _ _).0 c.1.0 in
      let brp : valid_gln (brp_gln p) ≡ true = (unless_exactly (valid_gln (brp_gln p)) _ _).0 c.1.1.0 in
      record {
        counts = rw (one_more m.parties p) (one_party s.counts (ltb-true (length m.parties) m.heading.parties tests.0));
        head = s.head;
        parties = every_more PartyRight m.parties p s.parties (share, valid, brp);
        rising = rising_more m.parties p s.rising ((unless_exactly (rises_after m.parties p) _ _).0 c.1.1.1.0);
        one_kind = one_kind_more m.parties p s.one_kind tests.1;
        fixed = s.fixed;
        refixed = s.refixed;
        prices = s.prices;
        readings = s.readings;
      }

  flows_right : (hour : ℕ) (f : Flows) → hour_in_range (H m) hour f ≡ true → FlowsRight f
  unfolding hour_in_range
  flows_right hour f e =
      let outer = both_pass (ltb hour (H m) && flows_in_range f) (silent_is_zero f) e in
      ((both_pass (ltb hour (H m)) (flows_in_range f) outer.0).1, outer.1)

  with_fixed : (hour : ℕ) (f : Flows) → due m (fixed_hour hour f) ≡ true → Passes (fixed_hour hour f) → Sound (with m (fixed_hour hour f))
  unfolding due with H P checks
  with_fixed hour f d c =
      let tests = both_pass _ (ltb (length m.fixed) (H m)) (both_pass _ (eqb hour (length m.fixed)) d).0 in
      let all : length m.parties ≡ P m = eqb-true (length m.parties) (P m) tests.0 in
      let right : FlowsRight f = flows_right hour f ((unless_exactly (hour_in_range (H m) hour f) _ _).0 c.0) in
      record {
        counts = rw (one_more m.fixed f) (one_fixed s.counts all (ltb-true (length m.fixed) (H m) tests.1));
        head = s.head;
        parties = s.parties;
        rising = s.rising;
        one_kind = s.one_kind;
        fixed = every_more FlowsRight m.fixed f s.fixed right;
        refixed = s.refixed;
        prices = s.prices;
        readings = s.readings;
      }

  with_refixed : (hour : ℕ) (f : Flows) → due m (refixed_hour hour f) ≡ true → Passes (refixed_hour hour f) → Sound (with m (refixed_hour hour f))
  unfolding due with H P checks
  with_refixed hour f d c =
      let last = both_pass _ (eqb (length m.readings) 0) (both_pass _ (eqb hour (length m.refixed)) d).0 in
      let outer = both_pass _ (eqb (length m.prices) 0) last.0 in
      let inner = both_pass (eqb (length m.fixed) (H m)) (ltb (length m.refixed) (H m)) outer.0 in
      let all : length m.fixed ≡ H m = eqb-true (length m.fixed) (H m) inner.0 in
      let more : length m.refixed < H m = ltb-true (length m.refixed) (H m) inner.1 in
      let right : FlowsRight f = flows_right hour f ((unless_exactly (hour_in_range (H m) hour f) _ _).0 c.0) in
      record {
        counts = rw (one_more m.refixed f) (one_refixed s.counts all more (eqb-true (length m.prices) 0 outer.1) (eqb-true (length m.readings) 0 last.1));
        head = s.head;
        parties = s.parties;
        rising = s.rising;
        one_kind = s.one_kind;
        fixed = s.fixed;
        refixed = every_more FlowsRight m.refixed f s.refixed right;
        prices = s.prices;
        readings = s.readings;
      }

  with_price : (hour : ℕ) (z : ℤ) → due m (price hour z) ≡ true → Passes (price hour z) → Sound (with m (price hour z))
  unfolding due with H P checks
  with_price hour z d c =
      let tests = price_due m hour z d in
      let range = (unless_exactly (ltb hour (H m) && within_ℤ greatest_price z) _ _).0 c.0 in
      let right : PriceRight z = (both_pass (ltb hour (H m)) (within_ℤ greatest_price z) range).1 in
      record {
        counts = rw (one_more m.prices z) (one_price s.counts tests.all_fixed tests.refixed tests.more tests.no_readings);
        head = s.head;
        parties = s.parties;
        rising = s.rising;
        one_kind = s.one_kind;
        fixed = s.fixed;
        refixed = s.refixed;
        prices = every_more PriceRight m.prices z s.prices right;
        readings = s.readings;
      }

  reading_right : (r : Reading) → Passes (reading r) → ReadingRight (H m) (P m) r
  unfolding checks
  reading_right r c =
      let whose = (unless_exactly (ltb r.party (P m)) _ _).0 c.0 in
      let spans = (unless_exactly (ltb r.a r.b && leb r.b (H m)) _ _).0 c.1.0 in
      let energy = (unless_exactly (leb r.e greatest_energy) _ _).0 c.1.1.0 in
      let span = both_pass (ltb r.a r.b) (leb r.b (H m)) spans in
      (ltb-true r.party (P m) whose, ltb-true r.a r.b span.0, leb-true r.b (H m) span.1, leb-true r.e greatest_energy energy)

  with_reading : (r : Reading) → due m (reading r) ≡ true → Passes (reading r) → Sound (with m (reading r))
  unfolding due with H P
  with_reading r d c =
      record {
        counts = rw (one_more m.readings r) (one_reading s.counts (all_there m s d));
        head = s.head;
        parties = s.parties;
        rising = s.rising;
        one_kind = s.one_kind;
        fixed = s.fixed;
        refixed = s.refixed;
        prices = s.prices;
        readings = every_more (ReadingRight (H m) (P m)) m.readings r s.readings (reading_right r c);
      }

-- Where the end record is due, all is there.
module _ (m : MonthFile) (s : Sound m) where
  at_the_end : (count : ℕ) → due m (end count) ≡ true → Whole m
  unfolding due H P
  at_the_end count d =
      let there = all_there m s d in
      record {
        head = s.head there.0;
        all_parties = s.counts.parties_first (omega (arith, there.0, there.1));
        all_fixed = there.1;
        none_or_all_refixed = there.2;
        none_or_all_prices = there.3;
        parties = s.parties;
        rising = s.rising;
        one_kind = s.one_kind;
        fixed = s.fixed;
        refixed = s.refixed;
        prices = s.prices;
        readings = s.readings;
      }

priced_end : (prices : Prices) (m : MonthFile) (count : ℕ) → priced_for prices m (end count) ≡ true → Priced prices m
unfolding priced_for all_priced
priced_end needed m count p = eqb-true (length m.prices) (H m) p
priced_end optional m count p = tt

-- A record of any kind that is due and passes its checks.
pub step : (m : MonthFile) → Sound m → (n : ℕ) (r : Record) → due m r ≡ true → NoneRefuses (checks (in_file m n) r) → Sound (with m r)
unfolding with
step m s n (heading h) d c = with_heading m s n h d c
step m s n (party p) d c = with_party m s n p d c
step m s n (fixed_hour hour f) d c = with_fixed m s n hour f d c
step m s n (reading r) d c = with_reading m s n r d c
step m s n (price hour z) d c = with_price m s n hour z d c
step m s n (refixed_hour hour f) d c = with_refixed m s n hour f d c
step m s n (end count) d c = s

pub went_on : (v : Verdict) (rest : Answer MonthFile) {m : MonthFile} → onward v rest ≡ given m → (v ≡ accepted) × (rest ≡ given m)
unfolding onward
went_on accepted rest e = (refl, e)
went_on (refused r place) rest e = absurd (given_not_refusal e)

pub closed_gives : (m : MonthFile) (n : ℕ) (bytes : List ℕ) {m' : MonthFile} → closed m n bytes ≡ given m' → m ≡ m'
unfolding closed
closed_gives m n [] e = cc
closed_gives m n (byte ∷ bytes) e = absurd (given_not_refusal e)

-- the last record, or one more and the rest
past_one : (prices : Prices) (m : MonthFile) → Sound m → (r : Record) (n : ℕ) (after : List ℕ) (rest : Answer MonthFile) {m' : MonthFile}
    → due m r ≡ true
    → priced_for prices m r ≡ true
    → Sound (with m r)
    → (Sound (with m r) → rest ≡ given m' → Whole m' × Priced prices m')
    → cond (is_end r) (closed m n after) rest ≡ given m'
    → Whole m' × Priced prices m'
unfolding is_end
past_one prices m s (heading h) n after rest d priced s' ih e = ih s' e
past_one prices m s (party p) n after rest d priced s' ih e = ih s' e
past_one prices m s (fixed_hour hour f) n after rest d priced s' ih e = ih s' e
past_one prices m s (reading r) n after rest d priced s' ih e = ih s' e
past_one prices m s (price hour z) n after rest d priced s' ih e = ih s' e
past_one prices m s (refixed_hour hour f) n after rest d priced s' ih e = ih s' e
past_one prices m s (end count) n after rest d p s' ih e =
    subst (λ (x : MonthFile). Whole x × Priced prices x) (closed_gives m n after e) (at_the_end m s count d, priced_end prices m count p)

read_on_whole : (prices : Prices) (more : ℕ) (bytes : List ℕ) (n : ℕ) (m : MonthFile) → Sound m → {m' : MonthFile} → read_on prices more bytes n m ≡ given m'
    → Whole m' × Priced prices m'
unfolding read_on record_checks
read_on_whole prices zero bytes n m s e = absurd (given_not_refusal e)
read_on_whole prices (suc more) [] n m s e = absurd (given_not_refusal e)
read_on_whole prices (suc more) (kind ∷ body) n m s {m'} e =
    let r = record_at (kind ∷ body) in
    let on = went_on (first (record_checks prices m n (kind ∷ body))) _ e in
    let passed = (accepted_exactly (record_checks prices m n (kind ∷ body))).0 on.0 in
    let d : due m r ≡ true = (unless_exactly (due m r) _ _).0 passed.1.1.0 in
    let p : priced_for prices m r ≡ true = (unless_exactly (priced_for prices m r) _ _).0 passed.1.1.1.0 in
    let s' : Sound (with m r) = step m s n r d passed.1.1.1.1 in
    past_one prices m s r (suc n) (drop (body_length kind) body) (read_on prices more (drop (body_length kind) body) (suc n) (with m r)) d p s'
    (λ s''. read_on_whole prices more (drop (body_length kind) body) (suc n) (with m r) s'')
    on.1

length_passed : (fits : Bool) (read : Answer MonthFile) {m : MonthFile} → cond fits read (refusal file_fault 0) ≡ given m → (fits ≡ true) × (read ≡ given m)
length_passed true read e = (refl, e)
length_passed false read e = absurd (given_not_refusal e)

-- a file that is read has the right length, and is read record by record
pub of_the_right_length : (prices : Prices) (bytes : List ℕ) {m : MonthFile} → read_month prices bytes ≡ given m
    → (within 1 longest_file (length bytes) ≡ true) × (read_on prices (length bytes) bytes 0 nothing_yet ≡ given m)
unfolding read_month
of_the_right_length prices bytes e = length_passed (within 1 longest_file (length bytes)) (read_on prices (length bytes) bytes 0 nothing_yet) e

-- WHAT IS READ IS WHOLE, and has its prices where they are needed.
whole_and_priced : (prices : Prices) (bytes : List ℕ) {m : MonthFile} → read_month prices bytes ≡ given m → Whole m × Priced prices m
whole_and_priced prices bytes e = read_on_whole prices (length bytes) bytes 0 nothing_yet nothing_is_sound (of_the_right_length prices bytes e).1

pub what_is_read_is_whole : (prices : Prices) (bytes : List ℕ) {m : MonthFile} → read_month prices bytes ≡ given m → Whole m
what_is_read_is_whole prices bytes e = (whole_and_priced prices bytes e).0

pub what_is_read_is_priced : (prices : Prices) (bytes : List ℕ) {m : MonthFile} → read_month prices bytes ≡ given m → Priced prices m
what_is_read_is_priced prices bytes e = (whole_and_priced prices bytes e).1

-- THE BOUND OF `read_on` IS ENOUGH: from the number of bytes on, it does not matter how large it is
pub bound_is_enough : (prices : Prices) (a b : ℕ) (bytes : List ℕ) (n : ℕ) (m : MonthFile) → length bytes ≤ a → length bytes ≤ b → read_on prices a bytes n m ≡ read_on prices b bytes n m
unfolding read_on
bound_is_enough prices zero zero bytes n m x y = refl
bound_is_enough prices zero (suc b) [] n m x y = refl
bound_is_enough prices zero (suc b) (kind ∷ body) n m x y = absurd (omega arith)
bound_is_enough prices (suc a) zero [] n m x y = refl
bound_is_enough prices (suc a) zero (kind ∷ body) n m x y = absurd (omega arith)
bound_is_enough prices (suc a) (suc b) [] n m x y = refl
bound_is_enough prices (suc a) (suc b) (kind ∷ body) n m x y =
    let left : List ℕ = drop (body_length kind) body in
    let fewer : length left ≤ length body = omega (arith, length-drop (body_length kind) body) in
    let r : Record = record_at (kind ∷ body) in
    ap (λ (rest : Answer MonthFile). onward (first (record_checks prices m n (kind ∷ body))) (cond (is_end r) (closed m (suc n) left) rest))
    (bound_is_enough prices a b left (suc n) (with m r) (omega arith) (omega arith))
