-- THE RECORDS OF A MONTH (`records_of` of specs/WellFormed) AND THOSE THAT PASS: records that pass from the start are the records of the month that they add up
-- to (`records_are`), and the records of a whole month pass and add up to it (`whole_month_passes`); those before the prices pass by themselves.
use mathlib.Core.Bool.{Bool, true, false, ◌&&◌, ◌||◌}
use mathlib.Core.List.{List, [], ◌∷◌, ◌++◌, append_assoc, append-nil}
use mathlib.Core.Logic.{◌⊎◌, ⊎_elim}
use mathlib.Core.Path.{◌≡◌, refl, sym, ◌∙◌, ap, ap₂, subst}
use Prim.Native.Nat.{ℕ, suc, ◌+◌, ◌<◌}
use native.Mathlib.Omega.{arith}
use borrow.Author.Tests.{ltb-true, eqb-true, lt-ltb, le-leb, eq-eqb}
use lib.Dec.{eqb, leb, ltb}
use lib.IntN.{ℤ}
use lib.ListN.{length, length-append}
use Rattle.rules.specs.Flows.{Flows}
use Rattle.rules.specs.Limits.{greatest_share, greatest_energy}
use Rattle.rules.specs.MonthFile.{MonthFile, nothing_yet, H, P, hours_there, prices_there, due, all_priced, priced_for, after_the_last, alike_after, rises_after, with, is_end}
use Rattle.rules.specs.Record.{party_kind_of, Party, Reading, Record, heading, party, fixed_hour, reading, price, refixed_hour, end, set_readings, in_file, heading_in_range, hour_in_range, checks}
use Rattle.rules.specs.ReadingRefused.{Passes, AllPass, with_all}
use Rattle.rules.specs.Refusals.{unless, and_then, first}
use Rattle.rules.specs.Setting.{Prices, needed, optional}
use Rattle.rules.specs.WellFormed.{Every, numbered, as_party, as_reading, records_of, Rising, SameKind, OneKind, PartyRight, FlowsRight, PriceRight, ReadingRight, ReadingHeld, Whole, Priced}
use Rattle.rules.proofs.Places.{parties_due, fixed_due}
use Rattle.rules.proofs.Refusals.{accepted_exactly, unless_exactly}
use Rattle.rules.proofs.Whole.{true_not_false, Sound, nothing_is_sound, heading_facts, both_pass, rises_strictly, price_due, step}

-- WHAT PASSES IS A MONTH'S RECORDS: where a record is due, the sections after its own are still empty, so it is the next of the month's records

numbered_more : {A : Type 0} (make : ℕ → A → Record) (n : ℕ) (l : List A) (x : A)
    → numbered make n (l ++ (x ∷ [])) ≡ numbered make n l ++ (make (n + length l) x ∷ [])
unfolding numbered
numbered_more make n [] x = ap (λ (k : ℕ). make k x ∷ []) (omega arith)
numbered_more make n (y ∷ l) x =
    ap (λ (t : List Record). make n y ∷ t) (numbered_more make (suc n) l x)
    ∙ ap (λ (k : ℕ). make n y ∷ (numbered make (suc n) l ++ (make k x ∷ []))) (omega arith)

-- the entry that is due next
next_numbered : {A : Type 0} (make : ℕ → A → Record) (l : List A) (x : A) {k : ℕ} → k ≡ length l → numbered make 0 (l ++ (x ∷ [])) ≡ numbered make 0 l ++ (make k x ∷ [])
next_numbered make l x e = numbered_more make 0 l x ∙ ap (λ (j : ℕ). numbered make 0 l ++ (make j x ∷ [])) (omega arith)

pub none_numbered : {A : Type 0} (make : ℕ → A → Record) (l : List A) → length l ≡ 0 → numbered make 0 l ≡ []
unfolding numbered
none_numbered make [] e = refl
none_numbered make (x ∷ l) e = absurd (omega arith)

-- one more record at the end of a section after which there is nothing, and at the end of what comes later
at_its_end : (a more rest : List Record) (r : Record) → more ≡ a ++ (r ∷ []) → rest ≡ [] → more ++ rest ≡ (a ++ rest) ++ (r ∷ [])
at_its_end a more rest r e none =
    ap₂ (λ (x y : List Record). x ++ y) e none ∙ append-nil (a ++ (r ∷ []))
    ∙ ap (λ (t : List Record). t ++ (r ∷ [])) (sym (append-nil a) ∙ ap (λ (t : List Record). a ++ t) (sym none))

later_on : (a rest more : List Record) (r : Record) → more ≡ rest ++ (r ∷ []) → a ++ more ≡ (a ++ rest) ++ (r ∷ [])
later_on a rest more r e = ap (λ (t : List Record). a ++ t) e ∙ sym (append_assoc a rest (r ∷ []))

module _ (m : MonthFile) where
  abbrev pub the_readings : List Record
  the_readings = numbered as_reading 0 m.readings

  abbrev from_prices : List Record
  from_prices = numbered price 0 m.prices ++ the_readings

  abbrev from_refixed : List Record
  from_refixed = numbered refixed_hour 0 m.refixed ++ from_prices

  abbrev from_fixed : List Record
  from_fixed = numbered fixed_hour 0 m.fixed ++ from_refixed

  -- all that stands before the prices
  abbrev pub to_the_hours : List Record
  to_the_hours = heading m.heading ∷ (numbered as_party 0 m.parties ++ (numbered fixed_hour 0 m.fixed ++ numbered refixed_hour 0 m.refixed))

  no_reading_lem : length m.readings ≡ 0 → the_readings ≡ []
  no_reading_lem = none_numbered as_reading m.readings

  no_price : length m.prices ≡ 0 → length m.readings ≡ 0 → from_prices ≡ []
  no_price q g = ap₂ (λ (x y : List Record). x ++ y) (none_numbered price m.prices q) (no_reading_lem g)

  no_refixed : length m.refixed ≡ 0 → length m.prices ≡ 0 → length m.readings ≡ 0 → from_refixed ≡ []
  no_refixed r q g = ap₂ (λ (x y : List Record). x ++ y) (none_numbered refixed_hour m.refixed r) (no_price q g)

  no_fixed : length m.fixed ≡ 0 → length m.refixed ≡ 0 → length m.prices ≡ 0 → length m.readings ≡ 0 → from_fixed ≡ []
  no_fixed f r q g = ap₂ (λ (x y : List Record). x ++ y) (none_numbered fixed_hour m.fixed f) (no_refixed r q g)

  -- one record more at the end of what comes after the parties, the fixed hours, the refixed hours
  after_parties : (r : Record) {more : List Record} → more ≡ from_fixed ++ (r ∷ [])
      → heading m.heading ∷ (numbered as_party 0 m.parties ++ more) ≡ records_of m ++ (r ∷ [])
  unfolding records_of
  after_parties r {more} e = ap (λ (t : List Record). heading m.heading ∷ t) (later_on (numbered as_party 0 m.parties) from_fixed more r e)

  after_fixed : (r : Record) {more : List Record} → more ≡ from_refixed ++ (r ∷ [])
      → heading m.heading ∷ (numbered as_party 0 m.parties ++ (numbered fixed_hour 0 m.fixed ++ more)) ≡ records_of m ++ (r ∷ [])
  after_fixed r {more} e = after_parties r (later_on (numbered fixed_hour 0 m.fixed) from_refixed more r e)

  after_refixed : (r : Record) {more : List Record} → more ≡ from_prices ++ (r ∷ [])
      → heading m.heading ∷ (numbered as_party 0 m.parties ++ (numbered fixed_hour 0 m.fixed ++ (numbered refixed_hour 0 m.refixed ++ more)))
      ≡ records_of m ++ (r ∷ [])
  after_refixed r {more} e = after_fixed r (later_on (numbered refixed_hour 0 m.refixed) from_prices more r e)

  one_more : Sound m → 0 < H m → (r : Record) → is_end r ≡ false → due m r ≡ true → records_of (with m r) ≡ records_of m ++ (r ∷ [])
  unfolding records_of with due is_end H P
  one_more s some (heading h) go d = absurd (omega (arith, eqb-true m.heading.hours 0 d))
  one_more s some (party p) go d =
      let tests = both_pass (ltb (length m.parties) (P m)) (alike_after m.parties p) d in
      let none = parties_due s.counts (ltb-true (length m.parties) (P m) tests.0) in
      ap (λ (t : List Record). heading m.heading ∷ t)
      (at_its_end (numbered as_party 0 m.parties) _ from_fixed (party p) (next_numbered as_party m.parties p {k = length m.parties} refl)
      (no_fixed none.1 none.2 none.3 none.4))
  one_more s some (fixed_hour hour f) go d =
      let all_parties = eqb (length m.parties) (P m) in
      let tests = both_pass (all_parties && ltb (length m.fixed) (H m)) (eqb hour (length m.fixed)) d in
      let none = fixed_due s.counts (ltb-true (length m.fixed) (H m) (both_pass all_parties (ltb (length m.fixed) (H m)) tests.0).1) in
      let next = next_numbered fixed_hour m.fixed f (eqb-true hour (length m.fixed) tests.1) in
      after_parties (fixed_hour hour f) (at_its_end (numbered fixed_hour 0 m.fixed) _ from_refixed _ next (no_refixed none.0 none.1 none.2))
  one_more s some (refixed_hour hour f) go d =
      let hours_left = eqb (length m.fixed) (H m) && ltb (length m.refixed) (H m) in
      let tests = both_pass (hours_left && eqb (length m.prices) 0 && eqb (length m.readings) 0) (eqb hour (length m.refixed)) d in
      let none = both_pass (hours_left && eqb (length m.prices) 0) (eqb (length m.readings) 0) tests.0 in
      let no-prices : length m.prices ≡ 0 = eqb-true (length m.prices) 0 (both_pass hours_left (eqb (length m.prices) 0) none.0).1 in
      let next = next_numbered refixed_hour m.refixed f (eqb-true hour (length m.refixed) tests.1) in
      after_fixed (refixed_hour hour f)
      (at_its_end (numbered refixed_hour 0 m.refixed) _ from_prices _ next (no_price no-prices (eqb-true (length m.readings) 0 none.1)))
  one_more s some (price hour z) go d =
      let is_due = price_due m hour z d in
      let next = next_numbered price m.prices z is_due.in_turn in
      after_refixed (price hour z) (at_its_end (numbered price 0 m.prices) _ the_readings _ next (no_reading_lem is_due.no_readings))
  one_more s some (reading r) go d =
      after_refixed (reading r)
      (later_on (numbered price 0 m.prices) the_readings _ (reading r) (next_numbered as_reading m.readings r {k = length m.readings} refl))
  one_more s some (end count) go d = absurd (true_not_false go)

  -- the heading stays
  still_headed : 0 < H m → (r : Record) → due m r ≡ true → 0 < H (with m r)
  unfolding with due H
  still_headed some (heading h) d = absurd (omega (arith, eqb-true m.heading.hours 0 d))
  still_headed some (party p) d = some
  still_headed some (fixed_hour hour f) d = some
  still_headed some (refixed_hour hour f) d = some
  still_headed some (price hour z) d = some
  still_headed some (reading r) d = some
  still_headed some (end count) d = some

all_more : (prices : Prices) (records : List Record) (m : MonthFile) → Sound m → 0 < H m → (n : ℕ) → AllPass prices m n records → records_of (with_all m records) ≡ records_of m ++ records
unfolding with_all
all_more prices [] m s some n all = sym (append-nil (records_of m))
all_more prices (r ∷ records) m s some n all =
    let p : Passes prices m n r = all.0 in
    all_more prices records (with m r) (step m s n r p.is_due p.none_refuses) (still_headed m some r p.is_due) (suc n) all.1
    ∙ ap (λ (t : List Record). t ++ records) (one_more m s some r p.not_the_end p.is_due)
    ∙ append_assoc (records_of m) (r ∷ []) records

-- before the heading nothing but the heading is due
pub records_are : (prices : Prices) (records : List Record) → AllPass prices nothing_yet 0 records → 0 < H (with_all nothing_yet records) → records_of (with_all nothing_yet records) ≡ records
unfolding with_all with hours_there due is_end nothing_yet H P checks records_of numbered
records_are prices [] all some = absurd (omega arith)
records_are prices (heading h ∷ records) all some =
    let right : heading_in_range h ≡ true = (unless_exactly (heading_in_range h) _ _).0 all.0.none_refuses.0 in
    all_more prices records (with nothing_yet (heading h)) (step nothing_yet nothing_is_sound 0 (heading h) all.0.is_due all.0.none_refuses) (heading_facts h right).hours.0 1 all.1
records_are prices (party p ∷ records) all some = absurd (true_not_false (sym all.0.is_due))
records_are prices (fixed_hour hour f ∷ records) all some = absurd (true_not_false (sym all.0.is_due))
records_are prices (refixed_hour hour f ∷ records) all some = absurd (true_not_false (sym all.0.is_due))
records_are prices (price hour z ∷ records) all some = absurd (true_not_false (sym all.0.is_due))
records_are prices (reading r ∷ records) all some = absurd (true_not_false (sym all.0.is_due))
records_are prices (end count ∷ records) all some = absurd (true_not_false all.0.not_the_end)

-- A WHOLE MONTH'S RECORDS PASS, section by section

-- records that pass, whatever their numbers, and take one month to another
pub record Through (prices : Prices) (m : MonthFile) (records : List Record) (to : MonthFile) : Type 0 where
  pub pass : (n : ℕ) → AllPass prices m n records
  pub gives : with_all m records ≡ to

both_pass_on : (prices : Prices) (a b : List Record) (m : MonthFile) (n : ℕ) → AllPass prices m n a → ((k : ℕ) → AllPass prices (with_all m a) k b) → AllPass prices m n (a ++ b)
unfolding with_all
both_pass_on prices [] b m n p q = q n
both_pass_on prices (r ∷ a) b m n p q = (p.0, both_pass_on prices a b (with m r) (suc n) p.1 q)

with_both : (a b : List Record) (m : MonthFile) → with_all m (a ++ b) ≡ with_all (with_all m a) b
unfolding with_all
with_both [] b m = refl
with_both (r ∷ a) b m = with_both a b (with m r)

then_through : {prices : Prices} {m mid to : MonthFile} {a b : List Record} → Through prices m a mid → Through prices mid b to → Through prices m (a ++ b) to
then_through {prices} {m} {mid} {to} {a} {b} t u =
    record {
      pass = λ n. both_pass_on prices a b m n (t.pass n) (λ k. subst (λ (x : MonthFile). AllPass prices x k b) (sym t.gives) (u.pass k));
      gives = with_both a b m ∙ ap (λ (x : MonthFile). with_all x b) t.gives ∙ u.gives;
    }

-- one section: `put l` is the month that has so much of it
module _
    (asked : Prices)
    {A : Type 0}
    (make : ℕ → A → Record)
    (put : List A → MonthFile)
    (all : List A)
    (adds : (done : List A) (n : ℕ) (x : A) → with (put done) (make n x) ≡ put (done ++ (x ∷ [])))
    (right : (done : List A) (x : A) (later : List A) → all ≡ done ++ (x ∷ later) → (n : ℕ) → Passes asked (put done) n (make (length done) x))
  where
    section : (l done : List A) → all ≡ done ++ l → Through asked (put done) (numbered make (length done) l) (put all)
    unfolding with_all numbered
    section [] done e = record { pass = λ n. tt; gives = ap put (sym (e ∙ append-nil done)) }
    section (x ∷ l) done e =
        let rest : Through asked (put (done ++ (x ∷ []))) (numbered make (length (done ++ (x ∷ []))) l) (put all) = section l (done ++ (x ∷ [])) (e ∙ sym (append_assoc done (x ∷ []) l)) in
        let numbered-on : Through asked (put (done ++ (x ∷ []))) (numbered make (suc (length done)) l) (put all) =
        subst (λ (k : ℕ). Through asked (put (done ++ (x ∷ []))) (numbered make k l) (put all)) (length-append done (x ∷ []) ∙ omega arith) rest in
        let next = subst (λ (m : MonthFile). Through asked m (numbered make (suc (length done)) l) (put all)) (sym (adds done (length done) x)) numbered-on in
        record { pass = λ n. (right done x l e n, next.pass (suc n)); gives = next.gives }

-- what is known of an entry of a list
there : {A : Type 0} (is : A → Type 0) (done : List A) (x : A) (later : List A) → Every is (done ++ (x ∷ later)) → is x
there is [] x later h = h.0
there is (y ∷ done) x later h = there is done x later h.1

not_the_last : {A : Type 0} (done : List A) (x : A) (later : List A) {all : List A} {n : ℕ} → all ≡ done ++ (x ∷ later) → length all ≡ n → length done < n
not_the_last done x later e size = omega (arith, ap length e, length-append done (x ∷ later))

-- where one is there of what may be left out, all are
all_or_none : {A : Type 0} {all : List A} {n : ℕ} (done : List A) (x : A) (later : List A) → all ≡ done ++ (x ∷ later) → (length all ≡ 0) ⊎ (length all ≡ n) → length all ≡ n
all_or_none {A} {all} {n} done x later e none_or_all =
    ⊎_elim (λ (z : length all ≡ 0). absurd (omega (arith, not_the_last done x later e z))) (λ (h : length all ≡ n). h) none_or_all

pub all_priced_holds : (prices : Prices) (m : MonthFile) → Priced prices m → all_priced prices m ≡ true
unfolding all_priced
all_priced_holds needed m e = eq-eqb (length m.prices) (H m) e
all_priced_holds optional m e = refl

-- the same of the month with other readings
priced_so_far : (prices : Prices) (m : MonthFile) (readings : List Reading) → Priced prices m → all_priced prices (set_readings m readings) ≡ true
unfolding all_priced H
priced_so_far needed m readings e = eq-eqb (length m.prices) (H m) e
priced_so_far optional m readings e = refl

rises_there : (done : List Party) (x : Party) (later : List Party) → Rising (done ++ (x ∷ later)) → rises_after done x ≡ true
unfolding rises_after after_the_last
rises_there [] x later h = refl
rises_there (q ∷ []) x later h = (rises_strictly q.gln x.gln).1 h.0.0
rises_there (q ∷ (q' ∷ done)) x later h = rises_there (q' ∷ done) x later h.1

-- a party among others of one kind is like the one before it
alike_there : (done : List Party) (x : Party) (later : List Party) → OneKind (done ++ (x ∷ later)) → alike_after done x ≡ true
unfolding alike_after after_the_last
alike_there [] x later k = refl
alike_there (q ∷ []) x later k = eq-eqb (party_kind_of q.brp) (party_kind_of x.brp) k.0
alike_there (q ∷ (q' ∷ done)) x later k = alike_there (q' ∷ done) x later (all_like_the_next q q' (done ++ (x ∷ later)) k)
  where
    all_like_the_next : (a b : Party) (l : List Party) → Every (SameKind a) (b ∷ l) → Every (SameKind b) l
    all_like_the_next a b [] e = tt
    all_like_the_next a b (c ∷ l) e = (sym e.0 ∙ e.1.0, all_like_the_next a b l (e.0, e.1.1))

either_way : (a : Bool) {b : Bool} → b ≡ true → a || b ≡ true
either_way true e = refl
either_way false e = e

module _ (asked : Prices) (m : MonthFile) (w : Whole m) (held : Every ReadingHeld m.readings) where
  abbrev to_parties : List Party → MonthFile
  to_parties l = record { heading = m.heading; parties = l; fixed = []; refixed = []; prices = []; readings = [] }

  abbrev to_fixed : List Flows → MonthFile
  to_fixed l = record { heading = m.heading; parties = m.parties; fixed = l; refixed = []; prices = []; readings = [] }

  abbrev to_refixed : List Flows → MonthFile
  to_refixed l = record { heading = m.heading; parties = m.parties; fixed = m.fixed; refixed = l; prices = []; readings = [] }

  abbrev to_prices : List ℤ → MonthFile
  to_prices l = record { heading = m.heading; parties = m.parties; fixed = m.fixed; refixed = m.refixed; prices = l; readings = [] }

  abbrev to_readings : List Reading → MonthFile
  to_readings l = record { heading = m.heading; parties = m.parties; fixed = m.fixed; refixed = m.refixed; prices = m.prices; readings = l }

  heading_passes : (n : ℕ) → Passes asked nothing_yet n (heading m.heading)
  unfolding is_end due priced_for nothing_yet H checks first and_then unless
  heading_passes n =
      record { not_the_end = refl; is_due = refl; is_priced = refl; none_refuses = (accepted_exactly (checks (in_file nothing_yet n) (heading m.heading))).0 (rw w.head); held = tt }

  party_passes : (done : List Party) (x : Party) (later : List Party) → m.parties ≡ done ++ (x ∷ later) → (n : ℕ) → Passes asked (to_parties done) n (party x)
  unfolding is_end due priced_for P checks first and_then unless
  party_passes done x later e n =
      let right : PartyRight x = there PartyRight done x later (subst (Every PartyRight) e w.parties) in
      let like : alike_after done x ≡ true = alike_there done x later (subst OneKind e w.one_kind) in
      let rises-here : rises_after done x ≡ true = rises_there done x later (subst Rising e w.rising) in
      record {
        not_the_end = refl;
        is_due = rw (lt-ltb (length done) (P m) (not_the_last done x later e w.all_parties), like);
        is_priced = refl;
        none_refuses = (accepted_exactly (checks (in_file (to_parties done) n) (party x))).0 (rw (le-leb x.share greatest_share right.0, right.1, right.2, rises-here));
        held = tt;
      }

  hour_right : (hour : ℕ) (f : Flows) → hour < H m → FlowsRight f → hour_in_range (H m) hour f ≡ true
  unfolding hour_in_range
  hour_right hour f b right = rw (lt-ltb hour (H m) b, right.0, right.1)

  fixed_passes : (done : List Flows) (x : Flows) (later : List Flows) → m.fixed ≡ done ++ (x ∷ later) → (n : ℕ) → Passes asked (to_fixed done) n (fixed_hour (length done) x)
  unfolding is_end due priced_for H P checks first and_then unless
  fixed_passes done x later e n =
      let right : FlowsRight x = there FlowsRight done x later (subst (Every FlowsRight) e w.fixed) in
      let b : length done < H m = not_the_last done x later e w.all_fixed in
      record {
        not_the_end = refl;
        is_due = rw (eq-eqb (length m.parties) (P m) w.all_parties, lt-ltb (length done) (H m) b, eq-eqb (length done) (length done) refl);
        is_priced = refl;
        none_refuses = (accepted_exactly (checks (in_file (to_fixed done) n) (fixed_hour (length done) x))).0 (rw (hour_right (length done) x b right));
        held = tt;
      }

  refixed_passes : (done : List Flows) (x : Flows) (later : List Flows) → m.refixed ≡ done ++ (x ∷ later) → (n : ℕ) → Passes asked (to_refixed done) n (refixed_hour (length done) x)
  unfolding is_end due priced_for H P checks first and_then unless
  refixed_passes done x later e n =
      let right : FlowsRight x = there FlowsRight done x later (subst (Every FlowsRight) e w.refixed) in
      let b : length done < H m = not_the_last done x later e (all_or_none done x later e w.none_or_all_refixed) in
      record {
        not_the_end = refl;
        is_due = rw (eq-eqb (length m.fixed) (H m) w.all_fixed, lt-ltb (length done) (H m) b, eq-eqb (length done) (length done) refl);
        is_priced = refl;
        none_refuses = (accepted_exactly (checks (in_file (to_refixed done) n) (refixed_hour (length done) x))).0 (rw (hour_right (length done) x b right));
        held = tt;
      }

  hours_read : hours_there m ≡ true
  unfolding hours_there
  hours_read =
      let none_or_all : eqb (length m.refixed) 0 || eqb (length m.refixed) (H m) ≡ true =
      ⊎_elim (λ (z : length m.refixed ≡ 0). rw (eq-eqb (length m.refixed) 0 z))
      (λ (h : length m.refixed ≡ H m). either_way (eqb (length m.refixed) 0) (eq-eqb (length m.refixed) (H m) h))
      w.none_or_all_refixed in
      rw (eq-eqb (length m.fixed) (H m) w.all_fixed, none_or_all)

  pub prices_read : prices_there m ≡ true
  unfolding prices_there
  prices_read =
      ⊎_elim (λ (z : length m.prices ≡ 0). either_way (eqb (length m.prices) (H m)) (rw (eq-eqb (length m.prices) 0 z, hours_read)))
      (λ (all : length m.prices ≡ H m). rw (eq-eqb (length m.prices) (H m) all))
      w.none_or_all_prices

  price_passes : (done : List ℤ) (x : ℤ) (later : List ℤ) → m.prices ≡ done ++ (x ∷ later) → (n : ℕ) → Passes asked (to_prices done) n (price (length done) x)
  unfolding is_end due hours_there priced_for H P checks first and_then unless
  price_passes done x later e n =
      let right : PriceRight x = there PriceRight done x later (subst (Every PriceRight) e w.prices) in
      let early : ltb (length done) (H m) ≡ true = lt-ltb (length done) (H m) (not_the_last done x later e (all_or_none done x later e w.none_or_all_prices)) in
      record {
        not_the_end = refl;
        is_due = rw (hours_read, early, eq-eqb (length done) (length done) refl);
        is_priced = refl;
        none_refuses = (accepted_exactly (checks (in_file (to_prices done) n) (price (length done) x))).0 (rw (early, right));
        held = tt;
      }

  pub hours_there_lem : leb 1 (H m) ≡ true
  unfolding H
  hours_there_lem = le-leb 1 (H m) (heading_facts m.heading w.head).hours.0

  -- the heading, the parties and the hours, and what has been read of the month after them
  parties_through : Through asked (to_parties []) (numbered as_party 0 m.parties) (to_fixed [])
  unfolding with
  parties_through = section asked as_party to_parties m.parties (λ done n x. refl) party_passes m.parties [] refl

  fixed_through : Through asked (to_fixed []) (numbered fixed_hour 0 m.fixed) (to_refixed [])
  unfolding with
  fixed_through = section asked fixed_hour to_fixed m.fixed (λ done n x. refl) fixed_passes m.fixed [] refl

  refixed_through : Through asked (to_refixed []) (numbered refixed_hour 0 m.refixed) (to_prices [])
  unfolding with
  refixed_through = section asked refixed_hour to_refixed m.refixed (λ done n x. refl) refixed_passes m.refixed [] refl

  headed : {records : List Record} {to : MonthFile} → Through asked (to_parties []) records to → Through asked nothing_yet (heading m.heading ∷ records) to
  unfolding with_all with nothing_yet
  headed t = record { pass = λ n. (heading_passes n, t.pass (suc n)); gives = t.gives }

  pub hours_through : Through asked nothing_yet (to_the_hours m) (to_prices [])
  hours_through = headed (then_through parties_through (then_through fixed_through refixed_through))

  module _ (priced : Priced asked m) where
    pub reading_passes : (done : List Reading) (x : Reading) (later : List Reading) → m.readings ≡ done ++ (x ∷ later) → (n : ℕ) → Passes asked (to_readings done) n (reading x)
    unfolding is_end due hours_there prices_there all_priced priced_for H P checks first and_then unless
    reading_passes done x later e n =
        let right : ReadingRight (H m) (P m) x = there (ReadingRight (H m) (P m)) done x later (subst (Every (ReadingRight (H m) (P m))) e w.readings) in
        let whose : ltb x.party (P m) ≡ true = lt-ltb x.party (P m) right.0 in
        let rising : ltb x.a x.b ≡ true = lt-ltb x.a x.b right.1 in
        let early : leb x.b (H m) ≡ true = le-leb x.b (H m) right.2 in
        let small : leb x.e greatest_energy ≡ true = le-leb x.e greatest_energy right.3 in
        record {
          not_the_end = refl;
          is_due = rw (hours_there_lem, prices_read);
          is_priced = priced_so_far asked m done priced;
          none_refuses = (accepted_exactly (checks (in_file (to_readings done) n) (reading x))).0 (rw (whose, rising, early, small));
          held = there ReadingHeld done x later (subst (Every ReadingHeld) e held);
        }

    sections : Through asked (to_parties []) (numbered as_party 0 m.parties ++ from_fixed m) m
    unfolding with
    sections =
        then_through parties_through
        (then_through fixed_through
        (then_through refixed_through
        (then_through (section asked price to_prices m.prices (λ done n x. refl) price_passes m.prices [] refl)
        (section asked as_reading to_readings m.readings (λ done n x. refl) reading_passes m.readings [] refl))))

    pub whole_month_passes : Through asked nothing_yet (records_of m) m
    unfolding records_of
    whole_month_passes = headed sections
