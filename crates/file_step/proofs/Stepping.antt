-- One record: why a step's numbers say what the rules say of the month read so far. The numbers are the lengths of the month's lists, so a record is due by
-- them exactly where it is due; the rest of the checks are the record's own; and the numbers with one record more stand for the month with one record more.
use mathlib.Core.Bool.{Bool, true, false, cond, ◌&&◌, ◌||◌}
use mathlib.Core.List.{List, [], ◌∷◌, ◌++◌}
use mathlib.Core.Path.{◌≡◌, refl, sym, ◌∙◌, ap, ap₂, subst}
use Prim.Native.Nat.{ℕ, suc, ◌+◌, ◌≤◌}
use native.Mathlib.Omega.{arith}
use borrow.Author.Tests.{le-leb, lt-leb, ne_eqb}
use lib.Dec.{eqb, leb, ltb, eqb-suc-zero}
use lib.ListN.{length, length-append}
use Rattle.std.specs.Prelude.{Result, Ok, Err, ⊤}
use Rattle.answer.specs.Said.{said, verdict_of}
use Rattle.answer.specs.declared.Refused.{Refused}
use Rattle.answer.specs.declared.Refusal.TheVariants.{GlnFault, WrongCount}
use Rattle.gln.specs.Gln.{gln_answer}
use Rattle.record.specs.Record.{Glns, glns_in, brp_of, kind_of_brp, record_of}
use Rattle.record.specs.declared.Brp as CBrp
use Rattle.record.specs.declared.Brp.TheVariants.{Own, Named}
use Rattle.record.specs.declared.Record.{Record}
use Rattle.record.specs.declared.Record.TheVariants.{Heading, Party, FixedHour, Reading, Price, RefixedHour, End}
use Rattle.record_rule.specs.Judged.{fault_of}
use Rattle.setting.specs.Asked.{prices_asked}
use Rattle.setting.specs.declared.Prices.{Prices}
use Rattle.setting.specs.declared.Prices.TheVariants.{Needed, Optional}
use Rattle.file_step.specs.declared.Walk.{Walk}
use Rattle.file_step.specs.declared.Step.TheVariants as S
use Rattle.file_step.specs.Walk as W
use Rattle.file_step.specs.Walk.{hours_in, unless_needed, after_prices_in, due_in, with_in, kind_of_the_last, moved_in, Stands, StepMeans, judged_in}
use Rattle.rules.specs.Gln.{valid_gln, digits_onto, rises}
use Rattle.rules.specs.Limits.{greatest_share}
use Rattle.rules.specs.MonthFile.{MonthFile, H, P, hours_there, prices_there, due, all_priced, priced_for, after_the_last, alike_after, rises_after, record_checks, is_end}
use Rattle.rules.specs.MonthFile as F
use Rattle.rules.specs.Record as R
use Rattle.rules.specs.Refusals.{Refusal, file_fault, unknown_kind, out_of_order, out_of_range, gln_fault, wrong_count, Verdict, accepted, refused, unless, and_then, first}
use Rattle.rules.proofs.Refusals.{accepted_exactly, unless_exactly, refused_not_accepted, then_accepted}

-- a test against the last party, with one party more
after_one_more : (test : R.Party → R.Party → Bool) (l : List R.Party) (q p : R.Party) → after_the_last test (l ++ (q ∷ [])) p ≡ test q p
unfolding after_the_last
after_one_more test [] q p = refl
after_one_more test (x ∷ []) q p = refl
after_one_more test (x ∷ (y ∷ l)) q p = after_one_more test (y ∷ l) q p

-- the kind of the last party's record, with one party more; and the test against it
last_one_more : (l : List R.Party) (q : R.Party) → kind_of_the_last (l ++ (q ∷ [])) ≡ R.party_kind_of q.brp
unfolding kind_of_the_last
last_one_more [] q = refl
last_one_more (x ∷ []) q = refl
last_one_more (x ∷ (y ∷ l)) q = last_one_more (y ∷ l) q

like_the_last : (l : List R.Party) (p : R.Party) → alike_after l p ≡ eqb (length l) 0 || eqb (kind_of_the_last l) (R.party_kind_of p.brp)
unfolding alike_after after_the_last kind_of_the_last
like_the_last [] p = refl
like_the_last (q ∷ []) p = refl
like_the_last (q ∷ (x ∷ l)) p =
    like_the_last (x ∷ l) p
    ∙ ap (λ (none : Bool). none || eqb (kind_of_the_last (x ∷ l)) (R.party_kind_of p.brp)) (eqb-suc-zero (length l) ∙ sym (eqb-suc-zero (suc (length l))))

one_more : {A : Type 0} (l : List A) {n : ℕ} (x : A) → n ≡ length l → n + 1 ≡ length (l ++ (x ∷ []))
one_more l x e = ap (λ (k : ℕ). k + 1) e ∙ sym (length-append l (x ∷ []))

-- two tests that refuse alike are one
two_in_order : (a b : Bool) (n : ℕ) (later : Verdict) → and_then (unless a out_of_order n) (and_then (unless b out_of_order n) later) ≡ and_then (unless (b && a) out_of_order n) later
unfolding unless and_then
two_in_order true true n later = refl
two_in_order true false n later = refl
two_in_order false true n later = refl
two_in_order false false n later = refl

-- all prices where they are needed; or none where they are not
abbrev needs_all : Prices → Bool → Bool
needs_all Needed all = all
needs_all Optional all = true

by_need : (p : Prices) (a b c : Bool) → needs_all p b && (a && (b || c)) ≡ (b || unless_needed p c) && a
by_need Needed true true c = refl
by_need Needed false true c = refl
by_need Needed a false c = refl
by_need Optional true true c = refl
by_need Optional false true c = refl
by_need Optional true false true = refl
by_need Optional false false true = refl
by_need Optional true false false = refl
by_need Optional false false false = refl

module _ (m : MonthFile) (w : Walk) (st : Stands m w) where
  hours_are : H m ≡ w.heading.hours
  unfolding H
  hours_are = ap (λ (h : R.Heading). h.hours) (sym st.heading)

  parties_are : P m ≡ w.heading.parties
  unfolding P
  parties_are = ap (λ (h : R.Heading). h.parties) (sym st.heading)

  kind_is : (brp : CBrp.Brp) (brp_gln : List ℕ) → R.party_kind_of (brp_of brp brp_gln) ≡ kind_of_brp brp
  kind_is Own brp_gln = refl
  kind_is Named brp_gln = refl

  abbrev prices_asked_lem : Prices
  prices_asked_lem = w.prices_asked

  all_priced_holds : (p : Prices) → all_priced (prices_asked p) m ≡ needs_all p (eqb w.prices w.heading.hours)
  unfolding all_priced
  all_priced_holds Needed = rw (hours_are, ← st.prices)
  all_priced_holds Optional = refl

  after_prices : all_priced (prices_asked prices_asked_lem) m && (leb 1 (H m) && prices_there m) ≡ after_prices_in w
  unfolding prices_there hours_there
  after_prices =
      rw (all_priced_holds prices_asked_lem, hours_are, ← st.fixed, ← st.refixed, ← st.prices)
      (by_need prices_asked_lem (leb 1 w.heading.hours) (eqb w.prices w.heading.hours) (eqb w.prices 0 && hours_in w))

  pub due_is : (beside : Glns) (r : Record) → priced_for (prices_asked prices_asked_lem) m (record_of beside r) && due m (record_of beside r) ≡ due_in w r
  unfolding hours_there due priced_for
  due_is beside (Heading h) = rw hours_are
  due_is beside (Party brp share) = rw (like_the_last m.parties, parties_are, ← st.parties, ← st.kind, kind_is brp beside.brp_gln)
  due_is beside (FixedHour hour f) = rw (hours_are, parties_are, ← st.parties, ← st.fixed)
  due_is beside (Reading r) = after_prices
  due_is beside (Price hour p) = rw (hours_are, ← st.fixed, ← st.refixed, ← st.prices, ← st.readings)
  due_is beside (RefixedHour hour f) = rw (hours_are, ← st.fixed, ← st.refixed, ← st.prices, ← st.readings)
  due_is beside (End count) = after_prices

  abbrev party_in : Glns → CBrp.Brp → ℕ → R.Party
  party_in beside brp share = record { gln = beside.gln; brp = brp_of brp beside.brp_gln; share = share }

  -- one record more: a party's GLN has the number that is kept
  abbrev Kept : Glns → ℕ → Record → Type 0
  Kept beside number r = (brp : CBrp.Brp) (share : ℕ) → r ≡ Party brp share → number ≡ digits_onto 0 beside.gln

  some : eqb (w.parties + 1) 0 ≡ false
  some = ne_eqb (w.parties + 1) 0 (λ e. omega arith)

  risen_after :
      (beside : Glns) (brp : CBrp.Brp) (share : ℕ) {number : ℕ} → number ≡ digits_onto 0 beside.gln → (p : R.Party)
      → rises_after (m.parties ++ (party_in beside brp share ∷ [])) p ≡ eqb (w.parties + 1) 0 || ltb number (digits_onto 0 p.gln)
  unfolding rises_after rises
  risen_after beside brp share kept p = after_one_more _ m.parties (party_in beside brp share) p ∙ rw (some, kept)

  pub stands_with : (beside : Glns) (number : ℕ) (r : Record) → Kept beside number r → Stands (F.with m (record_of beside r)) (with_in w r number)
  unfolding F.with
  stands_with beside number (Heading h) s =
      record {
        heading = refl;
        parties = st.parties;
        fixed = st.fixed;
        refixed = st.refixed;
        prices = st.prices;
        readings = st.readings;
        rising = st.rising;
        kind = st.kind;
      }
  stands_with beside number (Party brp share) s =
      record {
        heading = st.heading;
        parties = one_more m.parties _ st.parties;
        fixed = st.fixed;
        refixed = st.refixed;
        prices = st.prices;
        readings = st.readings;
        rising = risen_after beside brp share (s brp share refl);
        kind = sym (last_one_more m.parties (party_in beside brp share) ∙ kind_is brp beside.brp_gln);
      }
  stands_with beside number (FixedHour hour f) s =
      record {
        heading = st.heading;
        parties = st.parties;
        fixed = one_more m.fixed _ st.fixed;
        refixed = st.refixed;
        prices = st.prices;
        readings = st.readings;
        rising = st.rising;
        kind = st.kind;
      }
  stands_with beside number (Reading r) s =
      record {
        heading = st.heading;
        parties = st.parties;
        fixed = st.fixed;
        refixed = st.refixed;
        prices = st.prices;
        readings = one_more m.readings _ st.readings;
        rising = st.rising;
        kind = st.kind;
      }
  stands_with beside number (Price hour p) s =
      record {
        heading = st.heading;
        parties = st.parties;
        fixed = st.fixed;
        refixed = st.refixed;
        prices = one_more m.prices _ st.prices;
        readings = st.readings;
        rising = st.rising;
        kind = st.kind;
      }
  stands_with beside number (RefixedHour hour f) s =
      record {
        heading = st.heading;
        parties = st.parties;
        fixed = st.fixed;
        refixed = one_more m.refixed _ st.refixed;
        prices = st.prices;
        readings = st.readings;
        rising = st.rising;
        kind = st.kind;
      }
  stands_with beside number (End count) s =
      record {
        heading = st.heading;
        parties = st.parties;
        fixed = st.fixed;
        refixed = st.refixed;
        prices = st.prices;
        readings = st.readings;
        rising = st.rising;
        kind = st.kind;
      }

-- IN A FILE A RECORD HAS THE CHECKS THAT IT HAS BY ITSELF, and then two more: a party's GLN has to rise, and an end has to count right.
module _ (m : MonthFile) (n : ℕ) where
  abbrev by_itself : R.Record → Verdict
  by_itself r = first (R.checks (R.by_itself (H m) (P m) n) r)

  abbrev in_file : R.Record → Verdict
  in_file r = first (R.checks (R.in_file m n) r)

  share_right : R.Party → Verdict
  share_right p = unless (leb p.share greatest_share) out_of_range n

  gln_right : R.Party → Verdict
  gln_right p = unless (valid_gln p.gln) gln_fault n

  brp_right : R.Party → Verdict
  brp_right p = unless (valid_gln (R.brp_gln p)) gln_fault n

  before_rising : (a b c d : Verdict) {x : Refusal} {place : ℕ} → first (a ∷ b ∷ c ∷ accepted ∷ []) ≡ refused x place → first (a ∷ b ∷ c ∷ d ∷ []) ≡ refused x place
  unfolding first and_then
  before_rising accepted accepted accepted d e = absurd (refused_not_accepted (sym e))
  before_rising accepted accepted (refused r q) d e = e
  before_rising accepted (refused r q) c d e = e
  before_rising (refused r q) b c d e = e

  pub still_faulty : (r : R.Record) {x : Refusal} {place : ℕ} → by_itself r ≡ refused x place → in_file r ≡ refused x place
  unfolding R.checks first and_then unless share_right gln_right brp_right
  still_faulty (R.heading h) e = e
  still_faulty (R.party p) e = before_rising (share_right p) (gln_right p) (brp_right p) (unless (rises_after m.parties p) gln_fault n) e
  still_faulty (R.fixed_hour hour f) e = e
  still_faulty (R.reading r) e = e
  still_faulty (R.price hour p) e = e
  still_faulty (R.refixed_hour hour f) e = e
  still_faulty (R.end count) e = absurd (refused_not_accepted (sym e))

  after_three : (a b c d : Verdict) → first (a ∷ b ∷ c ∷ accepted ∷ []) ≡ accepted → first (a ∷ b ∷ c ∷ d ∷ []) ≡ d
  unfolding first and_then
  after_three accepted accepted accepted d e = then_accepted d
  after_three accepted accepted (refused r q) d e = absurd (refused_not_accepted e)
  after_three accepted (refused r q) c d e = absurd (refused_not_accepted e)
  after_three (refused r q) b c d e = absurd (refused_not_accepted e)

  pub then_rising : (p : R.Party) → by_itself (R.party p) ≡ accepted → in_file (R.party p) ≡ unless (rises_after m.parties p) gln_fault n
  unfolding R.checks unless share_right gln_right brp_right
  then_rising p e = after_three (share_right p) (gln_right p) (brp_right p) (unless (rises_after m.parties p) gln_fault n) e

  pub valid_gln_lem : (p : R.Party) → by_itself (R.party p) ≡ accepted → valid_gln p.gln ≡ true
  unfolding R.checks
  valid_gln_lem p e = (unless_exactly (valid_gln p.gln) _ _).0 ((accepted_exactly _).0 e).1.0

  pub then_count : (count : ℕ) → in_file (R.end count) ≡ unless (eqb count n) wrong_count n
  unfolding R.checks first
  then_count count = then_accepted (unless (eqb count n) wrong_count n)

-- a record that has no fault by itself goes on, where a party's GLN rises; the end is accepted where its count is right
module _ (m : MonthFile) (w : Walk) (st : Stands m w) (bytes : List ℕ) (size : ℕ) (beside : Glns) where
  abbrev here : ℕ
  here = w.records

  abbrev verdict_here : Verdict
  verdict_here = first (record_checks (prices_asked w.prices_asked) m here bytes)

  goes_on :
      (number : ℕ) (x : Record) → record_of beside x ≡ R.record_at bytes → is_end (record_of beside x) ≡ false → Kept m w st beside number x
      → verdict_here ≡ accepted
      → StepMeans w bytes m (Ok (moved_in w x number size))
  goes_on number x is not_end kept v =
      (v, ap is_end (sym is) ∙ not_end, subst (λ (r : R.Record). Stands (F.with m r) (with_in w x number)) is (stands_with m w st beside number x kept))

  at_the_end :
      (count : ℕ) → R.end count ≡ R.record_at bytes → verdict_here ≡ unless (eqb count here) wrong_count here → (t : Bool) → eqb count here ≡ t
      → StepMeans w bytes m (cond t (Ok S.End) (Err (WrongCount, here)))
  unfolding unless is_end
  at_the_end count is v true e = (v ∙ rw e, ap is_end (sym is))
  at_the_end count is v false e = v ∙ rw e

  module _ (brp : CBrp.Brp) (share : ℕ) (is : record_of beside (Party brp share) ≡ R.record_at bytes) where
    abbrev the_party : R.Party
    the_party = party_in m w st beside brp share

    by_rising :
        (t : Bool) → W.rises w (digits_onto 0 beside.gln) ≡ t → verdict_here ≡ unless t gln_fault here
        → StepMeans w bytes m (cond t (Ok (moved_in w (Party brp share) (digits_onto 0 beside.gln) size)) (Err (GlnFault, here)))
    unfolding unless is_end
    by_rising true e v = goes_on (digits_onto 0 beside.gln) (Party brp share) is refl (λ _ _ _. refl) v
    by_rising false e v = v

    party_means : by_itself m here (record_of beside (Party brp share)) ≡ accepted → verdict_here ≡ in_file m here (record_of beside (Party brp share)) → StepMeans w bytes m (judged_in w (Party brp share) beside.gln size)
    unfolding gln_answer
    party_means sound v =
        let rising : rises_after m.parties the_party ≡ W.rises w (digits_onto 0 beside.gln) = st.rising the_party in
        let verdict = v ∙ then_rising m here the_party sound ∙ ap (λ (t : Bool). unless t gln_fault here) rising in
        rw (valid_gln_lem m here the_party sound) (by_rising (W.rises w (digits_onto 0 beside.gln)) refl verdict)

  by_kind :
      (x : Record) → record_of beside x ≡ R.record_at bytes → by_itself m here (record_of beside x) ≡ accepted
      → verdict_here ≡ in_file m here (record_of beside x)
      → StepMeans w bytes m (judged_in w x beside.gln size)
  unfolding is_end R.checks
  by_kind (Heading h) is s v = goes_on 0 (Heading h) is refl (λ _ _ e. absurd (other e)) (v ∙ s)
    where
      other : {brp : CBrp.Brp} {share : ℕ} → Heading h ≡ Party brp share → ⊥
      other e = let z : ◌≡◌ {A = ℕ} 0 1 = cc in omega arith
  by_kind (Party brp share) is s v = party_means brp share is s v
  by_kind (FixedHour hour f) is s v = goes_on 0 (FixedHour hour f) is refl (λ _ _ e. absurd (other e)) (v ∙ s)
    where
      other : {brp : CBrp.Brp} {share : ℕ} → FixedHour hour f ≡ Party brp share → ⊥
      other e = let z : ◌≡◌ {A = ℕ} 0 1 = cc in omega arith
  by_kind (Reading r) is s v = goes_on 0 (Reading r) is refl (λ _ _ e. absurd (other e)) (v ∙ s)
    where
      other : {brp : CBrp.Brp} {share : ℕ} → Reading r ≡ Party brp share → ⊥
      other e = let z : ◌≡◌ {A = ℕ} 0 1 = cc in omega arith
  by_kind (Price hour p) is s v = goes_on 0 (Price hour p) is refl (λ _ _ e. absurd (other e)) (v ∙ s)
    where
      other : {brp : CBrp.Brp} {share : ℕ} → Price hour p ≡ Party brp share → ⊥
      other e = let z : ◌≡◌ {A = ℕ} 0 1 = cc in omega arith
  by_kind (RefixedHour hour f) is s v = goes_on 0 (RefixedHour hour f) is refl (λ _ _ e. absurd (other e)) (v ∙ s)
    where
      other : {brp : CBrp.Brp} {share : ℕ} → RefixedHour hour f ≡ Party brp share → ⊥
      other e = let z : ◌≡◌ {A = ℕ} 0 1 = cc in omega arith
  by_kind (End count) is s v = at_the_end count is (v ∙ then_count m here count) (eqb count here) refl

-- THE CHECKS OF ONE RECORD, exit by exit.
module _ (m : MonthFile) (w : Walk) (st : Stands m w) (bytes : List ℕ) where
  abbrev n : ℕ
  n = w.records

  abbrev verdict : Verdict
  verdict = first (record_checks (prices_asked w.prices_asked) m n bytes)

  abbrev kind : ℕ
  kind = R.kind_at bytes

  -- 2
  pub unknown : R.body_length kind ≡ 0 → verdict ≡ refused unknown_kind n
  unfolding record_checks first and_then unless R.known
  unknown e = rw e

  module _ (some : 1 ≤ R.body_length kind) where
    pub known : R.known kind ≡ true
    unfolding R.known
    known = le-leb 1 (R.body_length kind) some

    -- 1
    pub cut : length bytes ≤ R.body_length kind → verdict ≡ refused file_fault n
    unfolding record_checks first and_then unless
    cut b = rw (known, lt-leb (1 + R.body_length kind) (length bytes) (omega arith))

    module _ (fits : 1 + R.body_length kind ≤ length bytes) (r : Record) (is-r : record_of (glns_in bytes) r ≡ R.record_at bytes) where
      abbrev beside : Glns
      beside = glns_in bytes

      -- what is left after 2 and 1, in the record that was decoded
      from_order : verdict ≡ and_then (unless (due_in w r) out_of_order n) (in_file m n (record_of beside r))
      unfolding record_checks first and_then unless
      from_order =
          rw (← is-r, known, le-leb (1 + R.body_length kind) (length bytes) fits)
          (two_in_order (due m (record_of beside r)) (priced_for (prices_asked w.prices_asked) m (record_of beside r)) n (in_file m n (record_of beside r))
          ∙ ap (λ (t : Bool). and_then (unless t out_of_order n) (in_file m n (record_of beside r))) (due_is m w st beside r))

      -- 3
      pub not_due : due_in w r ≡ false → verdict ≡ refused out_of_order n
      unfolding unless and_then
      not_due e = from_order ∙ rw e

      module _ (is_due : due_in w r ≡ true) where
        from_fields : verdict ≡ in_file m n (record_of beside r)
        unfolding unless and_then
        from_fields = from_order ∙ rw is_due

        -- the record's fault by itself, with H and P of the month
        fault_is : fault_of w.heading.hours w.heading.parties beside r n ≡ by_itself m n (record_of beside r)
        unfolding fault_of
        fault_is = sym (ap₂ (λ (h p : ℕ). first (R.checks (R.by_itself h p n) (record_of beside r))) (hours_are m w st) (parties_are m w st))

        -- 4, 5, 11, 12
        pub faulty :
            {a : Result ⊤ Refused} {x : Refused} → said a ≡ fault_of w.heading.hours w.heading.parties beside r n
            → a ≡ Err x → verdict ≡ verdict_of x
        faulty s e = from_fields ∙ still_faulty m n (record_of beside r) (sym fault_is ∙ sym s ∙ ap said e)

        -- 5, "not rising"; 15; or the record is accepted
        pub judged_means : fault_of w.heading.hours w.heading.parties beside r n ≡ accepted → (size : ℕ) → StepMeans w bytes m (judged_in w r beside.gln size)
        judged_means sound size = by_kind m w st bytes size beside r is-r (sym fault_is ∙ sound) from_fields
