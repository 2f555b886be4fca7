-- The numbers that the code holds in their fields and the numbers themselves are judged alike: every range ends below what its field can hold, so a number
-- outside its range stays outside when the nearest that fits stands for it; and a record that is accepted has only numbers that fit, so it is the very record.
-- And the code's tests of the list are those of the rules.
use mathlib.Core.Bool.{Bool, true, false, cond, ◌&&◌, ◌||◌}
use mathlib.Core.List.{List, [], ◌∷◌}
use mathlib.Core.Path.{◌≡◌, refl, sym, ◌∙◌, ap, ap₂}
use Prim.Native.Nat.{ℕ, zero, suc, ◌+◌, ◌≤◌, ◌<◌, ◌^◌}
use native.Mathlib.Nat.{add-zero, add-suc, suc-add}
use native.Mathlib.Omega.{arith}
use borrow.Author.Tests.{le-leb, leb-true, ltb-true, eqb-true}
use lib.Dec.{eqb, leb, ltb, leb-suc-suc, eqb-zero-suc, eqb-suc-zero, eqb-suc-suc}
use lib.IntN.{ℤ, pos, negsuc, nat_abs}
use lib.ListN.{length}
use lib.Signed.{le_z}
use Rattle.record.specs.Record.{record_of, Glns}
use Rattle.record_service.specs.Held.{field_count, signed_place, signs_from, fields_held, list_right, held_in, held, held_record}
use Rattle.rules.specs.Accepted.{NoneRefuses}
use Rattle.rules.specs.Flows.{Flows, flows_in_range, silent_is_zero}
use Rattle.rules.specs.Gln.{valid_gln}
use Rattle.rules.specs.Limits.{greatest_area, latest_year, months_of_aYear, most_hours, most_parties, greatest_share, greatest_energy, greatest_price, greatest_flow, estimated}
use Rattle.rules.specs.PlainRecord.{nth, no_sign, nth_no_sign, plain_heading, plain_flows, plain_reading, plain_record, stand_in, fields_hold}
use Rattle.rules.specs.Record as R
use Rattle.rules.specs.Record.{Field, number, signed_number, digits, fields_of, hour_fields, brp_fields, weight_fields, party_from, layouts, known, alone, checks, heading_in_range, hour_in_range}
use Rattle.rules.specs.Refusals.{Verdict, accepted, out_of_range, span_fault, energy_too_large, gln_fault, unless, first}
use Rattle.rules.specs.Words.{within_ℤ}
use Rattle.rules.proofs.EachKind.{Entries, each_kind, body_lengths}
use Rattle.rules.proofs.Refusals.{accepted_exactly, unless_exactly}
use Rattle.rules.proofs.RoundTrip.{both_true}
use Rattle.rules.proofs.Whole.{heading_facts, true_not_false}

-- the record that a kind, its numbers and its GLNs are
abbrev pub plain_with : Glns → ℕ → List ℤ → R.Record
plain_with beside kind l = plain_record kind l beside.gln beside.brp_gln

-- a number in a field whose greatest is `most`: as it is held there, or as it is
unfoldable seen : Bool → ℕ → ℤ → ℕ
seen true most z = held_in most z
seen false most z = no_sign z

-- within a limit below what the field can hold, either way, the two are one
exact : (s : Bool) (most limit : ℕ) (z : ℤ) → limit < most → seen s most z ≤ limit → held_in most z ≡ no_sign z
unfolding seen held_in no_sign
exact true most limit (pos n) room h = go (leb n most) h
  where
    go : (t : Bool) → cond t n most ≤ limit → cond t n most ≡ n
    go true h = refl
    go false h = absurd (omega arith)
exact false most limit (pos n) room h = rw (le-leb n most (omega arith))
exact true most limit (negsuc n) room h = refl
exact false most limit (negsuc n) room h = refl

-- a test that only the one record passes says the same of both
alike : {A : Type 0} (test : A → Bool) (x : Bool → A) → ((s : Bool) → test (x s) ≡ true → x true ≡ x false) → test (x true) ≡ test (x false)
alike test x one = go (test (x true)) refl (test (x false)) refl
  where
    go : (t : Bool) → test (x true) ≡ t → (u : Bool) → test (x false) ≡ u → test (x true) ≡ test (x false)
    go true e u f = ap test (one true e)
    go false e true f = ap test (one false f)
    go false e false f = e ∙ sym f

module _ (l : List ℤ) (beside : Glns) where
  abbrev at_16 : Bool → ℕ → ℕ
  at_16 s k = seen s 65535 (nth l k)

  abbrev at_8 : Bool → ℕ → ℕ
  at_8 s k = seen s 255 (nth l k)

  abbrev at_64 : Bool → ℕ → ℕ
  at_64 s k = seen s 18446744073709551615 (nth l k)

  -- A HEADING
  abbrev heading_seen : Bool → R.Heading
  heading_seen s =
      record { area = at_16 s 0; year = at_16 s 1; month = at_8 s 2; hours = at_16 s 3; parties = at_8 s 4; carrier = at_8 s 5 }

  one_heading : (s : Bool) → heading_in_range (heading_seen s) ≡ true → heading_seen true ≡ heading_seen false
  unfolding seen
  one_heading s e =
      let f = heading_facts (heading_seen s) e in
      λ i.
      record {
        area = exact s 65535 greatest_area (nth l 0) (omega arith) f.area.1 i;
        year = exact s 65535 latest_year (nth l 1) (omega arith) f.year.1 i;
        month = exact s 255 months_of_aYear (nth l 2) (omega arith) f.month.1 i;
        hours = exact s 65535 most_hours (nth l 3) (omega arith) f.hours.1 i;
        parties = exact s 255 most_parties (nth l 4) (omega arith) f.parties.1 i;
        carrier = exact s 255 most_parties (nth l 5) (omega arith) (omega (arith, f.parties.1, f.carrier)) i;
      }

  -- AN HOUR, fixed or refixed: its field and its flows
  abbrev flows_seen : Bool → Flows
  flows_seen s = record { status = at_8 s 1; net = nth l 2; production = at_64 s 3; hourly = at_64 s 4; flex = at_64 s 5 }

  abbrev hour_seen : Bool → ℕ × Flows
  hour_seen s = (at_16 s 0, flows_seen s)

  abbrev hour_right : ℕ × Flows → Bool
  hour_right h = hour_in_range most_hours h.0 h.1

  one_hour : (s : Bool) → hour_right (hour_seen s) ≡ true → hour_seen true ≡ hour_seen false
  unfolding seen hour_in_range flows_in_range
  one_hour s e =
      let f = flows_seen s in
      let status = leb f.status estimated in
      let net = within_ℤ greatest_flow f.net in
      let production = leb f.production greatest_flow in
      let hourly = leb f.hourly greatest_flow in
      let whole = both_true (ltb (at_16 s 0) most_hours && flows_in_range f) (silent_is_zero f) e in
      let ranges = both_true (ltb (at_16 s 0) most_hours) (flows_in_range f) whole.0 in
      let all = both_true (status && net && production && hourly) (leb f.flex greatest_flow) ranges.1 in
      let three = both_true (status && net && production) hourly all.0 in
      let two = both_true (status && net) production three.0 in
      let one = both_true status net two.0 in
      λ i. (
        exact s 65535 most_hours (nth l 0) (omega arith) (omega (arith, ltb-true (at_16 s 0) most_hours ranges.0)) i,
        record {
          status = exact s 255 estimated (nth l 1) (omega arith) (leb-true f.status estimated one.0) i;
          net = nth l 2;
          production = exact s 18446744073709551615 greatest_flow (nth l 3) (omega arith) (leb-true f.production greatest_flow two.1) i;
          hourly = exact s 18446744073709551615 greatest_flow (nth l 4) (omega arith) (leb-true f.hourly greatest_flow three.1) i;
          flex = exact s 18446744073709551615 greatest_flow (nth l 5) (omega arith) (leb-true f.flex greatest_flow all.1) i;
        },
      )

  -- A READING: its party, its span, its E
  one_party : (s : Bool) → ltb (at_8 s 0) most_parties ≡ true → at_8 true 0 ≡ at_8 false 0
  unfolding seen
  one_party s e = exact s 255 most_parties (nth l 0) (omega arith) (omega (arith, ltb-true (at_8 s 0) most_parties e))

  abbrev span_seen : Bool → ℕ × ℕ
  span_seen s = (at_16 s 1, at_16 s 2)

  abbrev span_right : ℕ × ℕ → Bool
  span_right p = ltb p.0 p.1 && leb p.1 most_hours

  one_span : (s : Bool) → span_right (span_seen s) ≡ true → span_seen true ≡ span_seen false
  unfolding seen
  one_span s e =
      let both = both_true (ltb (at_16 s 1) (at_16 s 2)) (leb (at_16 s 2) most_hours) e in
      let b : at_16 s 2 ≤ most_hours = leb-true (at_16 s 2) most_hours both.1 in
      let a : at_16 s 1 < at_16 s 2 = ltb-true (at_16 s 1) (at_16 s 2) both.0 in
      λ i. (exact s 65535 most_hours (nth l 1) (omega arith) (omega arith) i, exact s 65535 most_hours (nth l 2) (omega arith) b i)

  abbrev energy_seen : Bool → ℕ
  energy_seen s = seen s 4294967295 (nth l 3)

  one_energy : (s : Bool) → leb (energy_seen s) greatest_energy ≡ true → energy_seen true ≡ energy_seen false
  unfolding seen
  one_energy s e = exact s 4294967295 greatest_energy (nth l 3) (omega arith) (leb-true (energy_seen s) greatest_energy e)

  -- A PARTY'S SHARE, A PRICE'S HOUR
  one_share : (s : Bool) → leb (at_64 s 0) greatest_share ≡ true → at_64 true 0 ≡ at_64 false 0
  unfolding seen
  one_share s e = exact s 18446744073709551615 greatest_share (nth l 0) (omega arith) (leb-true (at_64 s 0) greatest_share e)

  abbrev price_right : ℕ → Bool
  price_right hour = ltb hour most_hours && within_ℤ greatest_price (nth l 1)

  one_price : (s : Bool) → price_right (at_16 s 0) ≡ true → at_16 true 0 ≡ at_16 false 0
  unfolding seen
  one_price s e =
      let both = both_true (ltb (at_16 s 0) most_hours) (within_ℤ greatest_price (nth l 1)) e in
      exact s 65535 most_hours (nth l 0) (omega arith) (omega (arith, ltb-true (at_16 s 0) most_hours both.0))

  -- THE TWO RECORDS ARE JUDGED ALIKE, and where they are accepted they are one
  record Alike (kind : ℕ) : Type 0 where
    verdict : first (checks alone (record_of beside (held_record kind l))) ≡ first (checks alone (plain_with beside kind l))
    same : NoneRefuses (checks alone (plain_with beside kind l)) → record_of beside (held_record kind l) ≡ plain_with beside kind l

  abbrev one_check : Bool → Verdict
  one_check t = first (unless t out_of_range 0 ∷ [])

  headings_alike : Alike R.heading_kind
  unfolding held_record plain_record plain_heading nth_no_sign held seen checks
  headings_alike =
      record {
        verdict = ap one_check (alike heading_in_range heading_seen one_heading);
        same = λ c. ap R.heading (one_heading false ((unless_exactly _ _ _).0 c.0));
      }

  -- a party of either kind
  abbrev party_of_lem : R.Brp → ℕ → R.Record
  party_of_lem brp share = R.party (record { gln = beside.gln; brp = brp; share = share })

  party_verdicts : (brp : R.Brp) → first (checks alone (party_of_lem brp (at_64 true 0))) ≡ first (checks alone (party_of_lem brp (at_64 false 0)))
  unfolding checks
  party_verdicts brp =
      let glnsRight = unless (valid_gln beside.gln) gln_fault 0 ∷ unless (valid_gln (R.brp_gln_of beside.gln brp)) gln_fault 0 ∷ unless true gln_fault 0 ∷ [] in
      ap (λ (t : Bool). first (unless t out_of_range 0 ∷ glnsRight)) (alike (λ n. leb n greatest_share) (λ s. at_64 s 0) one_share)

  party_same : (brp : R.Brp) → NoneRefuses (checks alone (party_of_lem brp (at_64 false 0))) → party_of_lem brp (at_64 true 0) ≡ party_of_lem brp (at_64 false 0)
  unfolding checks
  party_same brp c = ap (party_of_lem brp) (one_share false ((unless_exactly _ _ _).0 c.0))

  parties_alike : Alike R.party_kind
  unfolding held_record plain_record party_from nth_no_sign held seen
  parties_alike = record { verdict = party_verdicts R.own_brp; same = party_same R.own_brp }

  brp_parties_alike : Alike R.brp_party_kind
  unfolding held_record plain_record party_from nth_no_sign held seen
  brp_parties_alike = record { verdict = party_verdicts (R.named_brp beside.brp_gln); same = party_same (R.named_brp beside.brp_gln) }

  fixed_alike : Alike R.fixed_hour_kind
  unfolding held_record plain_record plain_flows nth_no_sign held seen checks
  fixed_alike =
      record {
        verdict = ap one_check (alike hour_right hour_seen one_hour);
        same = λ c. ap (λ (h : ℕ × Flows). R.fixed_hour h.0 h.1) (one_hour false ((unless_exactly _ _ _).0 c.0));
      }

  refixed_alike : Alike R.refixed_hour_kind
  unfolding held_record plain_record plain_flows nth_no_sign held seen checks
  refixed_alike =
      record {
        verdict = ap one_check (alike hour_right hour_seen one_hour);
        same = λ c. ap (λ (h : ℕ × Flows). R.refixed_hour h.0 h.1) (one_hour false ((unless_exactly _ _ _).0 c.0));
      }

  abbrev three_checks : Bool → Bool → Bool → Verdict
  three_checks t u v = first (unless t out_of_range 0 ∷ unless u span_fault 0 ∷ unless v energy_too_large 0 ∷ [])

  reading_verdicts :
      three_checks (ltb (at_8 true 0) most_parties) (span_right (span_seen true)) (leb (energy_seen true) greatest_energy)
      ≡ three_checks (ltb (at_8 false 0) most_parties) (span_right (span_seen false)) (leb (energy_seen false) greatest_energy)
  reading_verdicts =
      ap₂ (λ (t u : Bool). three_checks t u (leb (energy_seen true) greatest_energy)) (alike (λ n. ltb n most_parties) (λ s. at_8 s 0) one_party)
      (alike span_right span_seen one_span)
      ∙ ap (three_checks (ltb (at_8 false 0) most_parties) (span_right (span_seen false))) (alike (λ n. leb n greatest_energy) energy_seen one_energy)

  readings_alike : Alike R.reading_kind
  unfolding held_record plain_record plain_reading nth_no_sign held seen checks
  readings_alike =
      record {
        verdict = reading_verdicts;
        same =
            λ c.
            let whose = one_party false ((unless_exactly _ _ _).0 c.0) in
            let span = one_span false ((unless_exactly _ _ _).0 c.1.0) in
            let energy = one_energy false ((unless_exactly _ _ _).0 c.1.1.0) in
            λ i. R.reading (record { party = whose i; a = (span i).0; b = (span i).1; e = energy i; over = R.this_month });
      }

  -- W3: any weights are good: so only those that their eight bytes hold are let through
  held_in_full : (most : ℕ) (z : ℤ) → no_sign z < suc most → held_in most z ≡ no_sign z
  unfolding held_in no_sign
  held_in_full most (pos n) h = rw (le-leb n most (omega arith))
  held_in_full most (negsuc n) h = refl

  long_readings_alike : fields_hold R.long_reading_kind l ≡ true → Alike R.long_reading_kind
  unfolding held_record plain_record plain_reading nth_no_sign held seen checks fields_hold
  long_readings_alike h =
      let both = both_true (ltb (no_sign (nth l 4)) (256 ^ 8)) (ltb (no_sign (nth l 5)) (256 ^ 8)) h in
      let before = held_in_full 18446744073709551615 (nth l 4) (ltb-true (no_sign (nth l 4)) (256 ^ 8) both.0) in
      let whole = held_in_full 18446744073709551615 (nth l 5) (ltb-true (no_sign (nth l 5)) (256 ^ 8) both.1) in
      record {
        verdict = reading_verdicts;
        same =
            λ c.
            let whose = one_party false ((unless_exactly _ _ _).0 c.0) in
            let span = one_span false ((unless_exactly _ _ _).0 c.1.0) in
            let energy = one_energy false ((unless_exactly _ _ _).0 c.1.1.0) in
            λ i. R.reading (record { party = whose i; a = (span i).0; b = (span i).1; e = energy i; over = R.many_months (before i) (whole i) });
      }

  prices_alike : Alike R.price_kind
  unfolding held_record plain_record nth_no_sign held seen checks
  prices_alike =
      record {
        verdict = ap one_check (alike price_right (λ s. at_16 s 0) one_price);
        same = λ c. ap (λ (hour : ℕ). R.price hour (nth l 1)) (one_price false ((unless_exactly _ _ _).0 c.0));
      }

  -- any end count is good: so only one that its four bytes hold is let through
  ends_alike : fields_hold R.end_kind l ≡ true → Alike R.end_kind
  unfolding held_record plain_record nth_no_sign held checks fields_hold
  ends_alike e = record { verdict = refl; same = λ c. ap R.end (held_in_full 4294967295 (nth l 0) (ltb-true (no_sign (nth l 0)) (256 ^ 4) e)) }

  every_kind : Entries (λ (k : ℕ) (ws : List ℕ). fields_hold k l ≡ true → Alike k) layouts
  unfolding layouts
  every_kind = (
    λ e. headings_alike,
    (λ e. parties_alike, (λ e. fixed_alike, (λ e. readings_alike, (λ e. prices_alike, (λ e. refixed_alike, (ends_alike, (long_readings_alike, (λ e. brp_parties_alike, tt)))))))),
  )

  pub judged_alike : (kind : ℕ) → known kind ≡ true → fields_hold kind l ≡ true
      → first (checks alone (record_of beside (held_record kind l))) ≡ first (checks alone (plain_with beside kind l))
  judged_alike kind has e = (each_kind (λ (k : ℕ) (ws : List ℕ). fields_hold k l ≡ true → Alike k) every_kind kind has e).verdict

  pub accepted_same : (kind : ℕ) → known kind ≡ true → fields_hold kind l ≡ true
      → first (checks alone (plain_with beside kind l)) ≡ accepted
      → record_of beside (held_record kind l) ≡ plain_with beside kind l
  accepted_same kind has e ok =
      (each_kind (λ (k : ℕ) (ws : List ℕ). fields_hold k l ≡ true → Alike k) every_kind kind has e).same ((accepted_exactly (checks alone (plain_with beside kind l))).0 ok)

-- THE TESTS OF THE LIST. The rules go through a record's fields, and the code through the numbers, of which one place may be negative: so they say the same
-- where that place is the place of the field that has a sign.
abbrev numbers_in : List Field → ℕ
numbers_in [] = 0
numbers_in (number n ∷ fields) = suc (numbers_in fields)
numbers_in (signed_number z ∷ fields) = suc (numbers_in fields)
numbers_in (digits gln ∷ fields) = numbers_in fields

abbrev SignAt : ℕ → ℕ → List Field → Type 0
SignAt place i [] = Unit
SignAt place i (number n ∷ fields) = (eqb i place ≡ false) × SignAt place (suc i) fields
SignAt place i (signed_number z ∷ fields) = (eqb i place ≡ true) × SignAt place (suc i) fields
SignAt place i (digits gln ∷ fields) = SignAt place i fields

in_another_order : (a b c : Bool) → a && (b && c) ≡ b && (a && c)
in_another_order true b c = refl
in_another_order false true c = refl
in_another_order false false c = refl

stands : (place i : ℕ) (fields : List Field) (l : List ℤ) → SignAt place i fields → stand_in fields l ≡ eqb (length l) (numbers_in fields) && signs_from place i l
unfolding stand_in signs_from
stands place i [] [] h = refl
stands place i [] (z ∷ l) h = rw (eqb-suc-zero (length l))
stands place i (number n ∷ fields) [] h = rw (eqb-zero-suc (numbers_in fields))
stands place i (number n ∷ fields) (z ∷ l) h =
    rw (stands place (suc i) fields l h.1, h.0, eqb-suc-suc (length l) (numbers_in fields))
    (in_another_order (le_z (pos 0) z) (eqb (length l) (numbers_in fields)) (signs_from place (suc i) l))
stands place i (signed_number s ∷ fields) [] h = rw (eqb-zero-suc (numbers_in fields))
stands place i (signed_number s ∷ fields) (z ∷ l) h =
    rw (stands place (suc i) fields l h.1, h.0, eqb-suc-suc (length l) (numbers_in fields))
stands place i (digits gln ∷ fields) l h = stands place i fields l h

-- an end count that is not below 0 is held in four bytes where it is at most 2^32 - 1
count_right : (l : List ℤ) (n : ℕ) → stand_in (number n ∷ []) l && leb (nat_abs (nth l 0)) 4294967295 ≡ stand_in (number n ∷ []) l && ltb (nth_no_sign l 0) (256 ^ 4)
unfolding stand_in nth_no_sign no_sign
count_right [] n = refl
count_right (pos k ∷ l) n = ap (λ (t : Bool). stand_in (number n ∷ []) (pos k ∷ l) && t) (sym (leb-suc-suc k 4294967295))
count_right (negsuc k ∷ l) n = refl

-- a weight that is not below 0 is held in eight bytes where it is at most 2^64 - 1
weight_right : (z : ℤ) → le_z (pos 0) z ≡ true → leb (nat_abs z) 18446744073709551615 ≡ ltb (no_sign z) (256 ^ 8)
unfolding no_sign
weight_right (pos n) h = sym (leb-suc-suc n 18446744073709551615)
weight_right (negsuc n) h = absurd (true_not_false (sym h))

abbrev test_8 : List ℤ → ℕ → Bool
test_8 l k = leb (nat_abs (nth l k)) 18446744073709551615

-- where the signs are right, a number that is not the one with a sign is not below 0
sign_at : (place i : ℕ) (l : List ℤ) → signs_from place i l ≡ true → (k : ℕ) → k < length l → eqb (i + k) place ≡ false → le_z (pos 0) (nth l k) ≡ true
unfolding signs_from
sign_at place i [] s k b other = absurd (omega arith)
sign_at place i (z ∷ l) s zero b other =
    let plain : eqb i place ≡ false = rw (add-zero i) at other in
    ap (λ (t : Bool). t || le_z (pos 0) z) (sym plain) ∙ (both_true (eqb i place || le_z (pos 0) z) (signs_from place (suc i) l) s).0
sign_at place i (z ∷ l) s (suc k) b other =
    sign_at place (suc i) l (both_true (eqb i place || le_z (pos 0) z) (signs_from place (suc i) l) s).1 k (omega arith) (rw (add-suc i k, ← (suc-add i k)) at other)

module _ (l : List ℤ) (beside : Glns) where
  abbrev rules_right : ℕ → Bool
  rules_right kind = stand_in (fields_of (plain_with beside kind l)) l && fields_hold kind l

  abbrev RightAs : ℕ → Type 0
  RightAs kind = list_right kind l ≡ rules_right kind

  abbrev with_no_count : Bool → Bool
  with_no_count t = t && true

  headings_right : RightAs R.heading_kind
  unfolding list_right fields_held field_count body_lengths signed_place plain_record fields_of hour_fields fields_hold
  headings_right = ap with_no_count (sym (stands 6 0 (fields_of (plain_with beside R.heading_kind l)) l (refl, (refl, (refl, (refl, (refl, (refl, tt))))))))

  parties_right : RightAs R.party_kind
  unfolding list_right fields_held field_count body_lengths signed_place plain_record party_from fields_of brp_fields fields_hold
  parties_right = ap with_no_count (sym (stands 6 0 (fields_of (plain_with beside R.party_kind l)) l (refl, tt)))

  brp_parties_right : RightAs R.brp_party_kind
  unfolding list_right fields_held field_count body_lengths signed_place plain_record party_from fields_of brp_fields fields_hold
  brp_parties_right = ap with_no_count (sym (stands 6 0 (fields_of (plain_with beside R.brp_party_kind l)) l (refl, tt)))

  fixed_right : RightAs R.fixed_hour_kind
  unfolding list_right fields_held field_count body_lengths signed_place plain_record fields_of hour_fields fields_hold
  fixed_right = ap with_no_count (sym (stands 2 0 (fields_of (plain_with beside R.fixed_hour_kind l)) l (refl, (refl, (refl, (refl, (refl, (refl, tt))))))))

  readings_right : RightAs R.reading_kind
  unfolding list_right fields_held field_count body_lengths signed_place plain_record plain_reading fields_of weight_fields fields_hold
  readings_right = ap with_no_count (sym (stands 6 0 (fields_of (plain_with beside R.reading_kind l)) l (refl, (refl, (refl, (refl, tt))))))

  prices_right : RightAs R.price_kind
  unfolding list_right fields_held field_count body_lengths signed_place plain_record fields_of hour_fields fields_hold
  prices_right = ap with_no_count (sym (stands 1 0 (fields_of (plain_with beside R.price_kind l)) l (refl, (refl, tt))))

  refixed_right : RightAs R.refixed_hour_kind
  unfolding list_right fields_held field_count body_lengths signed_place plain_record fields_of hour_fields fields_hold
  refixed_right = ap with_no_count (sym (stands 2 0 (fields_of (plain_with beside R.refixed_hour_kind l)) l (refl, (refl, (refl, (refl, (refl, (refl, tt))))))))

  ends_right : RightAs R.end_kind
  unfolding list_right fields_held field_count body_lengths signed_place plain_record fields_of fields_hold
  ends_right =
      ap (λ (t : Bool). t && leb (nat_abs (nth l 0)) 4294967295) (sym (stands 6 0 (number (nth_no_sign l 0) ∷ []) l (refl, tt)))
      ∙ count_right l (nth_no_sign l 0)

  abbrev long_fields : List Field
  long_fields = fields_of (plain_with beside R.long_reading_kind l)

  long_readings_right : RightAs R.long_reading_kind
  unfolding list_right fields_held field_count body_lengths signed_place plain_record plain_reading nth_no_sign fields_of weight_fields fields_hold
  long_readings_right = ap (λ (t : Bool). t && (test_8 l 4 && test_8 l 5)) (sym long_stands) ∙ go (stand_in long_fields l) refl
    where
      long_stands : stand_in long_fields l ≡ eqb (length l) 6 && signs_from 6 0 l
      long_stands = stands 6 0 long_fields l (refl, (refl, (refl, (refl, (refl, (refl, tt))))))

      go : (t : Bool) → stand_in long_fields l ≡ t → t && (test_8 l 4 && test_8 l 5) ≡ t && (ltb (nth_no_sign l 4) (256 ^ 8) && ltb (nth_no_sign l 5) (256 ^ 8))
      go true e =
          let both = both_true (eqb (length l) 6) (signs_from 6 0 l) (sym long_stands ∙ e) in
          let six : length l ≡ 6 = eqb-true (length l) 6 both.0 in
          ap₂ (λ (t u : Bool). t && u) (weight_right (nth l 4) (sign_at 6 0 l both.1 4 (omega arith) refl))
          (weight_right (nth l 5) (sign_at 6 0 l both.1 5 (omega arith) refl))
      go false e = refl

  every_right : Entries (λ (k : ℕ) (ws : List ℕ). RightAs k) layouts
  unfolding layouts
  every_right = (
    headings_right,
    (parties_right, (fixed_right, (readings_right, (prices_right, (refixed_right, (ends_right, (long_readings_right, (brp_parties_right, tt)))))))),
  )

  pub right_as_the_rules : (kind : ℕ) → known kind ≡ true → RightAs kind
  right_as_the_rules kind has = each_kind (λ (k : ℕ) (ws : List ℕ). RightAs k) every_right kind has
