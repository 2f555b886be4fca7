-- The planner's loops over months, and its checks one after the other: each part looks at some of the lists alone, and says of them what the rules say of the
-- whole reading.
use mathlib.Core.Bool.{Bool, true, false, not, ◌&&◌}
use mathlib.Core.List.{List, [], ◌∷◌, ◌++◌}
use mathlib.Core.Logic.{◌⊎◌, inl, inr, ⊎_elim}
use mathlib.Core.Path.{◌≡◌, refl, sym, ◌∙◌, ap, ap₂}
use Prim.Native.Nat.{ℕ, zero, suc, ◌+◌, ◌-◌, ◌*◌, ◌≤◌, ◌<◌}
use native.Mathlib.Numerals.{add-one}
use native.Mathlib.Omega.{arith}
use borrow.Author.Tests.{eq-eqb, ne_eqb, le-leb, lt-leb, eqb-true}
use lib.Dec.{eqb, leb, ltb}
use lib.ListN.{length}
use Rattle.std.specs.Prelude.{Result, Ok, Err, ⊤}
use Rattle.answer.specs.Said.{said}
use Rattle.answer.specs.declared.Refused.{Refused}
use Rattle.answer.proofs.Checks.{flag_off, flag_on, test_refuses, test_passes, none_left, handed_refuses, pass_accepts, last_check, accepted_by, grouped, passes, stops}
use Rattle.plan_checks.specs.Handed.{handed, of_parties, of_span, of_curves, PartsInside}
use Rattle.rules.specs.Limits.{most_months, most_weights, greatest_energy, greatest_curve_number}
use Rattle.rules.specs.Plan.{LongReading, month_count, month_start, part_from, part_to, part_hours, reading_hours, hours_verdict, party_verdict, part_verdict, weight_verdict}
use Rattle.rules.specs.Plan.{list_checks, span_checks, handed_checks}
use Rattle.rules.specs.Refusals.{Refusal, out_of_range, span_fault, energy_too_large, curve_too_large, Verdict, accepted, refused, unless, and_then, first, in_turn}
use Rattle.rules.specs.Services.{each_at, check_at}
use Rattle.rules.specs.Words.{at, within, at_most, figures}
use Rattle.rules.proofs.Plan.{said_part, shape_says}
use Rattle.rules.proofs.Refusals.{first_append, accepted_exactly, in_turn_exactly, unless_exactly, refused_not_accepted}
use Rattle.rules.proofs.Sums.{Adding, add_start, add_next}
use Rattle.rules.proofs.Whole.{both_pass, within_is}

-- THE PART OF A MONTH, by the code's two numbers
module _ (a b : ℕ) (hours : List ℕ) (k : ℕ) {from to : ℕ} (from_is : from ≡ part_from (of_span a 0 []) k) (to_is : to ≡ part_to (of_span 0 b hours) k) where
  pub from_same : from ≡ part_from (of_span a b hours) k
  unfolding part_from
  from_same = from_is

  pub to_same : to ≡ part_to (of_span a b hours) k
  unfolding part_to month_count
  to_same = to_is

  part_tested : ltb from to && leb to (at hours k) ≡ ltb (part_from (of_span a b hours) k) (part_to (of_span a b hours) k) && leb (part_to (of_span a b hours) k) (at hours k)
  part_tested = rw (from_same, to_same)

  pub part_refused : not (ltb from to && leb to (at hours k)) ≡ true → part_verdict (of_span a b hours) k ≡ refused span_fault 0
  unfolding part_verdict
  part_refused e = stops span_fault 0 part_tested e

  pub part_passed : not (ltb from to && leb to (at hours k)) ≡ false → part_verdict (of_span a b hours) k ≡ accepted
  unfolding part_verdict
  part_passed e = passes span_fault 0 part_tested e

  pub hours_same : {n : ℕ} → n ≡ to - from → n ≡ part_hours (of_span a b hours) k
  unfolding part_hours
  hours_same e = e ∙ ap₂ (λ (x y : ℕ). x - y) to_same from_same

-- the last month, and another
pub last_to : (b : ℕ) (hours : List ℕ) (k : ℕ) → k + 1 ≡ length hours → b ≡ part_to (of_span 0 b hours) k
unfolding part_to month_count
last_to b hours k e = rw (eq-eqb (suc k) (length hours) (sym (add-one k) ∙ e))

pub another_to : (b : ℕ) (hours : List ℕ) (k : ℕ) → (k + 1 ≡ length hours → ⊥) → at hours k ≡ part_to (of_span 0 b hours) k
unfolding part_to month_count
another_to b hours k n = rw (ne_eqb (suc k) (length hours) (λ e. n (add-one k ∙ e)))

-- ADDING UP numbers of 16 bits, month by month
pub record Counting (f : ℕ → ℕ) (n all i : ℕ) : Type 0 where
  pub adding : Adding f n all i
  pub small : all ≤ i * 65535

pub counting_start : (f : ℕ → ℕ) (n : ℕ) → Counting f n 0 0
counting_start f n = record { adding = add_start f n; small = omega arith }

module _ {f : ℕ → ℕ} {n all i : ℕ} (c : Counting f n all i) (b : i < n) {v : ℕ} (is : v ≡ f i) (fits : v ≤ 65535) where
  pub counting_next : Counting f n (all + v) (i + 1)
  counting_next = record { adding = add_next c.adding b is; small = omega (arith, c.small) }

-- WHATEVER THE PLACE: checks that all refuse with one refusal at place 0 accept or refuse with it
abbrev Either : Refusal → Verdict → Type 0
Either r v = (v ≡ accepted) ⊎ (v ≡ refused r 0)

one_at_0 : (r : Refusal) (t : Bool) → Either r (and_then (unless t r 0) accepted)
unfolding and_then unless
one_at_0 r true = inl refl
one_at_0 r false = inr refl

all_at_0 : (r : Refusal) (test : ℕ → Bool) (n : ℕ) → Either r (in_turn n (λ i. unless (test i) r 0))
unfolding in_turn figures first and_then
all_at_0 r test zero = inl refl
all_at_0 r test (suc n) =
    let checks : List Verdict = figures n (λ i. unless (test i) r 0) in
    let joined = first_append checks (unless (test n) r 0 ∷ []) in
    ⊎_elim
    (λ (a : first checks ≡ accepted).
    ⊎_elim (λ (e : and_then (unless (test n) r 0) accepted ≡ accepted). inl (joined ∙ ap (λ (v : Verdict). and_then v (and_then (unless (test n) r 0) accepted)) a ∙ e))
    (λ (e : and_then (unless (test n) r 0) accepted ≡ refused r 0). inr (joined ∙ ap (λ (v : Verdict). and_then v (and_then (unless (test n) r 0) accepted)) a ∙ e))
    (one_at_0 r (test n)))
    (λ (b : first checks ≡ refused r 0). inr (joined ∙ ap (λ (v : Verdict). and_then v (and_then (unless (test n) r 0) accepted)) b))
    (all_at_0 r test n)

-- 10 of the curves, by the service's check of each, which has a place
module _ (curves : List ℕ) where
  abbrev fits : ℕ → Bool
  fits t = leb (at curves t) greatest_curve_number

  pub weights_pass : each_at curves (at_most greatest_curve_number) curve_too_large ≡ accepted → accepted ≡ in_turn (length curves) (weight_verdict (of_curves curves))
  unfolding each_at check_at at_most weight_verdict
  weights_pass ok =
      sym ((in_turn_exactly (length curves) (λ i. unless (fits i) curve_too_large 0)).1
      (λ i b. (unless_exactly (fits i) _ 0).1 ((unless_exactly (fits i) _ i).0 ((in_turn_exactly (length curves) (λ i. unless (fits i) curve_too_large i)).0 ok i b))))

  pub weights_refused : {r : Refusal} {place : ℕ} → each_at curves (at_most greatest_curve_number) curve_too_large ≡ refused r place
      → refused curve_too_large 0 ≡ in_turn (length curves) (weight_verdict (of_curves curves))
  unfolding each_at check_at at_most weight_verdict
  weights_refused stopped =
      ⊎_elim
      (λ (a : in_turn (length curves) (λ i. unless (fits i) curve_too_large 0) ≡ accepted).
      absurd (refused_not_accepted (sym stopped ∙ (in_turn_exactly (length curves) (λ i. unless (fits i) curve_too_large i)).1
      (λ i b. (unless_exactly (fits i) _ i).1 ((unless_exactly (fits i) _ 0).0 ((in_turn_exactly (length curves) (λ i. unless (fits i) curve_too_large 0)).0 a i b))))))
      (λ (b : in_turn (length curves) (λ i. unless (fits i) curve_too_large 0) ≡ refused curve_too_large 0). sym b)
      (all_at_0 curve_too_large fits (length curves))

-- 4, LIST BY LIST
module _ (parties hours curves : List ℕ) where
  abbrev lists : LongReading
  lists = handed 0 0 0 parties hours curves

  module _ {t : Bool} (shape : t ≡ eqb (length parties) (length hours) && within 1 most_months (length hours)) where
    pub shape_refused : not t ≡ true → refused out_of_range 0 ≡ first (list_checks lists)
    unfolding list_checks month_count
    shape_refused e = test_refuses _ (sym shape ∙ flag_off t e)

    module _ (shaped : not t ≡ false) where
      both : (eqb (length parties) (length hours) ≡ true) × (within 1 most_months (length hours) ≡ true)
      both = both_pass (eqb (length parties) (length hours)) (within 1 most_months (length hours)) (sym shape ∙ flag_on t shaped)

      pub few : length hours ≤ most_months
      few = (within_is 1 most_months (length hours) both.1).1

      as_many : length parties ≡ length hours
      as_many = eqb-true (length parties) (length hours) both.0

      module _ (months : Result ⊤ Refused) (months-say : said months ≡ in_turn (length hours) (hours_verdict (of_span 0 0 hours))) where
        each_hours : said months ≡ in_turn (length hours) (hours_verdict lists)
        unfolding hours_verdict
        each_hours = months-say

        pub months_refused : {x : Refused} {r : Result ⊤ Refused} → months ≡ Err x → r ≡ Err x → said r ≡ first (list_checks lists)
        unfolding list_checks month_count
        months_refused told on = test_passes out_of_range 0 _ (sym shape ∙ flag_on t shaped) (handed_refuses _ each_hours told on)

        module _ {given : ⊤} (passed : months ≡ Ok given) {n : ℕ} (all : n ≡ month_start (of_span 0 0 hours) (length hours)) where
          all_same : n ≡ month_start lists (length hours)
          unfolding month_start
          all_same = all

          pub curves_refused : (length curves ≡ n → ⊥) → refused out_of_range 0 ≡ first (list_checks lists)
          unfolding list_checks month_count
          curves_refused other =
              test_passes out_of_range 0 _ (sym shape ∙ flag_on t shaped)
              (pass_accepts _ each_hours passed (test_refuses _ (ne_eqb (length curves) (month_start lists (length hours)) (λ e. other (e ∙ sym all_same)))))

          pub parties_decide : length curves ≡ n → {v : Verdict} → v ≡ in_turn (length parties) (party_verdict (of_parties parties)) → v ≡ first (list_checks lists)
          unfolding list_checks month_count party_verdict
          parties_decide same say =
              test_passes out_of_range 0 _ (sym shape ∙ flag_on t shaped)
              (pass_accepts _ each_hours passed
              (test_passes out_of_range 0 _ (eq-eqb (length curves) (month_start lists (length hours)) (same ∙ all_same))
              (say ∙ ap (λ (k : ℕ). in_turn k (party_verdict lists)) as_many ∙ last_check _)))

-- 11, BY THE SPAN
module _ (a b : ℕ) (hours : List ℕ) (parts : Result ⊤ Refused) (say : said parts ≡ in_turn (length hours) (part_verdict (of_span a b hours))) where
  pub parts_refused : {x : Refused} {r : Result ⊤ Refused} → parts ≡ Err x → r ≡ Err x → said r ≡ first (span_checks (of_span a b hours))
  unfolding span_checks month_count
  parts_refused told on = handed_refuses _ say told on

  module _ {given : ⊤} (passed : parts ≡ Ok given) where
    pub parts_inside : length hours ≤ most_months → PartsInside a b hours
    parts_inside few =
        record {
          few_months = few;
          forwards = λ k c. let p = said_part (of_span a b hours) k ((in_turn_exactly (length hours) (part_verdict (of_span a b hours))).0 (accepted_by say passed) k c) in omega (arith, p.0);
        }

    module _ {n : ℕ} (n_is : n ≡ reading_hours (of_span a b hours)) where
      pub too_long : most_weights < n → refused span_fault 0 ≡ first (span_checks (of_span a b hours))
      unfolding span_checks month_count
      too_long h = pass_accepts _ say passed (test_refuses _ (lt-leb (reading_hours (of_span a b hours)) most_weights (omega arith)))

      pub not_too_long : n ≤ most_weights → accepted ≡ first (span_checks (of_span a b hours))
      unfolding span_checks month_count
      not_too_long h = pass_accepts _ say passed (test_passes span_fault 0 _ (le-leb (reading_hours (of_span a b hours)) most_weights (omega arith)) none_left)

-- ALL OF IT: 4, 11, 12, 10
module _ (e a b : ℕ) (parties hours curves : List ℕ) where
  abbrev whole : LongReading
  whole = handed e a b parties hours curves

  abbrev after_span : List Verdict
  after_span = unless (leb e greatest_energy) energy_too_large 0 ∷ in_turn (length curves) (weight_verdict whole) ∷ []

  module _ (l : Result ⊤ Refused) (lists-say : said l ≡ first (list_checks (handed 0 0 0 parties hours curves))) where
    of_lists : said l ≡ first (list_checks whole)
    unfolding list_checks month_count month_start hours_verdict party_verdict
    of_lists = lists-say

    pub lists_refused : {x : Refused} {r : Result ⊤ Refused} → l ≡ Err x → r ≡ Err x → said r ≡ first (handed_checks whole)
    unfolding handed_checks
    lists_refused told on = handed_refuses (span_checks whole ++ after_span) of_lists told on ∙ grouped (list_checks whole) (span_checks whole ++ after_span)

    module _ {given : ⊤} (listed : l ≡ Ok given) where
      pub few_months : length hours ≤ most_months
      unfolding list_checks month_count
      few_months = (shape_says whole ((accepted_exactly (list_checks whole)).0 (accepted_by of_lists listed)).0).2

      past_lists : {v : Verdict} → v ≡ first (span_checks whole ++ after_span) → v ≡ first (handed_checks whole)
      unfolding handed_checks
      past_lists h = pass_accepts (span_checks whole ++ after_span) of_lists listed h ∙ grouped (list_checks whole) (span_checks whole ++ after_span)

      module _ (s : Result ⊤ Refused) (span-says : said s ≡ first (span_checks (of_span a b hours))) where
        of_span_lem : said s ≡ first (span_checks whole)
        unfolding span_checks month_count part_verdict part_from part_to reading_hours part_hours
        of_span_lem = span-says

        pub span_refused : {x : Refused} {r : Result ⊤ Refused} → s ≡ Err x → r ≡ Err x → said r ≡ first (handed_checks whole)
        span_refused told on = past_lists (handed_refuses after_span of_span_lem told on ∙ grouped (span_checks whole) after_span)

        module _ {too : ⊤} (spanned : s ≡ Ok too) where
          past_span : {v : Verdict} → v ≡ first after_span → v ≡ first (handed_checks whole)
          past_span h = past_lists (pass_accepts after_span of_span_lem spanned h ∙ grouped (span_checks whole) after_span)

          pub energy_refused : greatest_energy < e → refused energy_too_large 0 ≡ first (handed_checks whole)
          energy_refused h = past_span (test_refuses _ (lt-leb e greatest_energy h))

          pub curves_decide : e ≤ greatest_energy → {v : Verdict} → v ≡ in_turn (length curves) (weight_verdict (of_curves curves)) → v ≡ first (handed_checks whole)
          unfolding weight_verdict
          curves_decide h says = past_span (test_passes energy_too_large 0 _ (le-leb e greatest_energy h) (says ∙ last_check _))
