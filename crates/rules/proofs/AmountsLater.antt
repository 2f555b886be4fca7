-- AMOUNTS LATER (02, W6): the second operation, which "takes differences and prices and gives amounts". The amounts of each hour add up to 0; and after the first
-- operation it refuses none of an accepted month's differences, and gives the month's amounts.
use mathlib.Core.Bool.{Bool, true, false, cond, ◌&&◌}
use mathlib.Core.List.{List}
use mathlib.Core.Logic.{⊎_elim}
use mathlib.Core.Path.{◌≡◌, sym, ◌∙◌, ap, ap₂}
use Prim.Native.Nat.{ℕ, zero, suc, ◌+◌, ◌*◌, ◌/◌, ◌%◌, ◌≤◌, ◌<◌}
use native.Mathlib.Nat.{div-lt_iff_lt-mul, zero-add, eq-zero-or-pos}
use native.Mathlib.Omega.{arith}
use borrow.Author.Tests.{eqb-true, eq-eqb, le-leb, le-ltb}
use lib.IntN.{ℤ, pos, nat_abs, ◌*ℤ◌, zero-*ℤ}
use lib.ListN.{length}
use Rattle.rules.specs.Limits.{greatest_price, greatest_difference, most_hours, most_parties}
use Rattle.rules.specs.Month.{difference, price_at, amount, month_amount, month_verdict}
use Rattle.rules.specs.MonthFile.{MonthFile, H, P}
use Rattle.rules.specs.Reconciliation.{amount_millionths}
use Rattle.rules.specs.Record.{set_prices}
use Rattle.rules.specs.Refusals.{Refusal, out_of_range, wrong_length, difference_too_large, number_of, accepted, refused, unless, and_then, first, in_turn}
use Rattle.rules.specs.Run.{difference_in_run, amount_in_run, price_in_run, run_differences, run_amounts, run_prices}
use Rattle.rules.specs.Services.{at_ℤ, check_at_ℤ, each_at_ℤ, difference_in, adds_up_check, is_beyond, beyond_check, amounts_checks, priced_at, amounts_figures}
use Rattle.rules.specs.Setting.{Setting, needed}
use Rattle.rules.specs.WellFormed.{Every, PriceRight, Whole, Priced}
use Rattle.rules.specs.Words.{sum_ℤ, count, figures, within, within_ℤ}
use Rattle.rules.proofs.Integers.{sum_ℤ_cong, sum_ℤ_scale}
use Rattle.rules.proofs.Loops.{figures_length, figures_at, figures_cong}
use Rattle.rules.proofs.Month.{accepted_is_judged, heading_right, periodised_in_range, hour_differences_add_up, difference_fits}
use Rattle.rules.proofs.PricesLater.{difference_needs_no_price}
use Rattle.rules.proofs.Refusals.{accepted_exactly, in_turn_exactly, unless_exactly, Never, never_by_test, never_in_turn, went_past}
use Rattle.rules.proofs.Run.{at_place, is_place, run_at}
use Rattle.rules.proofs.Sums.{sum_zero}
use Rattle.rules.proofs.Whole.{same_is, same_tests, every_more, every_at}

-- every figure of a series is such
every_figure : {A : Type 0} (is : A → Type 0) (n : ℕ) (f : ℕ → A) → ((i : ℕ) → i < n → is (f i)) → Every is (figures n f)
unfolding figures
every_figure is zero f h = tt
every_figure is (suc n) f h = every_more is (figures n f) (f n) (every_figure is n f (λ i b. h i (omega arith))) (h n (omega arith))

-- a check for another refusal never tells 19
never_19 : (other : Refusal) → number_of other < 19 → (test : Bool) (at : ℕ) → Never difference_too_large (unless test other at)
never_19 other less = never_by_test difference_too_large other (λ same. omega (arith, ap number_of same))

module _ (differences : List ℤ) (parties : ℕ) (prices : List ℤ) where
  hour_adds_up : in_turn (length prices) (adds_up_check differences parties) ≡ accepted → (t : ℕ) → t < length prices → sum_ℤ parties (difference_in differences parties t) ≡ pos 0
  unfolding adds_up_check
  hour_adds_up all t b =
      same_is (sum_ℤ parties (difference_in differences parties t)) (pos 0) ((unless_exactly _ _ _).0 ((in_turn_exactly (length prices) (adds_up_check differences parties)).0 all t b))

  never_adds_up : (t : ℕ) → Never difference_too_large (adds_up_check differences parties t)
  unfolding adds_up_check
  never_adds_up t = never_19 out_of_range (omega arith) _ t

  -- 19 COMES AFTER 4. W6: "19, a difference beyond 2,000,000,001 Wh of either sign, place the hour, after 4.": where the second operation refuses with 19, the
  -- differences of every hour add up to 0
  pub differences_add_up_before_19 : (lent place : ℕ) → first (amounts_checks differences parties prices lent) ≡ refused difference_too_large place
      → (t : ℕ) → t < length prices → sum_ℤ parties (difference_in differences parties t) ≡ pos 0
  unfolding amounts_checks first each_at_ℤ check_at_ℤ
  differences_add_up_before_19 lent place e t b =
      let lengths = went_past _ _ (never_19 wrong_length (omega arith) _ 0) e in
      let equal = went_past _ _ (never_19 out_of_range (omega arith) _ 0) lengths.1 in
      let few = went_past _ _ (never_19 out_of_range (omega arith) _ 0) equal.1 in
      let priced = went_past _ _ (never_in_turn difference_too_large (length prices) _ (λ t. never_19 out_of_range (omega arith) _ t)) few.1 in
      let added = went_past (in_turn (length prices) (adds_up_check differences parties)) _ (never_in_turn difference_too_large (length prices) _ never_adds_up) priced.1 in
      hour_adds_up added.0 t b

  -- a party's amount in an hour is its difference at the hour's price
  amount_there : length differences ≡ length prices * parties → {t i : ℕ} → t < length prices → i < parties
      → at_ℤ (amounts_figures differences parties prices) (t * parties + i) ≡ difference_in differences parties t i *ℤ at_ℤ prices t
  unfolding at_ℤ amounts_figures priced_at amount_millionths difference_in
  amount_there size {t} {i} b l =
      figures_at (length differences) (priced_at differences parties prices) (t * parties + i) (pos 0) (omega (arith, size, is_place b l))
      ∙ ap (λ (h : ℕ). at_ℤ differences (t * parties + i) *ℤ at_ℤ prices h) (at_place parties t i l).0

  -- THE AMOUNTS OF EACH HOUR ADD UP TO 0, of any differences and prices that the second operation takes. W6: "differences of an hour that don't add up to 0 are 4"
  pub amounts_of_an_hour_add_up : (lent : ℕ) → first (amounts_checks differences parties prices lent) ≡ accepted → (t : ℕ) → t < length prices
      → sum_ℤ parties (λ i. at_ℤ (amounts_figures differences parties prices) (t * parties + i)) ≡ pos 0
  unfolding amounts_checks
  amounts_of_an_hour_add_up lent ok t b =
      let passed = (accepted_exactly (amounts_checks differences parties prices lent)).0 ok in
      let size : length differences ≡ length prices * parties = eqb-true (length differences) (length prices * parties) ((unless_exactly _ _ _).0 passed.1.0) in
      sum_ℤ_cong parties (λ i l. amount_there size b l)
      ∙ sum_ℤ_scale parties (difference_in differences parties t) (at_ℤ prices t)
      ∙ ap (λ (x : ℤ). x *ℤ at_ℤ prices t) (hour_adds_up passed.1.1.1.1.0 t b)
      ∙ zero-*ℤ (at_ℤ prices t)

-- THE SECOND AFTER THE FIRST GIVES EXACTLY THE AMOUNTS OF THE WHOLE MONTH'S CALL, of any run of hours. W6: "The statement program and the BRP program call both, and
-- their output stays the same to the byte."
pub second_after_the_first : (m : MonthFile) (start hours : ℕ) → amounts_figures (run_differences m start hours) (P m) (run_prices m start hours) ≡ run_amounts m start hours
unfolding amounts_figures priced_at at_ℤ run_differences run_prices run_amounts difference_in_run price_in_run amount_in_run amount
second_after_the_first m start hours =
    ap (λ (n : ℕ). figures n (priced_at (run_differences m start hours) (P m) (run_prices m start hours))) (figures_length (hours * P m) (difference_in_run m start))
    ∙ figures_cong (hours * P m)
    (λ k b.
    ap₂ amount_millionths (figures_at (hours * P m) (difference_in_run m start) k (pos 0) b)
    (figures_at hours (price_in_run m start) (k / P m) (pos 0) ((div-lt_iff_lt-mul (some_party k b)).1 b)))
  where
    some_party : (k : ℕ) → k < hours * P m → 0 < P m
    some_party k b = ⊎_elim (λ (z : P m ≡ 0). absurd (omega (arith, ap (λ (n : ℕ). hours * n) z))) (λ (some : 0 < P m). some) (eq-zero-or-pos (P m))

-- and of the whole month: a party's month amount is the sum over the hours of what the second operation gives
pub month_amounts_are_sums : (m : MonthFile) (i : ℕ) → i < P m
    → sum_ℤ (H m) (λ t. at_ℤ (amounts_figures (run_differences m 0 (H m)) (P m) (run_prices m 0 (H m))) (t * P m + i)) ≡ month_amount m i
unfolding at_ℤ run_amounts amount_in_run month_amount
month_amounts_are_sums m i l =
    sum_ℤ_cong (H m)
    (λ t b.
    ap (λ (amounts : List ℤ). at_ℤ amounts (t * P m + i)) (second_after_the_first m 0 (H m))
    ∙ run_at (amount m) (pos 0) 0 b l
    ∙ ap (λ (h : ℕ). amount m h i) (zero-add t))

-- THE FIRST ON DAY 1, THE SECOND ON DAY 5. W6: "Prices reach us days after the volumes.": the differences of a month that has no prices yet, or others, and the prices
-- that came later give the amounts of the month with these prices.
pub amounts_on_day_5 : (m : MonthFile) (later : List ℤ) (start hours : ℕ)
    → amounts_figures (run_differences m start hours) (P m) (run_prices (set_prices m later) start hours) ≡ run_amounts (set_prices m later) start hours
unfolding run_differences difference_in_run P
amounts_on_day_5 m later start hours =
    ap (λ (differences : List ℤ). amounts_figures differences (P m) (run_prices (set_prices m later) start hours))
    (figures_cong (hours * P m) (λ k b. sym (difference_needs_no_price m later (start + k / P m) (k % P m))))
    ∙ second_after_the_first (set_prices m later) start hours

-- prices that may stand in a file are each within their range
each_price : (prices : List ℤ) → Every PriceRight prices → each_at_ℤ prices (within_ℤ greatest_price) out_of_range ≡ accepted
unfolding each_at_ℤ check_at_ℤ at_ℤ
each_price prices right = (in_turn_exactly (length prices) _).1 (λ t b. (unless_exactly _ _ _).1 (every_at PriceRight prices right t (pos 0) b))

-- A MONTH'S DIFFERENCES NEVER MEET 4 OR 19. W6: "Refusals of the second: differences of an hour that don't add up to 0 are 4 ..; 19, a difference beyond 2,000,000,001 Wh
-- of either sign": neither is met by those of any run of hours of an accepted month, with whatever prices that may stand in a file.
module _ (setting : Setting) (m : MonthFile) (whole : Whole m) (ok : month_verdict setting m ≡ accepted) (start hours : ℕ) (some : 1 ≤ hours) (inside : start + hours ≤ H m) where
  difference_there : {t i : ℕ} → t < hours → i < P m → difference_in (run_differences m start hours) (P m) t i ≡ difference m (start + t) i
  unfolding difference_in at_ℤ run_differences difference_in_run
  difference_there b l = run_at (difference m) (pos 0) start b l

  adds_up_holds : (t : ℕ) → t < hours → adds_up_check (run_differences m start hours) (P m) t ≡ accepted
  unfolding adds_up_check
  adds_up_holds t b =
      let zero-sum = sum_ℤ_cong (P m) (λ i l. difference_there b l) ∙ hour_differences_add_up m (accepted_is_judged setting m whole ok) (start + t) in
      (unless_exactly _ _ _).1 (same_tests _ (pos 0) zero-sum)

  not_beyond : (t i : ℕ) → t < hours → i < P m → is_beyond (difference_in (run_differences m start hours) (P m) t i) ≡ false
  unfolding is_beyond
  not_beyond t i b l =
      let in_month_holds : start + t < H m = omega arith in
      let fits = difference_fits m (accepted_is_judged setting m whole ok) (start + t) i in_month_holds l (periodised_in_range setting m whole ok (start + t) in_month_holds) in
      rw (difference_there b l) (le-ltb greatest_difference (nat_abs (difference m (start + t) i)) fits)

  none_beyond_lem : (t : ℕ) → t < hours → beyond_check (run_differences m start hours) (P m) t ≡ accepted
  unfolding beyond_check count
  none_beyond_lem t b = (unless_exactly _ _ _).1 (eq-eqb _ 0 (sum_zero (P m) (λ i l. ap (λ (beyond : Bool). cond beyond 1 0) (not_beyond t i b l))))

  few_enough : (n : ℕ) → n ≡ hours → within 1 most_hours n && within 1 most_parties (P m) ≡ true
  unfolding within H P
  few_enough n e =
      let heading = heading_right m (accepted_is_judged setting m whole ok) in
      rw (
        le-leb 1 n (omega arith),
        le-leb n most_hours (omega (arith, heading.hours.1)),
        le-leb 1 m.heading.parties heading.parties.0,
        le-leb m.heading.parties most_parties heading.parties.1,
      )

  pub month_differences_are_taken : (prices : List ℤ) → length prices ≡ hours → Every PriceRight prices
      → first (amounts_checks (run_differences m start hours) (P m) prices (hours * P m)) ≡ accepted
  unfolding amounts_checks first and_then unless run_differences
  month_differences_are_taken prices size right =
      let places : length (run_differences m start hours) ≡ hours * P m = figures_length (hours * P m) (difference_in_run m start) in
      let each-adds-up : in_turn (length prices) (adds_up_check (run_differences m start hours) (P m)) ≡ accepted = (in_turn_exactly (length prices) _).1 (λ t b. adds_up_holds t (omega arith)) in
      let each_fits : in_turn (length prices) (beyond_check (run_differences m start hours) (P m)) ≡ accepted = (in_turn_exactly (length prices) _).1 (λ t b. none_beyond_lem t (omega arith)) in
      rw (
        eq-eqb (hours * P m) (length (run_differences m start hours)) (sym places),
        eq-eqb (length (run_differences m start hours)) (length prices * P m) (places ∙ ap (λ (n : ℕ). n * P m) (sym size)),
        few_enough (length prices) size,
        each_price prices right,
        each-adds-up,
        each_fits,
      )

  -- with the month's own prices, where it has them
  pub month_run_is_taken : Priced needed m → first (amounts_checks (run_differences m start hours) (P m) (run_prices m start hours) (hours * P m)) ≡ accepted
  unfolding run_prices price_in_run price_at
  month_run_is_taken priced =
      month_differences_are_taken (run_prices m start hours) (figures_length hours (price_in_run m start))
      (every_figure PriceRight hours (price_in_run m start) (λ t b. every_at PriceRight m.prices whole.prices (start + t) (pos 0) (omega arith)))
