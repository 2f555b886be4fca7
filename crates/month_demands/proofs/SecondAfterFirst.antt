-- QUANTITIES FIRST, AMOUNTS LATER (02, W6), proved from the promises of the two calls alone: the call on a run of hours (`month_run`) gives the differences, the
-- second operation (`amounts_service`) takes them with the prices, and what it gives are the amounts of the call on the whole month (`month_service`).
use mathlib.Core.List.{List}
use mathlib.Core.Path.{◌≡◌, sym, ◌∙◌, ap, subst}
use Prim.Native.Nat.{ℕ, ◌+◌, ◌*◌, ◌<◌}
use lib.IntN.{ℤ}
use lib.ListN.{length}
use Rattle.amounts_service.specs.Promised as Second
use Rattle.std.specs.Prelude.{Result, ⊤}
use Rattle.answer.specs.Said.{said}
use Rattle.answer.specs.declared.Refused.{Refused}
use Rattle.month_demands.specs.Demands.{Outputs, Kept}
use Rattle.month_demands.proofs.Distribution.{month, run_in_month}
use Rattle.month_demands.proofs.Theorems.{the_month_meets}
use Rattle.month_run.specs.Run as First
use Rattle.month_service.specs.Told.{verdict}
use Rattle.month_service.specs.declared.Summary.{Summary}
use Rattle.setting.specs.Asked.{asked}
use Rattle.setting.specs.declared.Setting.{Setting}
use Rattle.rules.specs.Month.{month_of, month_amount}
use Rattle.rules.specs.MonthFile.{MonthFile, H, P}
use Rattle.rules.specs.Refusals.{Verdict, accepted, first, afterwards}
use Rattle.rules.specs.Run.{difference_in_run, run_differences, run_amounts, run_prices}
use Rattle.rules.specs.Services.{at_ℤ, amounts_checks, amounts_figures}
use Rattle.rules.specs.Setting.{needed, optional}
use Rattle.rules.specs.WellFormed.{Every, PriceRight, Priced}
use Rattle.rules.specs.Words.{sum_ℤ, figures}
use Rattle.rules.proofs.AmountsLater.{second_after_the_first, month_differences_are_taken, month_run_is_taken, month_amounts_are_sums}
use Rattle.rules.proofs.Integers.{sum_ℤ_cong}
use Rattle.rules.proofs.Whole.{Whole, what_is_read_is_whole}

-- THE FIRST CALL, accepted: any answer and any contents that meet its promise
module _ {setting : Setting} {file : List ℕ} {start hours : ℕ} {r : Result ⊤ Refused} {d₀ : List ℤ} {p₀ : List ℕ} {x₀ l₀ d : List ℤ} {p : List ℕ} {x l : List ℤ}
    (is : First.Promised setting file start hours r d₀ p₀ x₀ l₀ d p x l) (ok : said r ≡ accepted) where
  abbrev m : MonthFile
  m = month_of file

  whole : Whole m
  whole = what_is_read_is_whole optional file (month is ok).0

  -- the differences that it gives
  differences_are : x ≡ run_differences m start hours
  unfolding afterwards run_differences
  differences_are = is.differences ∙ ap (λ (v : Verdict). afterwards v (figures (hours * P m) (difference_in_run m start)) x₀) ok

  module _ (prices : List ℤ) {a : Result ⊤ Refused} {lent held : List ℤ} (second : Second.Promised x (P m) prices lent a held) (room : length lent ≡ hours * P m) where
    answers : first (amounts_checks (run_differences m start hours) (P m) prices (hours * P m)) ≡ accepted → said a ≡ accepted
    answers passes =
        second.answer ∙ ap (λ (l : List ℤ). first (amounts_checks l (P m) prices (length lent))) differences_are
        ∙ ap (λ (n : ℕ). first (amounts_checks (run_differences m start hours) (P m) prices n)) room
        ∙ passes

    -- A MONTH'S DIFFERENCES NEVER MEET 4 OR 19: with any prices in range, one for each hour, the second operation accepts them
    pub taken : length prices ≡ hours → Every PriceRight prices → said a ≡ accepted
    taken as_many right = answers (month_differences_are_taken (asked setting) m whole (month is ok).1 start hours (run_in_month is ok).0 (run_in_month is ok).1 prices as_many right)

    -- THE SECOND AFTER THE FIRST gives the month's amounts, of each of the run's hours: the prices are the file's
    pub amounts_are_the_month's : Priced needed m → prices ≡ run_prices m start hours → held ≡ run_amounts m start hours
    unfolding afterwards
    amounts_are_the_month's priced e =
        let passes = month_run_is_taken (asked setting) m whole (month is ok).1 start hours (run_in_month is ok).0 (run_in_month is ok).1 priced in
        let done = answers (subst (λ (l : List ℤ). first (amounts_checks (run_differences m start hours) (P m) l (hours * P m)) ≡ accepted) (sym e) passes) in
        second.contents ∙ ap (λ (v : Verdict). afterwards v (amounts_figures x (P m) prices) lent) done
        ∙ ap (λ (l : List ℤ). amounts_figures l (P m) prices) differences_are
        ∙ ap (λ (l : List ℤ). amounts_figures (run_differences m start hours) (P m) l) e
        ∙ second_after_the_first m start hours

-- OF A WHOLE MONTH: both calls over all its hours give, added up, what the call on the whole month writes as each party's amount
module _ {setting : Setting} {file : List ℕ} {hours : ℕ} {r : Result ⊤ Refused} {d₀ : List ℤ} {p₀ : List ℕ} {x₀ l₀ d : List ℤ} {p : List ℕ} {x l : List ℤ}
    (is : First.Promised setting file 0 hours r d₀ p₀ x₀ l₀ d p x l) (ok : said r ≡ accepted) (all : hours ≡ H (month_of file))
    (prices : List ℤ) {a : Result ⊤ Refused} {lent held : List ℤ} (second : Second.Promised x (P (month_of file)) prices lent a held) (room : length lent ≡ hours * P (month_of file))
    (the-file's : prices ≡ run_prices (month_of file) 0 hours)
    {s : Result Summary Refused} (before after : Outputs) (call : Kept setting file s before after) (settled : verdict s ≡ accepted) where
  pub amounts_of_the_call : (i : ℕ) → i < P (month_of file) → at_ℤ after.amounts i ≡ sum_ℤ (H (month_of file)) (λ t. at_ℤ held (t * P (month_of file) + i))
  unfolding month_amount
  amounts_of_the_call i b =
      let month : MonthFile = month_of file in
      let meets = the_month_meets before after call settled in
      let held_is = amounts_are_the_month's is ok prices second room meets.all_priced_holds the-file's in
      meets.amount_sums i b ∙ sym (month_amounts_are_sums month i b)
      ∙ sum_ℤ_cong (H month)
      (λ t c. ap (λ (l : List ℤ). at_ℤ l (t * P month + i)) (second_after_the_first month 0 (H month) ∙ ap (λ (n : ℕ). run_amounts month 0 n) (sym all) ∙ sym held_is))
