-- THE MONTH SUMS ARE THE SUMS OF THE RUN of all hours, and no second result fits what the crate promises.
use mathlib.Core.List.{List}
use mathlib.Core.Path.{◌≡◌, sym, ◌∙◌, ap}
use Prim.Native.Nat.{ℕ, ◌+◌, ◌*◌, ◌/◌, ◌%◌, ◌<◌}
use native.Mathlib.Nat.{zero-add, mul-le-mul_right}
use native.Mathlib.Omega.{arith}
use lib.IntN.{ℤ, pos}
use lib.ListN.{get_or}
use Rattle.std.specs.Prelude.{Result, Ok, ⊤}
use Rattle.answer.specs.Said.{said}
use Rattle.answer.specs.declared.Refused.{Refused}
use Rattle.answer.proofs.Said.{said_once}
use Rattle.month_run.specs.Run.{Promised}
use Rattle.month_run.specs.InRun.{distributed_in_run, periodised_in_run, loss_in_run}
use Rattle.month_run.proofs.OneHour.{in_run}
use Rattle.setting.specs.declared.Setting.{Setting}
use Rattle.rules.specs.Month.{month_of, distributed, periodised, difference, loss, month_distributed, month_periodised, month_difference, month_loss}
use Rattle.rules.specs.MonthFile.{MonthFile, H, P}
use Rattle.rules.specs.Reconciliation.{loss_of}
use Rattle.rules.specs.Refusals.{Verdict, afterwards}
use Rattle.rules.specs.Run.{difference_in_run}
use Rattle.rules.specs.Services.{at_ℤ}
use Rattle.rules.specs.Words.{sum, sum_ℤ, at, figures}
use Rattle.rules.proofs.Integers.{sum_ℤ_cong}
use Rattle.rules.proofs.Loops.{figures_at}
use Rattle.rules.proofs.Sums.{sum_cong}

-- what stands for a party and an hour of a run of all hours
there :
    {A : Type 0} (figure : ℕ → ℕ → A) (nothing : A) (hours n t i : ℕ)
    → t < hours
    → i < n
    → get_or (figures (hours * n) (λ k. figure (0 + k / n) (k % n))) (t * n + i) nothing ≡ figure t i
there figure nothing hours n t i b l =
    figures_at (hours * n) (λ k. figure (0 + k / n) (k % n)) (t * n + i) nothing (omega (arith, mul-le-mul_right n b))
    ∙ in_run figure n 0 t i l
    ∙ ap (λ (h : ℕ). figure h i) (zero-add t)

-- the run of all hours of an accepted month
module _ {setting : Setting} {file : List ℕ} {d₀ : List ℤ} {p₀ : List ℕ} {x₀ l₀ d : List ℤ} {p : List ℕ} {x l : List ℤ}
    (r : Promised setting file 0 (H (month_of file)) (Ok tt) d₀ p₀ x₀ l₀ d p x l) where
  abbrev m : MonthFile
  m = month_of file

  module _ (i : ℕ) (b : i < P m) where
    pub distributed_adds_up : sum_ℤ (H m) (λ t. at_ℤ d (t * P m + i)) ≡ month_distributed m i
    unfolding month_distributed at_ℤ afterwards distributed_in_run
    distributed_adds_up =
        sum_ℤ_cong (H m)
        (λ t c. ap (λ (o : List ℤ). get_or o (t * P m + i) (pos 0)) r.distributed ∙ there (distributed m) (pos 0) (H m) (P m) t i c b)

    pub periodised_adds_up : sum (H m) (λ t. at p (t * P m + i)) ≡ month_periodised m i
    unfolding month_periodised at afterwards periodised_in_run
    periodised_adds_up =
        sum_cong (H m)
        (λ t c. ap (λ (o : List ℕ). get_or o (t * P m + i) 0) r.periodised ∙ there (periodised m) 0 (H m) (P m) t i c b)

    pub differences_add_up : sum_ℤ (H m) (λ t. at_ℤ x (t * P m + i)) ≡ month_difference m i
    unfolding month_difference at_ℤ afterwards difference_in_run
    differences_add_up =
        sum_ℤ_cong (H m)
        (λ t c. ap (λ (o : List ℤ). get_or o (t * P m + i) (pos 0)) r.differences ∙ there (difference m) (pos 0) (H m) (P m) t i c b)

  pub losses_add_up : (i : ℕ) → sum_ℤ (H m) (λ t. loss_of m.heading.carrier (at_ℤ l t) i) ≡ month_loss m i
  unfolding month_loss at_ℤ afterwards loss_in_run
  losses_add_up i =
      sum_ℤ_cong (H m)
      (λ t c.
      ap (λ (z : ℤ). loss_of m.heading.carrier z i)
      (ap (λ (o : List ℤ). get_or o t (pos 0)) r.losses
      ∙ figures_at (H m) (λ k. loss m (0 + k)) t (pos 0) c
      ∙ ap (loss m) (zero-add t)))

-- two answers with lent outputs that both meet the promise are equal
module _ (setting : Setting) (file : List ℕ) (start hours : ℕ) {a b : Result ⊤ Refused}
    {d₀ : List ℤ} {p₀ : List ℕ} {x₀ l₀ d d' : List ℤ} {p p' : List ℕ} {x l x' l' : List ℤ}
    (u : Promised setting file start hours a d₀ p₀ x₀ l₀ d p x l)
    (v : Promised setting file start hours b d₀ p₀ x₀ l₀ d' p' x' l') where
  alike : said a ≡ said b
  alike = u.answer ∙ sym v.answer

  held : {A : Type 0} (new old : List A) {o o' : List A} → o ≡ afterwards (said a) new old → o' ≡ afterwards (said b) new old → o ≡ o'
  held new old e f = e ∙ ap (λ (w : Verdict). afterwards w new old) alike ∙ sym f

  pub hours_unique : (a ≡ b) × (d ≡ d') × (p ≡ p') × (x ≡ x') × (l ≡ l')
  hours_unique = (
    said_once a b alike,
    held _ d₀ u.distributed v.distributed,
    held _ p₀ u.periodised v.periodised,
    held _ x₀ u.differences v.differences,
    held _ l₀ u.losses v.losses,
  )
