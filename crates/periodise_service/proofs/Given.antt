-- What the service gives, of any result that meets its promise: its figures add up to E where S is positive, and are 0 where E and S are.
use mathlib.Core.List.{List}
use mathlib.Core.Logic.{inr}
use mathlib.Core.Path.{◌≡◌, ◌∙◌, ap}
use Prim.Native.Nat.{ℕ, ◌<◌}
use lib.ListN.{length}
use Rattle.answer.specs.Said.{said}
use Rattle.std.specs.Prelude.{Result, Ok, ⊤}
use Rattle.answer.specs.declared.Refused.{Refused}
use Rattle.periodise_service.specs.Promised.{Promised}
use Rattle.rules.specs.Periodised.{periodised_figure}
use Rattle.rules.specs.Refusals.{afterwards}
use Rattle.rules.specs.Services.{periodisation_figures}
use Rattle.rules.specs.Words.{sum, at}
use Rattle.rules.proofs.Loops.{figures_at}
use Rattle.rules.proofs.Periodised.{figures_add_up_to_E, nothing_over_nothing}
use Rattle.rules.proofs.Sums.{sum_cong}

module _ (e : ℕ) (weights : List ℕ) {before : List ℕ} {r : Result ⊤ Refused} {after : List ℕ} (p : Promised e weights before r after) (done : r ≡ Ok tt) where
  given : after ≡ periodisation_figures e weights
  unfolding afterwards
  given = p.contents ∙ ap (λ (a : Result ⊤ Refused). afterwards (said a) (periodisation_figures e weights) before) done

  -- the figure of each hour
  pub given_at : (k : ℕ) → k < length weights → at after k ≡ periodised_figure e 0 (sum (length weights) (at weights)) (at weights) k
  unfolding at periodisation_figures
  given_at k b = ap (λ (l : List ℕ). at l k) given ∙ figures_at (length weights) (periodised_figure e 0 (sum (length weights) (at weights)) (at weights)) k 0 b

  -- THE SERVICE'S FIGURES ADD UP TO E where S is positive
  pub given_adds_up_to_E : 0 < sum (length weights) (at weights) → sum (length weights) (at after) ≡ e
  given_adds_up_to_E some = sum_cong (length weights) given_at ∙ figures_add_up_to_E e (length weights) (at weights) (inr some)

  -- "With E = 0 and S = 0 every figure is 0."
  pub given_nothing : sum (length weights) (at weights) ≡ 0 → (k : ℕ) → k < length weights → at after k ≡ 0
  given_nothing none k b = given_at k b ∙ nothing_over_nothing e 0 (sum (length weights) (at weights)) (at weights) k (inr none)
