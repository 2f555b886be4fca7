-- A reading's figures by the curve: the growths of its part of the curve are the reading's figures, and none is above E.
use mathlib.Core.Bool.{Bool, true, false, cond, ◌&&◌}
use mathlib.Core.Logic.{⊎_elim}
use mathlib.Core.Path.{◌≡◌, refl, sym, ◌∙◌, ap}
use Prim.Native.Nat.{ℕ, suc, ◌+◌, ◌-◌, ◌≤◌, ◌<◌, zero-le}
use native.Mathlib.Omega.{arith}
use borrow.Author.Tests.{le-leb, lt-leb, lt-ltb, le-ltb}
use lib.Dec.{leb}
use Rattle.month_series.specs.Series.{beginning}
use Rattle.month_series.proofs.Weights.{beginning_split}
use Rattle.month_window.specs.Window.{own_by, whole_by, figure_by, FitsBy}
use Rattle.rules.specs.Month.{weight_before, whole_weight}
use Rattle.rules.specs.Periodised.{periodised_figure}
use Rattle.rules.specs.Record.{Reading}
use Rattle.rules.specs.Words.{sum}
use Rattle.rules.proofs.LargestRemainder.{less_cases}
use Rattle.rules.proofs.Periodised.{figure_cong, figure_at_most}
use Rattle.rules.proofs.Sums.{sum_cong, sum_rises}

-- what the curve weighs between two hours
pub between : (weight : ℕ → ℕ) {a b : ℕ} → a ≤ b → beginning weight b - beginning weight a ≡ sum (b - a) (λ k. weight (a + k))
between weight h = omega (arith, beginning_split weight h)

-- a test that is not passed beside another
both_ways : (t : Bool) (x : ℕ) → cond (t && false) x 0 ≡ 0
both_ways true x = refl
both_ways false x = refl

-- an hour lies in the reading, before it or after it
by_hours : (r : Reading) (t : ℕ) {A : Type 0} → (r.a ≤ t → t < r.b → A) → (t < r.a → A) → (r.b ≤ t → A) → A
by_hours r t inside before after =
    ⊎_elim (λ (l : (t < r.a) × _). before l.0)
    (λ (g : (r.a ≤ t) × _).
    ⊎_elim (λ (l : (t < r.b) × _). inside g.0 l.0) (λ (n : (r.b ≤ t) × _). after n.0) (less_cases t r.b))
    (less_cases t r.a)

module _ (weight : ℕ → ℕ) (r : Reading) (t : ℕ) where
  pub figure_inside : r.a ≤ t → t < r.b → figure_by weight r t ≡ periodised_figure r.e (weight_before r.over) (whole_by weight r) (λ k. weight (r.a + k)) (t - r.a)
  unfolding figure_by
  figure_inside from-a to-b = simp (le-leb r.a t from-a, lt-ltb t r.b to-b)

  pub none_before : t < r.a → figure_by weight r t ≡ 0
  unfolding figure_by
  none_before b = simp (lt-leb r.a t b)

  pub none_after : r.b ≤ t → figure_by weight r t ≡ 0
  unfolding figure_by
  none_after b = simp (le-ltb t r.b b) (both_ways (leb r.a t) _)

-- only the weights of the reading's own hours count
pub own_cong : {f g : ℕ → ℕ} (r : Reading) → ((i : ℕ) → i < r.b → f i ≡ g i) → own_by f r ≡ own_by g r
unfolding own_by
own_cong r same = sum_cong (r.b - r.a) (λ k b. same (r.a + k) (omega arith))

pub whole_cong : {f g : ℕ → ℕ} (r : Reading) → ((i : ℕ) → i < r.b → f i ≡ g i) → whole_by f r ≡ whole_by g r
unfolding whole_by
whole_cong r same = ap (whole_weight r.over) (own_cong r same)

pub by_cong : {f g : ℕ → ℕ} (r : Reading) (t : ℕ) → ((i : ℕ) → i < r.b → f i ≡ g i) → figure_by f r t ≡ figure_by g r t
by_cong {f} {g} r t same =
    by_hours r t
    (λ from-a to-b.
    figure_inside f r t from-a to-b
    ∙ figure_cong r.e (weight_before r.over) (whole_by f r) {f = λ k. f (r.a + k)} {g = λ k. g (r.a + k)} (t - r.a) (λ i c. same (r.a + i) (omega arith))
    ∙ ap (λ (whole : ℕ). periodised_figure r.e (weight_before r.over) whole (λ k. g (r.a + k)) (t - r.a)) (whole_cong r same)
    ∙ sym (figure_inside g r t from-a to-b))
    (λ b. none_before f r t b ∙ sym (none_before g r t b))
    (λ b. none_after f r t b ∙ sym (none_after g r t b))

-- and no figure is above the reading's E
pub by_at_most : (weight : ℕ → ℕ) (r : Reading) → FitsBy weight r → (t : ℕ) → figure_by weight r t ≤ r.e
unfolding own_by
by_at_most weight r fits t =
    by_hours r t
    (λ from-a to-b.
    rw (figure_inside weight r t from-a to-b)
    (figure_at_most r.e (weight_before r.over) (whole_by weight r) (λ k. weight (r.a + k)) (t - r.a)
    (omega (arith, fits.0, sum_rises (λ k. weight (r.a + k)) {k = suc (t - r.a)} {n = r.b - r.a} (omega arith)))))
    (λ b. rw (none_before weight r t b) zero-le)
    (λ b. rw (none_after weight r t b) zero-le)

-- THE PART'S GROWTHS ARE THE READING'S FIGURES, out of the weights that its spread has
module _ (weight : ℕ → ℕ) (r : Reading) {own_weight : ℕ} (own_is : own_weight ≡ own_by weight r) where
  abbrev own : ℕ → ℕ
  own k = weight (r.a + k)

  abbrev whole : ℕ
  whole = whole_weight r.over own_weight

  pub whole_is : whole ≡ whole_by weight r
  unfolding whole_by
  whole_is = ap (whole_weight r.over) own_is

  module _ {part : ℕ → ℕ} (same : (i : ℕ) → i < r.b - r.a → part i ≡ own i) where
    pub part_growth : (t : ℕ) → r.a ≤ t → t < r.b → periodised_figure r.e (weight_before r.over) whole part (t - r.a) ≡ figure_by weight r t
    part_growth t from-a to-b =
        figure_cong r.e (weight_before r.over) whole {f = part} {g = own} (t - r.a) (λ i c. same i (omega arith))
        ∙ ap (λ (w : ℕ). periodised_figure r.e (weight_before r.over) w own (t - r.a)) whole_is
        ∙ sym (figure_inside weight r t from-a to-b)
