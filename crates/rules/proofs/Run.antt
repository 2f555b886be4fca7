-- Figures that stand hour by hour and within an hour party by party: with n parties, party i's in hour t stands at place t x n + i.
use mathlib.Core.Path.{◌≡◌, ◌∙◌, ap, ap₂}
use Prim.Native.Nat.{ℕ, ◌+◌, ◌*◌, ◌/◌, ◌%◌, ◌<◌}
use native.Mathlib.Nat.{add-zero, mul-le-mul_right, mul-add-div_right, mul-add-mod_self_right, div-eq_of_lt, mod-eq_of_lt}
use native.Mathlib.Omega.{arith}
use lib.ListN.{get_or}
use Rattle.rules.specs.Words.{figures}
use Rattle.rules.proofs.Loops.{figures_at}

-- place t x n + i is hour t, party i
pub at_place : (n t i : ℕ) → i < n → ((t * n + i) / n ≡ t) × ((t * n + i) % n ≡ i)
at_place n t i l =
    let some : 0 < n = omega arith in
    (mul-add-div_right some t i ∙ ap (λ (q : ℕ). t + q) (div-eq_of_lt l) ∙ add-zero t, mul-add-mod_self_right t n i ∙ mod-eq_of_lt l)

-- and is one of the places of the hours
pub is_place : {hours n t i : ℕ} → t < hours → i < n → t * n + i < hours * n
is_place {hours} {n} {t} {i} b l = omega (arith, mul-le-mul_right n b)

-- a figure that each hour has for each party, in a run of hours from `start` on
pub in_run : {A : Type 0} (figure : ℕ → ℕ → A) (n start t i : ℕ) → i < n → figure (start + (t * n + i) / n) ((t * n + i) % n) ≡ figure (start + t) i
in_run figure n start t i l =
    ap₂ (λ (h p : ℕ). figure (start + h) p) (at_place n t i l).0 (at_place n t i l).1

pub run_at :
    {A : Type 0} (figure : ℕ → ℕ → A) (nothing : A) (start : ℕ) {hours n t i : ℕ}
    → t < hours
    → i < n
    → get_or (figures (hours * n) (λ k. figure (start + k / n) (k % n))) (t * n + i) nothing ≡ figure (start + t) i
run_at figure nothing start {hours} {n} {t} {i} b l =
    figures_at (hours * n) (λ k. figure (start + k / n) (k % n)) (t * n + i) nothing (is_place b l) ∙ in_run figure n start t i l
