-- The growth of E x (weights so far) / whole is the quotient of the kept remainder and the hour's own E x weight, so no hour looks back.
use mathlib.Core.Logic.{⊎_elim}
use mathlib.Core.Path.{◌≡◌, sym, ◌∙◌, ap}
use Prim.Native.Nat.{ℕ, suc, ◌+◌, ◌*◌, ◌/◌, ◌%◌, ◌≤◌, ◌<◌, max}
use native.Mathlib.Nat.{mul-zero, max-eq_left, mod-add-mod, eq-zero-or-pos}
use native.Mathlib.Omega.{arith}
use Rattle.rules.specs.Periodised.{sum_so_far, periodised_figure}
use Rattle.rules.specs.Words.{sum}
use Rattle.rules.proofs.Periodised.{carry}

-- where the whole is nothing, so is what lies inside it, and 1 divides as well
over : (e : ℕ) {x whole : ℕ} → x ≤ whole → sum_so_far e x whole ≡ e * x / max whole 1
unfolding sum_so_far
over e {x} {whole} b =
    ⊎_elim
    (λ (z : whole ≡ 0).
    let none : x ≡ 0 = omega arith in
    rw (z, none, mul-zero e))
    (λ (p : 0 < whole). ap (λ (m : ℕ). e * x / m) (sym (max-eq_left p)))
    (eq-zero-or-pos whole)

module _ (e before whole : ℕ) (weight : ℕ → ℕ) (k : ℕ) where
  -- E x (weights so far)
  abbrev passed : ℕ
  passed = e * (before + sum k weight)

  one_more : e * (before + sum (suc k) weight) ≡ e * (before + sum k weight) + e * weight k
  unfolding sum
  one_more = omega arith

  -- an hour's figure
  pub growth_is : before + sum (suc k) weight ≤ whole → periodised_figure e before whole weight k ≡ (e * (before + sum k weight) % max whole 1 + e * weight k) / max whole 1
  unfolding periodised_figure sum
  growth_is b =
      let some : 0 < max whole 1 = omega arith in
      let after : sum_so_far e (before + sum (suc k) weight) whole ≡ (passed + e * weight k) / max whole 1 = over e b ∙ ap (λ (x : ℕ). x / max whole 1) one_more in
      let until : sum_so_far e (before + sum k weight) whole ≡ passed / max whole 1 = over e (omega arith) in
      omega (arith, carry passed (e * weight k) some, after, until)

  -- and what it keeps for the next
  pub rest_is : (divisor : ℕ) → (e * (before + sum k weight) % divisor + e * weight k) % divisor ≡ e * (before + sum (suc k) weight) % divisor
  rest_is divisor =
      mod-add-mod (e * (before + sum k weight)) divisor (e * weight k) ∙ ap (λ (x : ℕ). x % divisor) (sym one_more)
