-- A lent list has a place for each party in each hour: the test by division says what the product says.
use mathlib.Core.Bool.{Bool, true, false}
use mathlib.Core.Path.{◌≡◌, refl, sym, ◌∙◌, ap}
use Prim.Native.Nat.{ℕ, ◌*◌, ◌/◌, ◌%◌}
use native.Mathlib.Nat.{zero-mul, mul-mod_right, div-add-mod', mul-div_right}
use native.Mathlib.Omega.{arith}
use borrow.Author.Tests.{eqb-true, eqb-false, eq-eqb, ne_eqb}
use lib.Dec.{eqb}

-- two tests of equality that hold together
same_test : (a b c d : ℕ) → (a ≡ b → c ≡ d) → (c ≡ d → a ≡ b) → eqb a b ≡ eqb c d
same_test a b c d to fro = go (eqb a b) refl
  where
    go : (t : Bool) → eqb a b ≡ t → eqb a b ≡ eqb c d
    go true e = e ∙ sym (eq-eqb c d (to (eqb-true a b e)))
    go false e = e ∙ sym (ne_eqb c d (λ same. eqb-false a b e (fro same)))

module _ (lent parties hours : ℕ) where
  pub no_parties : parties ≡ 0 → eqb lent 0 ≡ eqb lent (parties * hours)
  no_parties z = ap (λ (x : ℕ). eqb lent x) (sym (ap (λ (p : ℕ). p * hours) z ∙ zero-mul hours))

  pub uneven : (lent % parties ≡ 0 → ⊥) → false ≡ eqb lent (parties * hours)
  uneven odd = sym (ne_eqb lent (parties * hours) (λ e. odd (ap (λ (x : ℕ). x % parties) e ∙ mul-mod_right parties hours)))

  pub even : (parties ≡ 0 → ⊥) → lent % parties ≡ 0 → eqb (lent / parties) hours ≡ eqb lent (parties * hours)
  even some rest =
      same_test (lent / parties) hours lent (parties * hours)
      (λ e. omega (arith, div-add-mod' lent parties, ap (λ (x : ℕ). x * parties) e))
      (λ e. ap (λ (x : ℕ). x / parties) e ∙ mul-div_right hours (omega (arith, some)))
