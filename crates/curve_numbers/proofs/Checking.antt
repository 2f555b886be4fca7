-- The curve's checks in the parts that the code goes through, and the bound of a curve number that was accepted. Nothing here looks into the curve number.
use mathlib.Core.List.{List, [], ◌∷◌}
use mathlib.Core.Path.{◌≡◌, sym}
use Prim.Native.Nat.{ℕ, ◌≤◌, ◌<◌}
use native.Mathlib.Omega.{arith}
use borrow.Author.Tests.{eqb-true, leb-true, le-leb, lt-leb}
use lib.Dec.{eqb, leb}
use lib.ListN.{length}
use mir.Syntax.{w32}
use mir.Val.{Fits}
use Rattle.rules.specs.Flows.{curve_number}
use Rattle.rules.specs.Limits.{greatest_w, greatest_residual, greatest_curve_number}
use Rattle.rules.specs.Refusals.{curve_too_large, residual_too_large, accepted, refused, unless, first}
use Rattle.rules.specs.Services.{check_at, each_at, curve_fits, curve_checks}
use Rattle.rules.specs.Words.{at, at_most, within}
use Rattle.rules.proofs.Refusals.{accepted_exactly, in_turn_exactly, unless_exactly}
use Rattle.rules.proofs.Whole.{within_is}
use Rattle.answer.proofs.Checks.{grouped}
use Rattle.curve_numbers.specs.Passes.{curve_shape, CurveReady}

-- what an accepted shape says
module _ (hours w lent : ℕ) (e : curve_shape hours w lent ≡ accepted) where
  pub shape_lent : lent ≡ hours
  unfolding curve_shape
  shape_lent = eqb-true lent hours ((unless_exactly (eqb lent hours) _ _).0 ((accepted_exactly _).0 e).0)

  pub shape_w : 0 < w
  unfolding curve_shape
  shape_w = omega (arith, (within_is 1 greatest_w w ((unless_exactly (within 1 greatest_w w) _ _).0 ((accepted_exactly _).0 e).1.1.0)).0)

module _ (residuals : List ℕ) (w : ℕ) where
  pub in_parts :
      (lent : ℕ) → first
      (curve_shape (length residuals) w lent
      ∷ each_at residuals (at_most greatest_residual) residual_too_large
      ∷ each_at residuals (curve_fits w) curve_too_large
      ∷ [])
      ≡ first (curve_checks residuals w lent)
  unfolding curve_checks curve_shape
  in_parts lent = grouped (_ ∷ _ ∷ _ ∷ []) _

  pub number_passes : (t : ℕ) {n : ℕ} → n ≡ curve_number (at residuals t) w → n ≤ greatest_curve_number → check_at residuals (curve_fits w) curve_too_large t ≡ accepted
  unfolding check_at curve_fits unless
  number_passes t e h = rw (sym e, le-leb _ greatest_curve_number h)

  pub number_stops :
      (t : ℕ) {n : ℕ}
      → n ≡ curve_number (at residuals t) w
      → greatest_curve_number < n
      → check_at residuals (curve_fits w) curve_too_large t ≡ refused curve_too_large t
  unfolding check_at curve_fits unless
  number_stops t e h = rw (sym e, lt-leb _ greatest_curve_number h)

  -- every curve number of residuals that were accepted
  pub number_within : each_at residuals (curve_fits w) curve_too_large ≡ accepted → (t : ℕ) → t < length residuals → curve_number (at residuals t) w ≤ greatest_curve_number
  unfolding each_at check_at curve_fits
  number_within e t b =
      leb-true (curve_number (at residuals t) w) greatest_curve_number
      ((unless_exactly (leb (curve_number (at residuals t) w) greatest_curve_number) curve_too_large t).0
      ((in_turn_exactly (length residuals) (check_at residuals (curve_fits w) curve_too_large)).0 e t b))

  -- and so each fits 32 bits
  pub number_fits : CurveReady residuals w → (t : ℕ) → t < length residuals → {n : ℕ} → n ≡ curve_number (at residuals t) w → Fits w32 n
  number_fits ready t b e = record { fits = omega (arith, e, number_within ready.fitting t b) }
