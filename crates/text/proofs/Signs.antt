-- Numbers with a sign: the size of one of 64 bits, and its text by that size, after a minus where it is negative.
use mathlib.Core.Bool.{true, false}
use mathlib.Core.List.{◌∷◌, [], ◌++◌}
use mathlib.Core.Path.{◌≡◌, refl, sym, ◌∙◌, ap}
use Prim.Native.Nat.{ℕ, suc, ◌^◌, ◌≤◌, ◌<◌}
use native.Mathlib.Omega.{arith}
use borrow.Author.Tests.{ltb-true}
use lib.IntN.{ℤ, pos, negsuc, nat_abs}
use lib.ListN.{length}
use lib.Signed.{mag, lt_z}
use mir.Facts.{to_z-of_z}
use mir.Syntax.{w64}
use mir.Val.{SFits, to_z, of_z}
use Rattle.rules.specs.Statement.{decimal, signed_decimal}
use Rattle.rules.specs.Words.{ascii}
use Rattle.text.proofs.Digits.{decimal_at_most}

above : (z : ℤ) → lt_z z (pos 0) ≡ false → z ≡ pos (mag z)
above (pos n) e = refl
above (negsuc n) e = let q : ◌≡◌ {A = ℕ} 0 1 = cc in absurd (omega arith)

below : (z : ℤ) → lt_z z (pos 0) ≡ true → z ≡ negsuc (mag z)
below (pos n) e = let none : n < 0 = ltb-true n 0 e in absurd (omega arith)
below (negsuc n) e = refl

-- a number with a sign has at most 19 digits
size_at_most : (z : ℤ) → mag z < 2 ^ 63 → length (decimal (nat_abs z)) ≤ 19
size_at_most (pos n) h = decimal_at_most 18 n (omega arith)
size_at_most (negsuc n) h = decimal_at_most 18 (suc n) (omega arith)

module _ {z : ℤ} (f : SFits w64 z) where
  pub size_is : {n : ℕ} → n ≡ nat_abs (to_z w64 (of_z w64 z)) → n ≡ nat_abs z
  size_is e = e ∙ ap nat_abs (to_z-of_z f)

  pub signed_size : {n : ℕ} → n ≡ nat_abs (to_z w64 (of_z w64 z)) → length (decimal n) ≤ 19
  signed_size e = rw (size_is e) (size_at_most z f.sfits)

  module _ (h : lt_z (to_z w64 (of_z w64 z)) (pos 0) ≡ false) where
    is_above : z ≡ pos (mag z)
    is_above = above z (rw (to_z-of_z f) at h)

    pub plain_text : {n : ℕ} → n ≡ nat_abs (to_z w64 (of_z w64 z)) → decimal n ≡ signed_decimal z
    unfolding signed_decimal
    plain_text e = ap decimal (size_is e ∙ ap nat_abs is_above) ∙ sym (ap signed_decimal is_above)

  module _ (h : lt_z (to_z w64 (of_z w64 z)) (pos 0) ≡ true) where
    is_below : z ≡ negsuc (mag z)
    is_below = below z (rw (to_z-of_z f) at h)

    pub minus_text : {n : ℕ} → n ≡ nat_abs (to_z w64 (of_z w64 z)) → (45 ∷ []) ++ decimal n ≡ signed_decimal z
    unfolding signed_decimal ascii
    minus_text e = ap (λ (k : ℕ). (45 ∷ []) ++ decimal k) (size_is e ∙ ap nat_abs is_below) ∙ sym (ap signed_decimal is_below)
