-- Two's complement written without a power: for a width whose largest number is `top`, a negative z stands as far below `top` as -1 - z says, and one
-- law over `top` serves 4 bytes and 8.
use mathlib.Core.Bool.{true, false}
use mathlib.Core.Path.{◌≡◌, refl, sym, ◌∙◌, ap}
use Prim.Native.Nat.{ℕ, suc, ◌-◌, ◌≤◌}
use native.Mathlib.Omega.{arith}
use borrow.Author.Tests.{le-ltb}
use lib.Dec.{T, leb-zero}
use lib.IntN.{ℤ, pos, negsuc, nat_abs, ◌-ℤ◌}
use lib.Signed.{mag, le_z, non_neg}
use mir.Facts.{to_z-of_z}
use mir.Syntax.{w64}
use mir.Val.{Fits, SFits, to_z, of_z}
use Rattle.record_bytes.specs.Fields.{uncomplemented}
use Rattle.rules.specs.Record.{unsigned}

-- -1 - z of a negative z
back_above : (n : ℕ) → negsuc 0 -ℤ negsuc n ≡ pos n
back_above n = rw (le-ltb (suc n) 1 (omega arith)) (ap pos (omega arith))

-- z as a number of the width whose largest is top
pub above : (z : ℤ) → le_z (pos 0) z ≡ true → T (non_neg z) × (z ≡ pos (mag z))
above (pos n) e = (tt, refl)
above (negsuc n) e = let q : ◌≡◌ {A = ℕ} 0 1 = cc in absurd (omega arith)

pub below : (z : ℤ) → le_z (pos 0) z ≡ false → z ≡ negsuc (mag z)
below (pos n) e = let q : ◌≡◌ {A = ℕ} 0 1 = cc (leb-zero n) in absurd (omega arith)
below (negsuc n) e = refl

module _ {z : ℤ} (f : SFits w64 z) (top : ℕ) where
  module _ (h : le_z (pos 0) (to_z w64 (of_z w64 z)) ≡ true) where
    plain : to_z w64 (of_z w64 z) ≡ pos (mag z)
    plain = to_z-of_z f ∙ (above z (rw (to_z-of_z f) at h)).1

    pub plain_fits : T (non_neg (to_z w64 (of_z w64 z))) × Fits w64 (nat_abs (to_z w64 (of_z w64 z)))
    plain_fits = rw plain (tt, record { fits = omega (arith, f.sfits) })

    pub plain_is : nat_abs (to_z w64 (of_z w64 z)) ≡ uncomplemented top z
    unfolding uncomplemented
    plain_is = ap nat_abs plain ∙ sym (ap (uncomplemented top) (above z (rw (to_z-of_z f) at h)).1)

  module _ (h : le_z (pos 0) (to_z w64 (of_z w64 z)) ≡ false) where
    negative : z ≡ negsuc (mag z)
    negative = below z (rw (to_z-of_z f) at h)

    distance : negsuc 0 -ℤ to_z w64 (of_z w64 z) ≡ pos (mag z)
    distance = ap (λ (y : ℤ). negsuc 0 -ℤ y) (to_z-of_z f ∙ negative) ∙ back_above (mag z)

    pub distance_fits : SFits w64 (negsuc 0 -ℤ to_z w64 (of_z w64 z))
    distance_fits = rw distance (record { sfits = f.sfits })

    bits : to_z w64 (of_z w64 (negsuc 0 -ℤ to_z w64 (of_z w64 z))) ≡ pos (mag z)
    bits = to_z-of_z distance_fits ∙ distance

    pub distance_cast : T (non_neg (to_z w64 (of_z w64 (negsuc 0 -ℤ to_z w64 (of_z w64 z))))) × Fits w64 (nat_abs (to_z w64 (of_z w64 (negsuc 0 -ℤ to_z w64 (of_z w64 z)))))
    distance_cast = rw bits (tt, record { fits = omega (arith, f.sfits) })

    pub distance_room : mag z ≤ top → nat_abs (to_z w64 (of_z w64 (negsuc 0 -ℤ to_z w64 (of_z w64 z)))) ≤ top
    distance_room r = rw bits r

    pub complement_is : top - nat_abs (to_z w64 (of_z w64 (negsuc 0 -ℤ to_z w64 (of_z w64 z)))) ≡ uncomplemented top z
    unfolding uncomplemented
    complement_is = ap (λ (y : ℤ). top - nat_abs y) bits ∙ sym (ap (uncomplemented top) negative)

-- THE RULES' TWO'S COMPLEMENT, for 4 bytes and for 8
pub unsigned_4 : (z : ℤ) → uncomplemented 4294967295 z ≡ unsigned 4 z
unfolding uncomplemented unsigned
unsigned_4 (pos n) = refl
unsigned_4 (negsuc n) = refl

pub unsigned_8 : (z : ℤ) → uncomplemented 18446744073709551615 z ≡ unsigned 8 z
unfolding uncomplemented unsigned
unsigned_8 (pos n) = refl
unsigned_8 (negsuc n) = refl
