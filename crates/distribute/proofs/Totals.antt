-- A difference of two small numbers as the machine takes it.
use mathlib.Core.Path.{◌≡◌, ◌∙◌, ap₂}
use Prim.Native.Nat.{ℕ, ◌≤◌, ◌<◌}
use native.Mathlib.Omega.{arith}
use lib.IntN.{ℤ, pos, negsuc, nat_abs, ◌-ℤ◌}
use lib.Signed.{mag}
use mir.Facts.{to_z-of_z, to_z_pos}
use mir.Syntax.{w64}
use mir.Val.{SFits, to_z, of_z}
use Rattle.rules.proofs.Integers.{minus_near}

mag_small : (z : ℤ) → mag z ≤ nat_abs z
mag_small (pos n) = omega arith
mag_small (negsuc n) = omega arith

minus_fits : (a b : ℕ) → a < 9223372036854775808 → b < 9223372036854775808 → SFits w64 (pos a -ℤ pos b)
minus_fits a b h k =
    record { sfits = omega (arith, mag_small (pos a -ℤ pos b), minus_near a b 9223372036854775808 (omega arith) (omega arith)) }

pub machine_minus_fits : (a b : ℕ) → a < 9223372036854775808 → b < 9223372036854775808 → SFits w64 (to_z w64 a -ℤ to_z w64 b)
machine_minus_fits a b h k = rw (to_z_pos w64 {n = a} h, to_z_pos w64 {n = b} k) (minus_fits a b h k)

pub machine_minus_is : (a b : ℕ) → a < 9223372036854775808 → b < 9223372036854775808 → to_z w64 (of_z w64 (to_z w64 a -ℤ to_z w64 b)) ≡ pos a -ℤ pos b
machine_minus_is a b h k =
    to_z-of_z (machine_minus_fits a b h k) ∙ ap₂ (λ (x y : ℤ). x -ℤ y) (to_z_pos w64 {n = a} h) (to_z_pos w64 {n = b} k)
