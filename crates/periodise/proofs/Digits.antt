-- A product by digits: the part of it that the modulus divides counts for nothing, so the high digit's product may be taken by its remainder. Then
-- each step is below 2 ^ 64.
use mathlib.Core.Path.{◌≡◌, sym, ◌∙◌, ap}
use Prim.Native.Nat.{ℕ, ◌+◌, ◌*◌, ◌/◌, ◌%◌, ◌<◌, ◌≤◌, ◌^◌}
use native.Mathlib.Nat.{div-add-mod', mul-add-mod_self_right, mul-le-mul, mod-lt}
use native.Mathlib.Omega.{arith}
use Rattle.rules.specs.Limits.{greatest_energy, greatest_whole}

pub by_digits : (a high low digit m : ℕ) → (a * high % m * digit + a * low) % m ≡ a * (high * digit + low) % m
by_digits a high low digit m =
    let e : a * (high * digit + low) ≡ a * high / m * digit * m + (a * high % m * digit + a * low) = omega (arith, ap (λ (x : ℕ). x * digit) (div-add-mod' (a * high) m)) in
    rw e (sym (mul-add-mod_self_right (a * high / m * digit) m (a * high % m * digit + a * low)))

module _ (a b m : ℕ) where
  -- two digits of 20 bits
  pub product_is : (a * (b / 1048576) % m * 1048576 + a * (b % 1048576)) % m ≡ a * b % m
  product_is = by_digits a (b / 1048576) (b % 1048576) 1048576 m ∙ ap (λ (x : ℕ). a * x % m) (div-add-mod' b 1048576)

  module _ (pa : a ≤ greatest_energy) (pb : b ≤ greatest_whole) where
    pub high_fits : a * (b / 1048576) ≤ greatest_energy * 8400000
    high_fits = mul-le-mul {n₂ = greatest_energy} {m₂ = 8400000} pa (omega arith)

    pub low_fits : a * (b % 1048576) ≤ greatest_energy * 1048576
    low_fits = mul-le-mul {n₂ = greatest_energy} {m₂ = 1048576} pa (omega arith)

    module _ (some : 0 < m) (pm : m ≤ greatest_whole) where
      pub both_fit : a * (b / 1048576) % m * 1048576 + a * (b % 1048576) < 2 ^ 64
      both_fit = omega (arith, low_fits, mod-lt (a * (b / 1048576)) some)
