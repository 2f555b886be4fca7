-- One hour's arithmetic: E x weight is at most 1,000,000,000 x 2 ^ 32, so the sum with the kept remainder is below 2 ^ 64; and as the weight is
-- part of what divides, the figure is at most E.
use Prim.Native.Nat.{ℕ, ◌+◌, ◌*◌, ◌/◌, ◌<◌, ◌≤◌, ◌^◌}
use native.Mathlib.Nat.{mul-le-mul, mul-le-mul_left, mul-le-mul_right, div-lt_iff_lt-mul}
use native.Mathlib.Omega.{arith}
use Rattle.rules.specs.Limits.{greatest_energy}
use Rattle.periodise.specs.Growth.{Turning}

module _ {e weight left divisor : ℕ} (t : Turning e weight left divisor) (small : weight < 2 ^ 32) where
  pub product_fits : e * weight ≤ greatest_energy * 2 ^ 32
  product_fits = mul-le-mul {n₂ = greatest_energy} {m₂ = 2 ^ 32} t.energy (omega arith)

  pub sum_fits : left + e * weight < 2 ^ 64
  sum_fits = omega (arith, product_fits, t.kept, t.most)

  pub figure_fits : (left + e * weight) / divisor < 2 ^ 32
  figure_fits =
      (div-lt_iff_lt-mul {k = divisor} {x = left + e * weight} {y = 2 ^ 32} (omega (arith, t.kept))).1
      (omega (arith, t.kept, mul-le-mul_left e t.inside, mul-le-mul_right divisor t.energy))
