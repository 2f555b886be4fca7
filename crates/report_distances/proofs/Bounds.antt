-- Sizes of what a distance is made of.
use Prim.Native.Nat.{ℕ, ◌*◌, ◌≤◌}
use native.Mathlib.Nat.{mul-le-mul_right}
use native.Mathlib.Omega.{arith}
use Rattle.report_distances.specs.Extremes.{Near}

-- one Wh at most
pub at_most_w : {extra remainder w : ℕ} → Near extra remainder w → extra * w ≤ w
at_most_w {extra} {remainder} {w} near = omega (arith, mul-le-mul_right w near.one)
