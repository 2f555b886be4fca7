-- Laws of the flows: what "rounded down" says of a curve number.
use Prim.Native.Nat.{ℕ, ◌+◌, ◌*◌, ◌≤◌, ◌<◌}
use native.Mathlib.Nat.{div-mul-le_self, lt-div-mul-add}
use Rattle.rules.specs.Flows.{curve_number}

-- a curve number is at most residual x 1,000,000 / W, and one more would be above it
pub curve_rounded_down :
    (fixed w : ℕ) → 0 < w → (curve_number fixed w * w ≤ fixed * 1000000) × (fixed * 1000000 < curve_number fixed w * w + w)
unfolding curve_number
curve_rounded_down fixed w some = (div-mul-le_self (fixed * 1000000) w, lt-div-mul-add some)
