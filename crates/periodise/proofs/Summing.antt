-- What a loop that adds up figures of 32 bits keeps besides their sum: it is below 2 ^ 32 for each, so that no sum of 2 ^ 32 of them leaves 64 bits.
use mathlib.Core.List.{List}
use mathlib.Core.Path.{◌≡◌, refl}
use Prim.Native.Nat.{ℕ, ◌+◌, ◌*◌, ◌≤◌, ◌<◌, ◌^◌, zero-le}
use native.Mathlib.Omega.{arith}
use mir.Syntax.{w32}
use mir.Val.{Fits}
use lib.ListN.{length, get_or}
use Rattle.rules.specs.Words.{sum, at}
use Rattle.rules.proofs.Sums.{Adding, add_start, add_next, add_end}

pub record Summing (values : List ℕ) (so_far i : ℕ) : Type 0 where
  pub adding : Adding (at values) (length values) so_far i
  pub small : so_far ≤ i * 4294967295

pub sum_start : (values : List ℕ) → Summing values 0 0
sum_start values = record { adding = add_start (at values) (length values); small = zero-le }

module _ {values : List ℕ} {so_far i : ℕ} (s : Summing values so_far i) where
  pub sum_fits : length values ≤ 4294967296 → i < length values → Fits w32 (get_or values i 0) → so_far + get_or values i 0 < 2 ^ 64
  sum_fits few b h = omega (arith, s.small)

  pub sum_next : i < length values → Fits w32 (get_or values i 0) → Summing values (so_far + get_or values i 0) (i + 1)
  unfolding at
  sum_next b h = record { adding = add_next s.adding b refl; small = omega (arith, s.small) }

  pub sum_end : length values ≤ i → so_far ≡ sum (length values) (at values)
  sum_end b = add_end s.adding b
