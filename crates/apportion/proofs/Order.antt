-- The tie-break as the code tests it: a test for each order of two remainders.
use mathlib.Core.Bool.{Bool, cond}
use mathlib.Core.Path.{◌≡◌}
use Prim.Native.Nat.{ℕ, ◌≤◌, ◌<◌}
use native.Mathlib.Nat.{le_antisymm, le_of_lt}
use native.Mathlib.Omega.{arith}
use borrow.Author.Tests.{lt-ltb, le-ltb, eq-eqb, ne_eqb}
use Rattle.apportion.specs.Tests.{before_number}

pub larger_first : (other own : ℕ) (lower : Bool) → own < other → before_number other own lower ≡ 1
larger_first other own lower h = rw (lt-ltb own other h)

pub smaller_later : (other own : ℕ) (lower : Bool) → other < own → before_number other own lower ≡ 0
smaller_later other own lower h = rw (le-ltb own other (le_of_lt h), ne_eqb other own (λ e. omega arith))

pub equal_by_number : (other own : ℕ) (lower : Bool) → other ≤ own → own ≤ other → before_number other own lower ≡ cond lower 1 0
equal_by_number other own lower h k = rw (le-ltb own other h, eq-eqb other own (le_antisymm h k))
