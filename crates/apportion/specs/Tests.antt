-- The tests of the largest-remainder rule, as numbers that are added up.
use Rattle.std.specs.Prelude.{Bool, cond, ◌&&◌, ◌||◌, ℕ, eqb, ltb}

-- whether a is below b, and whether they are the same
abbrev pub below_number : ℕ → ℕ → ℕ
below_number a b = cond (ltb a b) 1 0

abbrev pub same_number : ℕ → ℕ → ℕ
same_number a b = cond (eqb a b) 1 0

-- the tie-break as a number, of two remainders and whether the other's number is the lower
abbrev pub before_number : ℕ → ℕ → Bool → ℕ
before_number other own lower = cond (ltb own other || (eqb other own && lower)) 1 0
