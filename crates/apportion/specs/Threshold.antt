-- Who has one of what is left over, told by a place in the order of the remainders: a value, the threshold, such that who has more has one and who has less has
-- none, and a number, the cut, below which who has just that value has one too. "go one each to the parties with the largest remainders ..; of equal remainders
-- the lower party number comes first" (01, Distributed consumption); the sentence itself is the rules' `one_each`.
use Rattle.std.specs.Prelude.{ℕ, ◌≤◌, ◌<◌, eqb, ltb}
use Rattle.rules.specs.Words.{count}

-- how many of the first n have more than v
unfoldable pub how_many_above : ℕ → (ℕ → ℕ) → ℕ → ℕ
how_many_above n rest v = count n (λ j. ltb v (rest j))

-- how many of the first n have just v
unfoldable pub how_many_at : ℕ → (ℕ → ℕ) → ℕ → ℕ
how_many_at n rest v = count n (λ j. eqb (rest j) v)

-- at most `left` of the n have more than v, and at least `left` have more than any smaller value
pub record Threshold (n : ℕ) (rest : ℕ → ℕ) (left v : ℕ) : Type 0 where
  pub few : how_many_above n rest v ≤ left
  pub enough : (u : ℕ) → u < v → left ≤ how_many_above n rest u

-- the first `spare` of those that have just v, and no others of them, have a number below the cut
pub record Cut (n : ℕ) (rest : ℕ → ℕ) (v spare cut : ℕ) : Type 0 where
  pub within : (i : ℕ) → i < cut → how_many_at i rest v < spare
  pub past : (i : ℕ) → cut ≤ i → i < n → spare ≤ how_many_at i rest v
