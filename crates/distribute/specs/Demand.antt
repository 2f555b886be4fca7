-- Demand 3 (00) of a table of figures, however it came about: `figure t i` is party i's in hour t, of so many parties and hours.
use Rattle.std.specs.Prelude.{◌⊎◌, ◌≡◌, ℕ, ◌+◌, ◌*◌, ◌≤◌, ◌<◌, ℤ, pos, ◌≤ℤ◌}
use Rattle.rules.specs.Demands.{exact_share, down, up, distance}
use Rattle.rules.specs.Flows.{W}
use Rattle.rules.specs.Words.{sum, sum_ℤ}

pub record Demand3Of (figure : ℕ → ℕ → ℤ) (parties hours : ℕ) (share residual : ℕ → ℕ) : Type 0 where
  -- "in every hour the parties' distributed figures add up to the residual to the Wh."
  pub adds_up_holds : (t : ℕ) → t < hours → sum_ℤ parties (figure t) ≡ pos (residual t)
  -- "After every hour each party's sum of these since the month's first hour is its exact share of the residual so far, rounded down or
  -- up to a whole Wh."
  pub rounded :
      (t i : ℕ)
      → t ≤ hours
      → i < parties
      → (sum_ℤ t (λ u. figure u i) ≡ pos (down (W parties share) (exact_share share (sum t residual) i)))
      ⊎ (sum_ℤ t (λ u. figure u i) ≡ pos (up (W parties share) (exact_share share (sum t residual) i)))
  -- "Over any run of hours the sum is less than 2 Wh from the exact share."
  pub near :
      (start run i : ℕ)
      → start + run ≤ hours
      → i < parties
      → distance (W parties share) (sum_ℤ run (λ u. figure (start + u) i)) (exact_share share (sum run (λ u. residual (start + u))) i)
      < 2 * W parties share
  -- "A party with a larger load share never has the smaller sum since the first hour."
  pub larger :
      (t i j : ℕ) → t ≤ hours → i < parties → j < parties → share j < share i → sum_ℤ t (λ u. figure u j) ≤ℤ sum_ℤ t (λ u. figure u i)
