-- Demand 3 (00), in its own words, as statements about the figures of `Distributed`. That they hold is proved in proofs/Demand3.
use Rattle.std.specs.Prelude.{◌⊎◌, ◌≡◌, ℕ, ◌+◌, ◌-◌, ◌*◌, ◌/◌, ◌≤◌, ◌<◌, ℤ, pos, nat_abs, ◌-ℤ◌, ◌*ℤ◌, ◌≤ℤ◌}
use Rattle.rules.specs.Distributed.{distributed_figure}
use Rattle.rules.specs.Flows.{W}
use Rattle.rules.specs.Words.{sum, sum_ℤ}

-- a party's sum of distributed figures over a run of `hours` hours that starts at hour `start`
unfoldable pub sum_over : ℕ → (ℕ → ℕ) → (ℕ → ℕ) → ℕ → ℕ → ℕ → ℤ
sum_over parties share residual start hours i = sum_ℤ hours (λ t. distributed_figure parties share residual (start + t) i)

-- its sum since the first hour, once the first `hours` hours have passed
unfoldable pub sum_since_first : ℕ → (ℕ → ℕ) → (ℕ → ℕ) → ℕ → ℕ → ℤ
sum_since_first parties share residual hours i = sum_over parties share residual 0 hours i

-- The exact share of some residual is share x residual / W: this many W-ths of a Wh.
unfoldable pub exact_share : (ℕ → ℕ) → ℕ → ℕ → ℕ
exact_share share residual i = share i * residual

unfoldable pub down : ℕ → ℕ → ℕ
down w exact = exact / w

unfoldable pub up : ℕ → ℕ → ℕ
up w exact = (exact + (w - 1)) / w

-- how far a sum is from the exact share, in W-ths of a Wh
unfoldable pub distance : ℕ → ℤ → ℕ → ℕ
distance w figure exact = nat_abs (figure *ℤ pos w -ℤ pos exact)

pub record Demand3 (parties : ℕ) (share residual : ℕ → ℕ) : Type 0 where
  -- "in every hour the parties' distributed figures add up to the residual to the Wh."
  pub adds_up_holds : (t : ℕ) → sum_ℤ parties (distributed_figure parties share residual t) ≡ pos (residual t)
  -- "After every hour each party's sum of these since the month's first hour is its exact share of the residual so far, rounded down or
  -- up to a whole Wh."
  pub rounded :
      (hours i : ℕ)
      → (sum_since_first parties share residual hours i ≡ pos (down (W parties share) (exact_share share (sum hours residual) i)))
      ⊎ (sum_since_first parties share residual hours i ≡ pos (up (W parties share) (exact_share share (sum hours residual) i)))
  -- "Over any run of hours the sum is less than 2 Wh from the exact share."
  pub near :
      (start hours i : ℕ)
      → distance (W parties share) (sum_over parties share residual start hours i)
      (exact_share share (sum hours (λ t. residual (start + t))) i)
      < 2 * W parties share
  -- "A party with a larger load share never has the smaller sum since the first hour."
  pub larger :
      (hours i j : ℕ)
      → share j < share i
      → sum_since_first parties share residual hours j ≤ℤ sum_since_first parties share residual hours i
