-- "the hour's figure is the growth" (01 "Periodised consumption"; 02, W3), told of a part of the curve: hours with a weight before them, out of the weight of the
-- whole (`periodised_figure` of the rules). What the core asks and gives.
use Rattle.std.specs.Prelude.{List, ◌≡◌, ℕ, ◌+◌, ◌*◌, ◌≤◌, ◌<◌, ◌^◌, ◌/◌, ◌%◌, length}
use Rattle.rules.specs.Limits.{greatest_energy, greatest_whole}
use Rattle.rules.specs.Periodised.{periodised_figure}
use Rattle.rules.specs.Words.{sum, at}

-- what a lent hour held already, and the growth at the part's hour that it is lent for: the k-th behind the first `skip`
unfoldable pub grown_from : List ℕ → ℕ → ℕ → ℕ → (ℕ → ℕ) → ℕ → ℕ → ℕ
grown_from old e before whole weight skip k = at old k + periodised_figure e before whole weight (skip + k)

-- Hours that a reading is spread over: E and the whole are within the paper's limits, and the hours lie inside the whole.
pub record Within (e before whole : ℕ) (weight : ℕ → ℕ) (hours : ℕ) : Type 0 where
  pub energy : e ≤ greatest_energy
  pub inside : before + sum hours weight ≤ whole
  pub most : whole ≤ greatest_whole

-- A run of a reading's part: it lies in the part, and what the hours before it weigh is told.
pub record Part (e before whole : ℕ) (part : List ℕ) (skip skipped lent : ℕ) : Type 0 where
  pub spread : Within e before whole (at part) (length part)
  pub run : skip + lent ≤ length part
  pub passed : skipped ≡ sum skip (at part)

-- One hour of it: its weight is part of what divides, the whole or 1, and what is left of the hours before is less than that.
pub record Turning (e weight left divisor : ℕ) : Type 0 where
  pub energy : e ≤ greatest_energy
  pub inside : weight ≤ divisor
  pub most : divisor ≤ greatest_whole
  pub kept : left < divisor

-- the hour's figure is the whole part, and the rest is kept for the next
pub record Turned (e weight left divisor wh rest : ℕ) : Type 0 where
  pub figure : wh ≡ (left + e * weight) / divisor
  pub keeps : rest ≡ (left + e * weight) % divisor

-- each sum of the lent hours' old figures and the growths is one of 64 bits
unfoldable pub Room : List ℕ → ℕ → ℕ → ℕ → (ℕ → ℕ) → ℕ → Type 0
Room old e before whole weight skip = (k : ℕ) → k < length old → grown_from old e before whole weight skip k < 2 ^ 64
