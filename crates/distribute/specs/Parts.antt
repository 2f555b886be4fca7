-- The parts of one step of the carries, each as a series.
use Rattle.std.specs.Prelude.{List, ℕ, ◌+◌, ◌*◌, ◌/◌, ◌%◌, ◌<◌, ℤ, pos, ◌-ℤ◌}
use Rattle.apportion.specs.Filled.{Filled}
use Rattle.distribute.specs.declared.Divided.{Divided}
use Rattle.rules.specs.Words.{at}

-- the kept remainder and what the hour adds: remainder + share x residual
unfoldable pub grown_by : List ℕ → List ℕ → ℕ → ℕ → ℕ
grown_by remainder share residual k = at remainder k + at share k * residual

-- what the floor grows by
unfoldable pub quotient_by : List ℕ → ℕ → ℕ → ℕ
quotient_by grown w k = at grown k / w

-- the remainder that is kept
unfoldable pub rest_by : List ℕ → ℕ → ℕ → ℕ
rest_by grown w k = at grown k % w

pub record DividedBy (grown : List ℕ) (w n : ℕ) (d : Divided) : Type 0 where
  pub quotients : Filled 0 (quotient_by grown w) n d.quotient
  pub rests : Filled 0 (rest_by grown w) n d.rest

abbrev pub minus : ℕ → ℕ → ℤ
minus a b = pos a -ℤ pos b

-- the figure: what the floor grew by, with the left-over Wh of now and without that of before
unfoldable pub figure_by : List ℕ → List ℕ → List ℕ → ℕ → ℤ
figure_by quotient after before k = minus (at quotient k + at after k) (at before k)

-- the parts of a figure are small enough to be taken from one another
pub record SmallParts (quotient after before : List ℕ) (k : ℕ) : Type 0 where
  pub grown : at quotient k + at after k < 9223372036854775808
  pub had : at before k < 9223372036854775808
