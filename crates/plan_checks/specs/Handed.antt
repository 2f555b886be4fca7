-- The reading handed to the planner, and as much of it as a part of the planner looks at.
use Rattle.std.specs.Prelude.{List, [], ℕ, ◌≤◌, ◌<◌, length}
use Rattle.rules.specs.Limits.{most_months}
use Rattle.rules.specs.Plan.{LongReading, part_from, part_to}

-- the reading handed in
abbrev pub handed : ℕ → ℕ → ℕ → List ℕ → List ℕ → List ℕ → LongReading
handed e a b parties hours curves = record { e = e; a = a; b = b; parties = parties; hours = hours; curves = curves }

-- as much of it as a part looks at
abbrev pub of_parties : List ℕ → LongReading
of_parties parties = handed 0 0 0 parties [] []

abbrev pub of_span : ℕ → ℕ → List ℕ → LongReading
of_span a b hours = handed 0 a b [] hours []

abbrev pub of_curves : List ℕ → LongReading
of_curves curves = handed 0 0 0 [] [] curves

-- no part ends before it starts, and there are not too many months
pub record PartsInside (a b : ℕ) (hours : List ℕ) : Type 0 where
  pub few_months : length hours ≤ most_months
  pub forwards : (k : ℕ) → k < length hours → part_from (of_span a b hours) k ≤ part_to (of_span a b hours) k
