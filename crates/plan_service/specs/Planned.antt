-- The numbers of the records of a plan, as they are lent: of month k a, b, the weight before it and the weight of the whole reading.
use Rattle.std.specs.Prelude.{List, ◌≡◌, ℕ, ◌≤◌, length, get_or}
use Rattle.plan.specs.Planning.{no_reading}
use Rattle.record.specs.Record.{over_of}
use Rattle.record.specs.declared.Reading.{Reading}
use Rattle.rules.specs.Limits.{most_months}
use Rattle.rules.specs.Month.{weight_before, whole_weight}
use Rattle.rules.specs.Words.{figures}

abbrev pub record_in : List Reading → ℕ → Reading
record_in records k = get_or records k no_reading

unfoldable pub from_in : List Reading → ℕ → ℕ
from_in records k = (record_in records k).a

unfoldable pub to_in : List Reading → ℕ → ℕ
to_in records k = (record_in records k).b

unfoldable pub before_in : List Reading → ℕ → ℕ
before_in records k = weight_before (over_of (record_in records k).over)

unfoldable pub whole_in : List Reading → ℕ → ℕ
whole_in records k = whole_weight (over_of (record_in records k).over) 0

-- four lists with a place for each of n months
pub record PlacesFor (n : ℕ) (from to before whole : List ℕ) : Type 0 where
  pub few : n ≤ most_months
  pub places_from : length from ≡ n
  pub places_to : length to ≡ n
  pub places_before : length before ≡ n
  pub places_whole : length whole ≡ n

-- and the numbers of n records in them
pub record NumbersOf (records : List Reading) (n : ℕ) (from to before whole : List ℕ) : Type 0 where
  pub froms : from ≡ figures n (from_in records)
  pub tos : to ≡ figures n (to_in records)
  pub befores : before ≡ figures n (before_in records)
  pub wholes : whole ≡ figures n (whole_in records)
