-- What makes the records takes and gives: the reading without its parties and E, and its records as the code has them.
use Rattle.std.specs.Prelude.{cond, List, [], ◌≡◌, ℕ, ltb, length}
use Rattle.plan_checks.specs.Handed.{handed}
use Rattle.record.specs.declared.Over.TheVariants.{ThisMonth, ManyMonths}
use Rattle.record.specs.declared.Reading.{Reading}
use Rattle.rules.proofs.Plan.{Weighed}
use Rattle.rules.specs.Plan.{LongReading, month_count, part_from, part_to, planned_before, planned_whole}
use Rattle.rules.specs.Words.{at}

-- as much of the reading as its weight is made of
abbrev pub of_all : ℕ → ℕ → List ℕ → List ℕ → LongReading
of_all a b hours curves = handed 0 a b [] hours curves

-- what the records are made of
pub record MakingAsked (r : LongReading) (whole : ℕ) : Type 0 where
  pub weighed : Weighed r
  pub as_many_parties : length r.parties ≡ month_count r
  pub whole_is : whole ≡ planned_whole r

-- no reading, which stands behind the records
abbrev pub no_reading : Reading
no_reading = record { party = 0; a = 0; b = 0; e_wh = 0; over = ThisMonth }

-- THE RECORD of month k: `planned_reading` of the rules
unfoldable pub record_of : LongReading → ℕ → Reading
record_of r k =
    record { party = at r.parties k; a = part_from r k; b = part_to r k; e_wh = r.e; over = ManyMonths (planned_before r k) (planned_whole r) }

-- THE PLAN: those of the months, and no reading behind them
unfoldable pub entry_of : LongReading → ℕ → Reading
entry_of r k = cond (ltb k (month_count r)) (record_of r k) no_reading
