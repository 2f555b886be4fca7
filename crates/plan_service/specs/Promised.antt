-- THE PROMISE of `plan`, of its answer and the four lent lists: its `ensures` cites it, and so does what is proved of every service (`every_service`).
use Rattle.std.specs.Prelude.{List, ◌≡◌, ℕ, length, Result, ⊤}
use Rattle.answer.specs.Said.{said}
use Rattle.answer.specs.declared.Refused.{Refused}
use Rattle.rules.specs.Plan.{LongReading, month_count, part_from, part_to, planned_before, planned_whole, lent_plan_checks}
use Rattle.rules.specs.Refusals.{Verdict, first, afterwards}
use Rattle.rules.specs.Words.{figures}

-- what the checks say of a reading to be planned, with the four lists that are lent
abbrev pub plan_verdict : LongReading → List ℕ → List ℕ → List ℕ → List ℕ → Verdict
plan_verdict r from to before whole = first (lent_plan_checks r (length from) (length to) (length before) (length whole))

-- the weight of the whole reading, which every record has
abbrev pub whole_of_each : LongReading → ℕ → ℕ
whole_of_each r k = planned_whole r

pub record Promised (r : LongReading) (from to before whole : List ℕ) (a : Result ⊤ Refused) (from' to' before' whole' : List ℕ) : Type 0 where
  pub answer : said a ≡ plan_verdict r from to before whole
  pub holds_from : from' ≡ afterwards (said a) (figures (month_count r) (part_from r)) from
  pub holds_to : to' ≡ afterwards (said a) (figures (month_count r) (part_to r)) to
  pub holds_before : before' ≡ afterwards (said a) (figures (month_count r) (planned_before r)) before
  pub holds_whole : whole' ≡ afterwards (said a) (figures (month_count r) (whole_of_each r)) whole
