-- THE PROMISE of `plan`: its `ensures` cites it, and so does what is proved of every service (`every_service`).
use Rattle.std.specs.Prelude.{Result, Ok, ◌≡◌}
use Rattle.answer.specs.Said.{said}
use Rattle.answer.specs.declared.Refused.{Refused}
use Rattle.plan.specs.Planning.{entry_of}
use Rattle.plan.specs.declared.Planned.{Planned}
use Rattle.rules.specs.Limits.{most_months}
use Rattle.rules.specs.Plan.{LongReading, month_count, plan_checks}
use Rattle.rules.specs.Refusals.{first}
use Rattle.rules.specs.Words.{figures}

-- what is given: the records of the months, and all thirteen places
pub record RecordsOf (r : LongReading) (p : Planned) : Type 0 where
  pub months : p.months ≡ month_count r
  pub records : p.records ≡ figures most_months (entry_of r)

-- the first check that refuses, or the records of an accepted reading
pub record Promised (r : LongReading) (planned : Result Planned Refused) : Type 0 where
  pub answer : said planned ≡ first (plan_checks r)
  pub records : (p : Planned) → planned ≡ Ok p → RecordsOf r p
