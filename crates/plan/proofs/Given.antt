-- What the planner gives, of any result that meets its promise: as many records as months, each the one that the rules plan; so the parts add up to E and each
-- hour has its figure of one long periodisation (law `plan_kept` of the rules). And no second result fits.
use mathlib.Core.Bool.{cond}
use mathlib.Core.Path.{◌≡◌, refl, sym, ◌∙◌, ap}
use Prim.Native.Nat.{ℕ, ◌≤◌, ◌<◌}
use native.Mathlib.Omega.{arith}
use borrow.Author.Tests.{lt-ltb}
use lib.ListN.{get_or}
use Rattle.std.specs.Prelude.{Result, Ok, Err, ⊤}
use Rattle.answer.specs.Said.{said}
use Rattle.answer.specs.declared.Refused.{Refused}
use Rattle.answer.proofs.Said.{said_once}
use Rattle.plan.specs.Planning.{no_reading, record_of, entry_of}
use Rattle.plan.specs.Promised.{Promised}
use Rattle.plan.specs.declared.Planned.{Planned}
use Rattle.record.specs.Record.{reading_of}
use Rattle.rules.specs.Limits.{most_months}
use Rattle.rules.specs.Plan.{LongReading, month_count, planned_reading, handed_checks, plan_checks, PlanKept}
use Rattle.rules.specs.Refusals.{accepted, first}
use Rattle.rules.specs.Words.{figures}
use Rattle.rules.proofs.Loops.{figures_at}
use Rattle.rules.proofs.Plan.{Plannable, plannable, plan_kept}
use Rattle.rules.proofs.Refusals.{accepted_exactly, both_accept, first_append, refused_not_accepted}

module _ (r : LongReading) {planned : Result Planned Refused} (promised : Promised r planned) {p : Planned} (done : planned ≡ Ok p) where
  pub accepts : first (plan_checks r) ≡ accepted
  accepts = sym promised.answer ∙ ap said done

  able : Plannable r
  unfolding plan_checks
  able = plannable r ((accepted_exactly (handed_checks r)).0 (both_accept (first (handed_checks r)) _ (sym (first_append (handed_checks r) _) ∙ accepts)).0)

  -- as many as months, which are at most thirteen
  pub as_many : p.months ≡ month_count r
  as_many = (promised.records p done).months

  pub few_months : month_count r ≤ most_months
  few_months = able.weighed.few_months

  pub all_records : p.records ≡ figures most_months (entry_of r)
  all_records = (promised.records p done).records

  pub record_at_lem : (k : ℕ) → k < month_count r → get_or p.records k no_reading ≡ record_of r k
  unfolding entry_of
  record_at_lem k b =
      ap (λ l. get_or l k no_reading) all_records ∙ figures_at most_months (entry_of r) k no_reading (omega (arith, few_months))
      ∙ ap (λ t. cond t (record_of r k) no_reading) (lt-ltb k (month_count r) b)

  -- EACH IS THE RECORD THAT THE RULES PLAN
  pub planned_at : (k : ℕ) → k < month_count r → reading_of (get_or p.records k no_reading) ≡ planned_reading r k
  unfolding record_of planned_reading
  planned_at k b = ap reading_of (record_at_lem k b)

  -- AND WHAT W3 ASKS OF A PLAN holds of them
  pub given_kept : PlanKept r
  given_kept = plan_kept r accepts

-- no second result fits
pub plan_once : (r : LongReading) (p q : Result Planned Refused) → Promised r p → Promised r q → p ≡ q
plan_once r (Ok p) (Ok q) a b =
    let x = a.records p refl in
    let y = b.records q refl in
    ap Ok (λ i. record { months = (x.months ∙ sym y.months) i; records = (x.records ∙ sym y.records) i })
plan_once r (Ok p) (Err y) a b = absurd (refused_not_accepted (sym (a.answer ∙ sym b.answer)))
plan_once r (Err x) (Ok q) a b = absurd (refused_not_accepted (a.answer ∙ sym b.answer))
plan_once r (Err x) (Err y) a b =
    let same : ◌≡◌ {A = Result ⊤ Refused} (Err x) (Err y) = said_once (Err x) (Err y) (a.answer ∙ sym b.answer) in
    let is : x ≡ y = cc in
    ap Err is
