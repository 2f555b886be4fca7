-- `plan_service::plan` meets its contract: 16 stands before the planner's checks, and the lists have the numbers of its records (`Lent`). Assumes nothing.
use mathlib.Core.Path.{refl}
use Rattle.plan_service.proofs.Lent.{wrong_lent, plan_refuses, places, all_lent}
use Rattle.rules.specs.Plan.{month_count}
use Rattle.plan_service.proofs.plan.Goals as goal

pub returns-then-not-as_many : goal.returns-then-not-as_many
unfolding month_count
returns-then-not-as_many c = wrong_lent _ _ _ _ _ c.as_many.ensures c.if-not-as_many.true-raw

pub returns-in-Err : goal.returns-in-Err
unfolding month_count
returns-in-Err c = plan_refuses _ _ _ _ _ c.as_many.ensures c.if-not-as_many.false-raw c.plan.ensures c.in-Err.is refl

pub put_records-requires : goal.put_records-requires
unfolding month_count
put_records-requires c = places _ _ _ _ _ c.as_many.ensures c.if-not-as_many.false-raw c.plan.ensures c.in-Ok.is

pub returns-in-Ok : goal.returns-in-Ok
unfolding month_count
returns-in-Ok c = all_lent _ _ _ _ _ c.as_many.ensures c.if-not-as_many.false-raw c.plan.ensures c.in-Ok.is c.put_records.ensures
