-- `plan_checks::lists_fit` meets its contract: each check is the next of the rule's (`Checking`). Assumes nothing.
use Rattle.answer.proofs.Checks.{handed}
use Rattle.plan_checks.proofs.Checking.{shape_refused, few, months_refused, curves_refused, parties_decide}
use Rattle.plan_checks.proofs.lists_fit.Goals as goal

pub returns-then-not-shaped : goal.returns-then-not-shaped
returns-then-not-shaped c = shape_refused _ _ _ c.shaped.ensures c.if-not-shaped.true-raw

pub returns-in_err-each_month : goal.returns-in_err-each_month
returns-in_err-each_month c = months_refused _ _ _ c.shaped.ensures c.if-not-shaped.false-raw _ c.each_month.ensures c.in_err-each_month.was (handed c.from_residual.ensures)

pub all_hours-requires : goal.all_hours-requires
all_hours-requires c = few c.args.parties.now c.args.hours.now c.args.curves.now c.shaped.ensures c.if-not-shaped.false-raw

pub returns-then-curves-all_hours : goal.returns-then-curves-all_hours
returns-then-curves-all_hours c =
    curves_refused _ _ _ c.shaped.ensures c.if-not-shaped.false-raw _ c.each_month.ensures c.in_ok-each_month.was
    c.all_hours.ensures c.if-curves-all_hours.true

pub returns : goal.returns
returns c =
    parties_decide _ _ _ c.shaped.ensures c.if-not-shaped.false-raw _ c.each_month.ensures c.in_ok-each_month.was
    c.all_hours.ensures
    c.if-curves-all_hours.false c.each_party.ensures
