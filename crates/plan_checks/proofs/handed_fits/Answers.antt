-- `plan_checks::handed_fits` meets its contract: each part says its checks of the whole reading (`Checking`). Assumes nothing.
use Rattle.answer.proofs.Checks.{handed}
use Rattle.plan_checks.proofs.Checking.{lists_refused, few_months, span_refused, energy_refused, curves_decide}
use Rattle.plan_checks.proofs.handed_fits.Goals as goal

pub returns-in_err-lists_fit : goal.returns-in_err-lists_fit
returns-in_err-lists_fit c = lists_refused _ _ _ _ _ _ _ c.lists_fit.ensures c.in_err-lists_fit.was (handed c.from_residual.ensures)

pub span_fits-requires : goal.span_fits-requires
span_fits-requires c = few_months c.args.e_wh c.args.a c.args.b _ _ _ _ c.lists_fit.ensures c.in_ok-lists_fit.was

pub returns-in_err-span_fits : goal.returns-in_err-span_fits
returns-in_err-span_fits c = span_refused _ _ _ _ _ _ _ c.lists_fit.ensures c.in_ok-lists_fit.was _ c.span_fits.ensures c.in_err-span_fits.was (handed c.from_residual-in_err-span_fits.ensures)

pub returns-then-e_wh : goal.returns-then-e_wh
returns-then-e_wh c = energy_refused _ _ _ _ _ _ _ c.lists_fit.ensures c.in_ok-lists_fit.was _ c.span_fits.ensures c.in_ok-span_fits.was c.if-e_wh.true

pub returns : goal.returns
returns c =
    curves_decide _ _ _ _ _ _ _ c.lists_fit.ensures c.in_ok-lists_fit.was _ c.span_fits.ensures c.in_ok-span_fits.was c.if-e_wh.false
    c.curves_fit.ensures
