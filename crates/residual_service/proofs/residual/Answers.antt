-- `residual_service::residual` meets its contract: its passes are the checks, in their order, and it writes only after the last of them (`InTurn`). Assumes
-- nothing.
use Rattle.residual_service.proofs.InTurn.{as_long, all_ranged, all_judged, shape_refuses, ranges_refuse, silent_refuses, hours_refuse, all_written}
use Rattle.residual_service.proofs.Hours.{shape_lent}
use Rattle.answer.proofs.Checks.{handed, accepted_by}
use Rattle.residual_service.proofs.residual.Goals as goal

pub returns-in_err-residual_shape : goal.returns-in_err-residual_shape
returns-in_err-residual_shape c = shape_refuses _ _ _ _ _ _ c.residual_shape.ensures c.in_err-residual_shape.was (handed c.from_residual.ensures)

pub returns-in_err-flows_in_range : goal.returns-in_err-flows_in_range
returns-in_err-flows_in_range c = ranges_refuse _ _ _ _ _ _ c.residual_shape.ensures c.in_ok-residual_shape.was c.flows_in_range.ensures c.in_err-flows_in_range.was (handed c.from_residual-in_err-flows_in_range.ensures)

pub silent_hours-requires : goal.silent_hours-requires
silent_hours-requires c = as_long _ _ _ _ _ _ c.residual_shape.ensures c.in_ok-residual_shape.was

pub returns-in_err-silent_hours : goal.returns-in_err-silent_hours
returns-in_err-silent_hours c =
    silent_refuses _ _ _ _ _ _ c.residual_shape.ensures c.in_ok-residual_shape.was c.flows_in_range.ensures c.in_ok-flows_in_range.was
    c.silent_hours.ensures c.in_err-silent_hours.was (handed c.from_residual-in_err-silent_hours.ensures)

pub judge_hours-requires : goal.judge_hours-requires
judge_hours-requires c = all_ranged _ _ _ _ _ _ c.residual_shape.ensures c.in_ok-residual_shape.was c.flows_in_range.ensures c.in_ok-flows_in_range.was

pub returns-in_err-judge_hours : goal.returns-in_err-judge_hours
returns-in_err-judge_hours c =
    hours_refuse _ _ _ _ _ _ c.residual_shape.ensures c.in_ok-residual_shape.was c.flows_in_range.ensures c.in_ok-flows_in_range.was
    c.silent_hours.ensures c.in_ok-silent_hours.was c.judge_hours.ensures c.in_err-judge_hours.was (handed c.from_residual-in_err-judge_hours.ensures)

pub write_residuals-requires : goal.write_residuals-requires
write_residuals-requires c =
    record {
      judged = all_judged _ _ _ _ _ _ c.residual_shape.ensures c.in_ok-residual_shape.was c.flows_in_range.ensures c.in_ok-flows_in_range.was
          c.judge_hours.ensures c.in_ok-judge_hours.was;
      out_len = shape_lent _ _ _ _ _ _ (accepted_by c.residual_shape.ensures c.in_ok-residual_shape.was);
    }

pub returns : goal.returns
returns c =
    all_written _ _ _ _ _ _ c.residual_shape.ensures c.in_ok-residual_shape.was c.flows_in_range.ensures c.in_ok-flows_in_range.was
    c.silent_hours.ensures c.in_ok-silent_hours.was c.judge_hours.ensures c.in_ok-judge_hours.was
    c.write_residuals.ensures
