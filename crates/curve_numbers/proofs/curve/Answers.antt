-- `curve_numbers::curve` meets its contract: its passes are the checks, in their order, and it writes only after the last of them. Assumes nothing.
use mathlib.Core.Path.{◌∙◌}
use Rattle.std.proofs.lemmas.List.{map-id}
use Rattle.rules.specs.Refusals.{afterwards}
use Rattle.answer.proofs.Checks.{handed, handed_refuses, pass_accepts, none_left, accepted_by, unwritten}
use Rattle.curve_numbers.proofs.Checking.{in_parts, shape_lent, shape_w}
use Rattle.curve_numbers.proofs.curve.Goals as goal

pub returns-in_err-curve_shape : goal.returns-in_err-curve_shape
returns-in_err-curve_shape c =
    let on = handed c.from_residual.ensures in
    record { answer = handed_refuses _ c.curve_shape.ensures c.in_err-curve_shape.was on ∙ in_parts _ _ _; contents = unwritten _ _ on }

pub returns-in_err-each_at_most : goal.returns-in_err-each_at_most
returns-in_err-each_at_most c =
    let on = handed c.from_residual-in_err-each_at_most.ensures in
    record {
      answer = pass_accepts _ c.curve_shape.ensures c.in_ok-curve_shape.was
          (handed_refuses _ (simp map-id at c.each_at_most.ensures) c.in_err-each_at_most.was on)
          ∙ in_parts _ _ _;
      contents = unwritten _ _ on;
    }

pub curve_numbers_fit-requires : goal.curve_numbers_fit-requires
curve_numbers_fit-requires c = shape_w _ _ _ (accepted_by c.curve_shape.ensures c.in_ok-curve_shape.was)

pub returns-in_err-curve_numbers_fit : goal.returns-in_err-curve_numbers_fit
returns-in_err-curve_numbers_fit c =
    let on = handed c.from_residual-in_err-curve_numbers_fit.ensures in
    record {
      answer = pass_accepts _ c.curve_shape.ensures c.in_ok-curve_shape.was
          (pass_accepts _ (simp map-id at c.each_at_most.ensures) c.in_ok-each_at_most.was
          (handed_refuses _ c.curve_numbers_fit.ensures c.in_err-curve_numbers_fit.was on))
          ∙ in_parts _ _ _;
      contents = unwritten _ _ on;
    }

pub write_curve-requires : goal.write_curve-requires
write_curve-requires c =
    record {
      curve_ready = record {
        some = shape_w _ _ _ (accepted_by c.curve_shape.ensures c.in_ok-curve_shape.was);
        fitting = accepted_by c.curve_numbers_fit.ensures c.in_ok-curve_numbers_fit.was;
      };
      out_len = shape_lent _ _ _ (accepted_by c.curve_shape.ensures c.in_ok-curve_shape.was);
    }

pub returns : goal.returns
unfolding afterwards
returns c =
    record {
      answer = pass_accepts _ c.curve_shape.ensures c.in_ok-curve_shape.was
          (pass_accepts _ (simp map-id at c.each_at_most.ensures) c.in_ok-each_at_most.was
          (pass_accepts _ c.curve_numbers_fit.ensures c.in_ok-curve_numbers_fit.was
          none_left))
          ∙ in_parts _ _ _;
      contents = c.write_curve.ensures;
    }
