-- `distribute_service::distribution` meets its contract: its passes are the checks, in their order, and it writes only after the last of them. Assumes nothing.
use mathlib.Core.Path.{◌∙◌}
use Rattle.std.proofs.lemmas.List.{map-id}
use Rattle.rules.specs.Refusals.{afterwards}
use Rattle.answer.proofs.Checks.{handed, handed_refuses, pass_accepts, none_left, accepted_by, unwritten}
use Rattle.distribute_service.proofs.Passes.{in_parts, few_shares, distributable}
use Rattle.distribute_service.proofs.distribution.Goals as goal

pub returns-in_err-shape : goal.returns-in_err-shape
returns-in_err-shape c =
    let on = handed c.from_residual.ensures in
    record { answer = handed_refuses _ c.shape.ensures c.in_err-shape.was on ∙ in_parts _ _ _; contents = unwritten _ _ on }

pub returns-in_err-each_at_most : goal.returns-in_err-each_at_most
returns-in_err-each_at_most c =
    let on = handed c.from_residual-in_err-each_at_most.ensures in
    record {
      answer = pass_accepts _ c.shape.ensures c.in_ok-shape.was
          (handed_refuses _ (simp map-id at c.each_at_most.ensures) c.in_err-each_at_most.was on)
          ∙ in_parts _ _ _;
      contents = unwritten _ _ on;
    }

pub w_in_range-requires : goal.w_in_range-requires
w_in_range-requires c =
    few_shares _ c.args.residuals.now _ (accepted_by c.shape.ensures c.in_ok-shape.was)
    (accepted_by (simp map-id at c.each_at_most.ensures) c.in_ok-each_at_most.was)

pub returns-in_err-w_in_range : goal.returns-in_err-w_in_range
returns-in_err-w_in_range c =
    let on = handed c.from_residual-in_err-w_in_range.ensures in
    record {
      answer = pass_accepts _ c.shape.ensures c.in_ok-shape.was
          (pass_accepts _ (simp map-id at c.each_at_most.ensures) c.in_ok-each_at_most.was
          (handed_refuses _ c.w_in_range.ensures c.in_err-w_in_range.was on))
          ∙ in_parts _ _ _;
      contents = unwritten _ _ on;
    }

pub returns-in_err-each_at_most-2 : goal.returns-in_err-each_at_most-2
returns-in_err-each_at_most-2 c =
    let on = handed c.from_residual-in_err-each_at_most-2.ensures in
    record {
      answer = pass_accepts _ c.shape.ensures c.in_ok-shape.was
          (pass_accepts _ (simp map-id at c.each_at_most.ensures) c.in_ok-each_at_most.was
          (pass_accepts _ c.w_in_range.ensures c.in_ok-w_in_range.was
          (handed_refuses _ (simp map-id at c.each_at_most-2.ensures) c.in_err-each_at_most-2.was on)))
          ∙ in_parts _ _ _;
      contents = unwritten _ _ on;
    }

pub distribute-requires : goal.distribute-requires
distribute-requires c =
    distributable _ _ _ (accepted_by c.shape.ensures c.in_ok-shape.was)
    (accepted_by c.w_in_range.ensures c.in_ok-w_in_range.was)
    (accepted_by (simp map-id at c.each_at_most-2.ensures) c.in_ok-each_at_most-2.was)

pub returns : goal.returns
unfolding afterwards
returns c =
    record {
      answer = pass_accepts _ c.shape.ensures c.in_ok-shape.was
          (pass_accepts _ (simp map-id at c.each_at_most.ensures) c.in_ok-each_at_most.was
          (pass_accepts _ c.w_in_range.ensures c.in_ok-w_in_range.was
          (pass_accepts _ (simp map-id at c.each_at_most-2.ensures) c.in_ok-each_at_most-2.was
          none_left)))
          ∙ in_parts _ _ _;
      contents = c.distribute.ensures;
    }
