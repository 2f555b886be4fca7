-- `residual_service::flows_in_range` meets its contract: five passes, one after the other. Assumes nothing.
use mathlib.Core.Path.{◌∙◌}
use Rattle.std.proofs.lemmas.List.{map-id}
use Rattle.answer.proofs.Checks.{handed, handed_refuses, pass_accepts, last_check}
use Rattle.answer.specs.Ranges.{between_ℤ}
use Rattle.rules.specs.Words.{within_ℤ}
use Rattle.residual_service.specs.Passes.{ranges_of}
use Rattle.residual_service.proofs.flows_in_range.Goals as goal

pub returns-in_err-statuses_in_range : goal.returns-in_err-statuses_in_range
unfolding ranges_of
returns-in_err-statuses_in_range c = handed_refuses _ c.statuses_in_range.ensures c.in_err-statuses_in_range.was (handed c.from_residual.ensures)

pub returns-in_err-each_within_i64 : goal.returns-in_err-each_within_i64
unfolding ranges_of within_ℤ between_ℤ
returns-in_err-each_within_i64 c =
    pass_accepts _ c.statuses_in_range.ensures c.in_ok-statuses_in_range.was
    (handed_refuses _ c.each_within_i64.ensures c.in_err-each_within_i64.was (handed c.from_residual-in_err-each_within_i64.ensures))

pub returns-in_err-each_at_most : goal.returns-in_err-each_at_most
unfolding ranges_of within_ℤ between_ℤ
returns-in_err-each_at_most c =
    pass_accepts _ c.statuses_in_range.ensures c.in_ok-statuses_in_range.was
    (pass_accepts _ c.each_within_i64.ensures c.in_ok-each_within_i64.was
    (handed_refuses _ (simp map-id at c.each_at_most.ensures) c.in_err-each_at_most.was (handed c.from_residual-in_err-each_at_most.ensures)))

pub returns-in_err-each_at_most-2 : goal.returns-in_err-each_at_most-2
unfolding ranges_of within_ℤ between_ℤ
returns-in_err-each_at_most-2 c =
    pass_accepts _ c.statuses_in_range.ensures c.in_ok-statuses_in_range.was
    (pass_accepts _ c.each_within_i64.ensures c.in_ok-each_within_i64.was
    (pass_accepts _ (simp map-id at c.each_at_most.ensures) c.in_ok-each_at_most.was
    (handed_refuses _ (simp map-id at c.each_at_most-2.ensures) c.in_err-each_at_most-2.was (handed c.from_residual-in_err-each_at_most-2.ensures))))

pub returns : goal.returns
unfolding ranges_of within_ℤ between_ℤ
returns c =
    pass_accepts _ c.statuses_in_range.ensures c.in_ok-statuses_in_range.was
    (pass_accepts _ c.each_within_i64.ensures c.in_ok-each_within_i64.was
    (pass_accepts _ (simp map-id at c.each_at_most.ensures) c.in_ok-each_at_most.was
    (pass_accepts _ (simp map-id at c.each_at_most-2.ensures) c.in_ok-each_at_most-2.was
    ((simp map-id at c.each_at_most-3.ensures) ∙ last_check _))))
