-- `residual_service::judge_hours` meets its contract: what is left of the hours says what the whole says. Assumes nothing.
use mathlib.Core.Path.{sym, ◌∙◌, ap}
use native.Mathlib.Omega.{arith}
use borrow.Author.Rules.{rules}
use mir.Facts.{to_z-of_z}
use mir.Syntax.{w64}
use mir.Val.{SFits}
use Rattle.answer.specs.Said.{said}
use Rattle.answer.proofs.Checks.{handed}
use Rattle.rules.specs.Words.{at}
use Rattle.rules.proofs.Loops.{look_start, look_pass, look_stop, look_end}
use Rattle.residual_service.proofs.Hours.{within_limits, hour_said}
use Rattle.residual_service.proofs.judge_hours.Goals as goal

pub loop-t-init : goal.loop-t-init
loop-t-init c = look_start _ _

pub residual_at-wh-requires : goal.residual_at-wh-requires
residual_at-wh-requires c = within_limits _ _ _ _ _ c.requires _ (omega arith)

pub returns-in_err-answer_of : goal.returns-in_err-answer_of
unfolding at
returns-in_err-answer_of c =
    let f : SFits w64 c.residual_at-wh.result = search rules in
    let here = hour_said c.args.statuses.now _ _ _ _ _ c.judge-hour.result c.answer_of.result c.residual_at-wh.ensures (to_z-of_z f) c.judge-hour.ensures c.answer_of.ensures in
    ap said (handed c.from_residual.ensures) ∙ sym (look_stop c.loop-t.invariant (omega arith) (sym here ∙ ap said c.in_err-answer_of.was))

pub loop-t-preserved : goal.loop-t-preserved
unfolding at
loop-t-preserved c =
    let f : SFits w64 c.residual_at-wh.result = search rules in
    let here = hour_said c.args.statuses.now _ _ _ _ _ c.judge-hour.result c.answer_of.result c.residual_at-wh.ensures (to_z-of_z f) c.judge-hour.ensures c.answer_of.ensures in
    look_pass c.loop-t.invariant (omega arith) (sym here ∙ ap said c.in_ok-answer_of.was)

pub returns : goal.returns
returns c = sym (look_end c.loop-t.invariant (omega arith))
