-- `residual_service::silent_hours` meets its contract: what is left of the lists says what the whole says. Assumes nothing.
use mathlib.Core.Bool.{not}
use mathlib.Core.Path.{sym, ap}
use native.Mathlib.Omega.{arith}
use borrow.Author.Rules.{rules}
use lib.IntN.{pos}
use lib.ListN.{get_or}
use mir.Facts.{to_z-of_z}
use mir.Syntax.{w64}
use mir.Val.{SFits}
use Rattle.rules.specs.Services.{at_ℤ, silent_check}
use Rattle.rules.specs.Words.{at}
use Rattle.rules.proofs.Loops.{look_start, look_pass, look_stop, look_end}
use Rattle.answer.proofs.Checks.{passes, stops}
use Rattle.residual_service.proofs.Hours.{silent_said}
use Rattle.residual_service.proofs.silent_hours.Goals as goal

pub loop-t-init : goal.loop-t-init
loop-t-init c = look_start _ _

pub returns-then-not-silent_is_zero : goal.returns-then-not-silent_is_zero
unfolding silent_check at at_ℤ
returns-then-not-silent_is_zero c =
    let f : SFits w64 (get_or c.args.nets.now c.loop-t.t (pos 0)) = search rules in
    sym
    (look_stop c.loop-t.invariant (omega arith)
    (stops _ _ (silent_said c.args.statuses.now c.args.nets.now c.args.productions.now c.args.hourlies.now c.args.flexes.now _ (to_z-of_z f) c.silent_is_zero.ensures)
    (ap not c.if-not-silent_is_zero.true)))

pub loop-t-preserved : goal.loop-t-preserved
unfolding silent_check at at_ℤ
loop-t-preserved c =
    let f : SFits w64 (get_or c.args.nets.now c.loop-t.t (pos 0)) = search rules in
    look_pass c.loop-t.invariant (omega arith)
    (passes _ _ (silent_said c.args.statuses.now c.args.nets.now c.args.productions.now c.args.hourlies.now c.args.flexes.now _ (to_z-of_z f) c.silent_is_zero.ensures)
    (ap not c.if-not-silent_is_zero.false))

pub returns : goal.returns
returns c = sym (look_end c.loop-t.invariant (omega arith))
