-- `month_prepare::both_series` meets its contract: the fixed hours decide first, then the refixed ones. Assumes nothing.
use native.Mathlib.Nat.{pos_of_ne-zero}
use Rattle.answer.proofs.Checks.{handed}
use Rattle.month_prepare.proofs.Hours.{fixed_refused, refixed_refused, fixed_applied, refixed_applied}
use Rattle.month_prepare.proofs.both_series.Goals as goal

pub returns-in_err-in_fixed : goal.returns-in_err-in_fixed
returns-in_err-in_fixed c = fixed_refused _ _ c.requires.accepted c.hours.ensures c.in_err-in_fixed.was (handed c.from_residual.ensures) _

pub returns-in_err-in_refixed : goal.returns-in_err-in_refixed
returns-in_err-in_refixed c =
    refixed_refused _ _ c.requires.accepted c.hours.ensures c.in_ok-in_fixed.was c.hours-2.ensures
    c.in_err-in_refixed.was (handed c.from_residual-in_err-in_refixed.ensures)

pub returns-then-s-eq0 : goal.returns-then-s-eq0
returns-then-s-eq0 c =
    fixed_applied _ _ c.requires.accepted c.hours.ensures c.in_ok-in_fixed.was c.hours-2.ensures
    c.in_ok-in_refixed.was c.if-s-eq0.true

pub returns : goal.returns
returns c =
    refixed_applied _ _ c.requires.accepted c.hours.ensures c.in_ok-in_fixed.was c.hours-2.ensures
    c.in_ok-in_refixed.was (pos_of_ne-zero c.if-s-eq0.false)
