-- `curve_numbers::curve_shape` meets its contract: its tests are the checks, in their order. Assumes nothing.
use borrow.Author.Tests.{eq-eqb, ne_eqb}
use Rattle.rules.specs.Words.{within}
use Rattle.answer.proofs.Checks.{flag_off, flag_on, test_refuses, test_passes, none_left}
use Rattle.curve_numbers.specs.Passes.{curve_shape}
use Rattle.curve_numbers.proofs.curve_shape.Goals as goal

pub returns-then-lent-hours : goal.returns-then-lent-hours
unfolding curve_shape within
returns-then-lent-hours c = test_refuses _ (ne_eqb _ _ c.if-lent-hours.true)

pub returns-then-not-hours : goal.returns-then-not-hours
unfolding curve_shape within
returns-then-not-hours c = test_passes _ _ _ (eq-eqb _ _ c.if-lent-hours.false) (test_refuses _ (flag_off _ c.if-not-hours.true-raw))

pub returns-then-not-w : goal.returns-then-not-w
unfolding curve_shape within
returns-then-not-w c =
    test_passes _ _ _ (eq-eqb _ _ c.if-lent-hours.false)
    (test_passes _ _ _ (flag_on _ c.if-not-hours.false-raw) (test_refuses _ (flag_off _ c.if-not-w.true-raw)))

pub returns : goal.returns
unfolding curve_shape within
returns c =
    test_passes _ _ _ (eq-eqb _ _ c.if-lent-hours.false)
    (test_passes _ _ _ (flag_on _ c.if-not-hours.false-raw) (test_passes _ _ _ (flag_on _ c.if-not-w.false-raw) none_left))
