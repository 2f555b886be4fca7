-- `residual_service::residual_shape` meets its contract: its tests are the checks, in their order. Assumes nothing.
use borrow.Author.Tests.{eq-eqb, ne_eqb}
use Rattle.rules.specs.Words.{within}
use Rattle.answer.proofs.Checks.{flag_off, flag_on, test_refuses, test_passes, none_left}
use Rattle.residual_service.specs.Passes.{residual_shape}
use Rattle.residual_service.proofs.residual_shape.Goals as goal

pub returns-then-lent-statuses : goal.returns-then-lent-statuses
unfolding residual_shape within
returns-then-lent-statuses c = test_refuses _ (ne_eqb _ _ c.if-lent-statuses.true)

pub returns-then-not-nets-statuses : goal.returns-then-not-nets-statuses
unfolding residual_shape within
returns-then-not-nets-statuses c = test_passes _ _ _ (eq-eqb _ _ c.if-lent-statuses.false) (test_refuses _ (flag_off _ c.if-not-nets-statuses.true-raw))

pub returns-then-not-statuses : goal.returns-then-not-statuses
unfolding residual_shape within
returns-then-not-statuses c =
    test_passes _ _ _ (eq-eqb _ _ c.if-lent-statuses.false)
    (test_passes _ _ _ (flag_on _ c.if-not-nets-statuses.false-raw) (test_refuses _ (flag_off _ c.if-not-statuses.true-raw)))

pub returns : goal.returns
unfolding residual_shape within
returns c =
    test_passes _ _ _ (eq-eqb _ _ c.if-lent-statuses.false)
    (test_passes _ _ _ (flag_on _ c.if-not-nets-statuses.false-raw) (test_passes _ _ _ (flag_on _ c.if-not-statuses.false-raw) none_left))
