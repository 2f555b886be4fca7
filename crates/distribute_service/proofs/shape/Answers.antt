-- `distribute_service::shape` meets its contract: its tests are the checks, in their order. Assumes nothing.
use mathlib.Core.Path.{sym, ◌∙◌}
use borrow.Author.Rules.{rules}
use Rattle.answer.proofs.Checks.{flag_off, flag_on, test_refuses, test_passes, none_left}
use Rattle.distribute_service.specs.Service.{shape_verdict}
use Rattle.rules.specs.Words.{within}
use Rattle.distribute_service.proofs.shape.Goals as goal

pub returns-then-not-lent_right : goal.returns-then-not-lent_right
unfolding shape_verdict
returns-then-not-lent_right c = test_refuses _ (sym c.lent_right.ensures ∙ flag_off _ (search rules))

pub returns-then-not-hours-parties : goal.returns-then-not-hours-parties
unfolding shape_verdict within
returns-then-not-hours-parties c =
    test_passes _ _ _ (sym c.lent_right.ensures ∙ flag_on _ (search rules))
    (test_refuses _ (flag_off _ (search rules)))

pub returns : goal.returns
unfolding shape_verdict within
returns c =
    test_passes _ _ _ (sym c.lent_right.ensures ∙ flag_on _ (search rules))
    (test_passes _ _ _ (flag_on _ (search rules)) none_left)
