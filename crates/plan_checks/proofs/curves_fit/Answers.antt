-- `plan_checks::curves_fit` meets its contract: whatever the place of the first number that is too large, it is refused at place 0. Assumes nothing.
use mathlib.Core.Path.{sym, ◌∙◌, ap}
use Rattle.std.proofs.lemmas.List.{map-id}
use Rattle.plan_checks.proofs.Checking.{weights_pass, weights_refused}
use Rattle.answer.specs.Said.{said}
use Rattle.plan_checks.proofs.curves_fit.Goals as goal

pub returns-in_default : goal.returns-in_default
returns-in_default c = weights_refused _ (sym (simp map-id at c.each_at_most-each.ensures) ∙ ap said c.in_default.is)

pub returns : goal.returns
returns c = weights_pass _ (sym (simp map-id at c.each_at_most-each.ensures) ∙ ap said c.in-Ok.is)
