-- `month_run::asked` meets its contract, exit by exit. Assumes nothing.
use mathlib.Core.Path.{sym, ◌∙◌}
use borrow.Author.Tests.{not-true, not-false}
use Rattle.month_run.proofs.Verdicts.{product_fits, outside, wrong_lengths, right}
use native.Mathlib.Omega.{arith}
use borrow.Author.Rules.{rules}
use Rattle.month_run.proofs.asked.Goals as goal

pub returns-then-not-in_month : goal.returns-then-not-in_month
returns-then-not-in_month c = outside _ _ _ _ _ _ _ _ (sym c.in_month.ensures ∙ not-true _ c.if-not-in_month.true-raw)

pub overflow_mul-hours : goal.overflow_mul-hours
overflow_mul-hours c =
    let inside = sym c.in_month.ensures ∙ not-false _ c.if-not-in_month.false-raw in
    omega (arith, product_fits c.args.s.heading.hours c.args.start c.args.hours c.args.s.heading.parties (search rules) (search rules) inside)

pub returns-then-not-lent_right : goal.returns-then-not-lent_right
returns-then-not-lent_right c =
    wrong_lengths _ _ _ _ _ _ _ _
    (sym c.in_month.ensures ∙ not-false _ c.if-not-in_month.false-raw)
    (sym c.lent_right.ensures ∙ not-true _ c.if-not-lent_right.true-raw)

pub returns : goal.returns
returns c =
    right _ _ _ _ _ _ _ _
    (sym c.in_month.ensures ∙ not-false _ c.if-not-in_month.false-raw)
    (sym c.lent_right.ensures ∙ not-false _ c.if-not-lent_right.false-raw)
