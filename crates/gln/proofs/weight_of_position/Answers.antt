-- `gln::weight_of_position` meets its contract: the code tests what the rule tests. Assumes nothing.
use borrow.Author.Tests.{eq-eqb, ne_eqb}
use Rattle.rules.specs.Gln.{weight_of_position}
use Rattle.gln.proofs.weight_of_position.Goals as goal

pub returns-then-position-eq1 : goal.returns-then-position-eq1
unfolding weight_of_position
returns-then-position-eq1 c = simp (eq-eqb _ _ c.if-position-eq1.true)

pub returns : goal.returns
unfolding weight_of_position
returns c = simp (ne_eqb _ _ c.if-position-eq1.false)
