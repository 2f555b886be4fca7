-- `periodise_service::followed_by` meets its contract: its tests are those of the check. Assumes nothing.
use borrow.Author.Tests.{eq-eqb, ne_eqb, le-leb, lt-leb}
use Rattle.periodise_service.specs.Follow.{follow_check}
use Rattle.rules.specs.Refusals.{unless}
use Rattle.periodise_service.proofs.followed_by.Goals as goal

pub returns-then-e-eq0 : goal.returns-then-e-eq0
unfolding follow_check unless
returns-then-e-eq0 c = simp (eq-eqb _ _ c.if-e-eq0.true)

pub returns-then-s-ge1 : goal.returns-then-s-ge1
unfolding follow_check unless
returns-then-s-ge1 c = simp (ne_eqb _ _ c.if-e-eq0.false, le-leb _ _ c.if-s-ge1.true)

pub returns : goal.returns
unfolding follow_check unless
returns c = simp (ne_eqb _ _ c.if-e-eq0.false, lt-leb _ _ c.if-s-ge1.false)
