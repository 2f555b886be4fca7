-- `distribute_service::lent_right` meets its contract, test by test. Assumes nothing.
use Rattle.distribute_service.proofs.Lengths as S
use Rattle.distribute_service.proofs.lent_right.Goals as goal

pub returns-then-parties-eq0 : goal.returns-then-parties-eq0
returns-then-parties-eq0 c = S.no_parties _ _ _ c.if-parties-eq0.true

pub returns-then-lent-parties-ne0 : goal.returns-then-lent-parties-ne0
returns-then-lent-parties-ne0 c = S.uneven _ _ _ c.if-lent-parties-ne0.true

pub returns : goal.returns
returns c = S.even _ _ _ c.if-parties-eq0.false c.if-lent-parties-ne0.false
