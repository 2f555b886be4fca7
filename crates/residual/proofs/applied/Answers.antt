-- `residual::applied` meets its contract: the whole of one of the two. Assumes nothing.
use Rattle.residual.proofs.Series.{whole}
use Rattle.residual.specs.Applied.{applied_of}
use Rattle.residual.proofs.applied.Goals as goal

pub returns-then-has_refixed : goal.returns-then-has_refixed
unfolding applied_of
returns-then-has_refixed c = rw c.if-has_refixed.true (whole _)

pub returns-else-has_refixed : goal.returns-else-has_refixed
unfolding applied_of
returns-else-has_refixed c = rw c.if-has_refixed.false (whole _)
