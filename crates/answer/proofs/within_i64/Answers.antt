-- `answer::within_i64` meets its contract: the two tests are the range's. Assumes nothing.
use mir.Facts.{to_z-of_z}
use Rattle.answer.specs.Ranges.{between_ℤ}
use Rattle.answer.proofs.within_i64.Goals as goal

pub returns : goal.returns
unfolding between_ℤ
returns c = rw (to_z-of_z c.ranges.figure, to_z-of_z c.ranges.lowest, to_z-of_z c.ranges.greatest)
