-- `month_run::put_wh` meets its contract: what is copied to the place is the first of the figures. Assumes nothing.
use native.Mathlib.Omega.{arith}
use Rattle.distribute.proofs.Putting.{put_part}
use Rattle.month_run.proofs.put_wh.Goals as goal

pub returns : goal.returns
returns c = put_part (omega arith) c.requires.1 c.copy_from_slice.ensures.after
