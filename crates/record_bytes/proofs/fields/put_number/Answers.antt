-- `record_bytes::fields::put_number` meets its contract: what is left to write, on what is written, gives the whole. Assumes nothing.
use native.Mathlib.Omega.{arith}
use Rattle.record_bytes.proofs.Bytes.{put_start, put_next, put_end}
use Rattle.record_bytes.proofs.fields.put_number.Goals as goal

pub loop-k-init : goal.loop-k-init
loop-k-init c = put_start _ c.requires

pub loop-k-preserved : goal.loop-k-preserved
loop-k-preserved c = put_next c.loop-k.invariant (omega arith)

pub shape_of-d : goal.shape_of-d
shape_of-d c = c.loop-k.invariant.same

pub returns : goal.returns
returns c = put_end c.loop-k.invariant (omega arith)
