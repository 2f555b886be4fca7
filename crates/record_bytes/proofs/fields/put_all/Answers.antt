-- `record_bytes::fields::put_all` meets its contract: the numbers left, on what is written, give the whole. Assumes nothing.
use native.Mathlib.Omega.{arith}
use Rattle.record_bytes.proofs.Bytes.{glue_start, glue_room, glue_next, glue_end}
use Rattle.record_bytes.proofs.fields.put_all.Goals as goal

pub loop-i-init : goal.loop-i-init
loop-i-init c = glue_start c.requires.0 c.requires.1

pub put_number-requires : goal.put_number-requires
put_number-requires c = glue_room c.loop-i.invariant (omega arith)

pub overflow_add-at : goal.overflow_add-at
overflow_add-at c = omega (arith, glue_room c.loop-i.invariant (omega arith))

pub loop-i-preserved : goal.loop-i-preserved
loop-i-preserved c = glue_next c.loop-i.invariant (omega arith) c.put_number.ensures

pub shape_of-d : goal.shape_of-d
shape_of-d c = c.loop-i.invariant.same

pub returns : goal.returns
returns c = glue_end c.loop-i.invariant (omega arith)
