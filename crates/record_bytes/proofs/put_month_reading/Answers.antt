-- `record_bytes::put_month_reading` meets its contract: the fields glued in their widths are the bytes. Assumes nothing.
use native.Mathlib.Omega.{arith}
use mathlib.Core.Path.{refl, ◌∙◌, ap}
use lib.Seq.{sets}
use Rattle.record_bytes.specs.Fields.{total}
use Rattle.record_bytes.proofs.Encoding.{reading_glued}
use Rattle.record_bytes.proofs.put_month_reading.Goals as goal

pub put_all-requires : goal.put_all-requires
unfolding total
put_all-requires c = (refl, omega arith)

pub returns : goal.returns
returns c = c.put_all.ensures ∙ ap (sets _ 0) (reading_glued _ _ _ _)
