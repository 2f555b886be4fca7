-- `record_bytes::put_heading` meets its contract: the fields glued in their widths are the bytes. Assumes nothing.
use native.Mathlib.Omega.{arith}
use mathlib.Core.Path.{refl, ◌∙◌, ap}
use lib.Seq.{sets}
use Rattle.record_bytes.specs.Fields.{total}
use Rattle.record_bytes.proofs.Encoding.{heading_glued}
use Rattle.record_bytes.proofs.put_heading.Goals as goal

pub put_all-requires : goal.put_all-requires
unfolding total
put_all-requires c = (refl, omega arith)

pub returns : goal.returns
returns c = c.put_all.ensures ∙ ap (sets _ 0) (heading_glued _)
