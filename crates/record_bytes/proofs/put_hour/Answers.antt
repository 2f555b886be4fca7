-- `record_bytes::put_hour` meets its contract: the fields glued in their widths are the bytes. Assumes nothing.
use mir.Facts.{to_z-of_z}
use mir.Syntax.{w64}
use mir.Val.{SFits}
use native.Mathlib.Omega.{arith}
use mathlib.Core.Path.{refl, ◌∙◌, ap}
use lib.Seq.{sets}
use Rattle.record_bytes.specs.Fields.{total}
use Rattle.record_bytes.proofs.Encoding.{hour_glued}
use borrow.Author.Rules.{rules}
use Rattle.record_bytes.proofs.put_hour.Goals as goal

pub unsigned-requires : goal.unsigned-requires
unsigned-requires c = let f : SFits w64 c.args.f.net_wh = search rules in rw (to_z-of_z f) (omega (arith, f.sfits))

pub put_all-requires : goal.put_all-requires
unfolding total
put_all-requires c = (refl, omega arith)

pub returns : goal.returns
returns c =
    let f : SFits w64 c.args.f.net_wh = search rules in
    c.put_all.ensures ∙ ap (sets _ 0) (hour_glued _ c.ranges.sort.fits _ _ f c.unsigned.ensures)
