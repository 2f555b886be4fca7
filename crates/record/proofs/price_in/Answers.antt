-- `record::price_in` meets its contract: four bytes in two's complement. Assumes nothing.
use mir.Facts.{to_z-of_z}
use mir.Syntax.{w32, w64}
use mir.Val.{SFits}
use borrow.Author.Rules.{rules}
use Rattle.record.proofs.price_in.Goals as goal

pub returns : goal.returns
returns c =
    let f : SFits w32 c.i32_at.result = search rules in
    let g : SFits w64 c.i32_at.result = search rules in
    rw (to_z-of_z f, to_z-of_z g, c.i32_at.ensures)
