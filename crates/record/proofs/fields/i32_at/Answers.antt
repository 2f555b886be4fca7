-- `record::fields::i32_at` meets its contract: the library's number of four bytes in two's complement is the rules'. Assumes nothing.
use mir.Facts.{to_z-of_z}
use mir.Syntax.{w32}
use mir.Val.{SFits}
use borrow.Author.Rules.{rules}
use Rattle.record.proofs.Bytes.{there, four_bytes, signed_4}
use Rattle.record.proofs.fields.i32_at.Goals as goal

pub returns : goal.returns
returns c =
    let f : SFits w32 c.from_be_bytes.result = search rules in
    rw (to_z-of_z f, c.from_be_bytes.ensures, c.bytes_at.ensures, four_bytes _ (there 4 _ _ c.requires), signed_4)
