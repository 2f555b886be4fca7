-- `record::fields::i64_at` meets its contract: the library's number of eight bytes in two's complement is the rules'. Assumes nothing.
use mir.Facts.{to_z-of_z}
use mir.Syntax.{w64}
use mir.Val.{SFits}
use borrow.Author.Rules.{rules}
use Rattle.record.proofs.Bytes.{there, eight_bytes, signed_8}
use Rattle.record.proofs.fields.i64_at.Goals as goal

pub returns : goal.returns
returns c =
    let f : SFits w64 c.from_be_bytes.result = search rules in
    rw (to_z-of_z f, c.from_be_bytes.ensures, c.bytes_at.ensures, eight_bytes _ (there 8 _ _ c.requires), signed_8)
