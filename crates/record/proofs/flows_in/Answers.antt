-- `record::flows_in` meets its contract: each flow is read at its place. Assumes nothing.
use mir.Facts.{to_z-of_z}
use mir.Syntax.{w64}
use mir.Val.{SFits}
use Rattle.record.proofs.Decoding.{flows_is}
use borrow.Author.Rules.{rules}
use Rattle.record.proofs.flows_in.Goals as goal

pub returns : goal.returns
returns c =
    let f : SFits w64 c.i64_at.result = search rules in
    rw (
      to_z-of_z f,
      c.u8_at.ensures,
      c.i64_at.ensures,
      c.u64_at.ensures,
      c.u64_at-2.ensures,
      c.u64_at-3.ensures,
    )
    (flows_is _ c.requires)
