-- `record::heading_in` meets its contract: each field is read at its place. Assumes nothing.
use Rattle.record.proofs.Decoding.{heading_is}
use Rattle.record.proofs.heading_in.Goals as goal

pub returns : goal.returns
returns c =
    rw (
      c.u16_at.ensures,
      c.u16_at-2.ensures,
      c.u8_at.ensures,
      c.u16_at-3.ensures,
      c.u8_at-2.ensures,
      c.u8_at-3.ensures,
    )
    (heading_is _)
