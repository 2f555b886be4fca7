-- `record::long_reading_in` meets its contract: each field is read at its place. Assumes nothing.
use Rattle.record.proofs.Decoding.{long_reading_is}
use Rattle.record.proofs.long_reading_in.Goals as goal

pub returns : goal.returns
returns c =
    rw (
      c.u64_at-before.ensures,
      c.u64_at-whole.ensures,
      c.u8_at.ensures,
      c.u16_at.ensures,
      c.u16_at-2.ensures,
      c.u32_at.ensures,
    )
    (long_reading_is _)
