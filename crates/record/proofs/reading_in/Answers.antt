-- `record::reading_in` meets its contract: each field is read at its place. Assumes nothing.
use Rattle.record.proofs.Decoding.{reading_is}
use Rattle.record.proofs.reading_in.Goals as goal

pub returns : goal.returns
returns c = rw (c.u8_at.ensures, c.u16_at.ensures, c.u16_at-2.ensures, c.u32_at.ensures) (reading_is _)
