-- `record::fields::u16_at` meets its contract: the library's number of two bytes is the rules'. Assumes nothing.
use Rattle.record.proofs.Bytes.{there, two_bytes}
use Rattle.record.proofs.fields.u16_at.Goals as goal

pub returns : goal.returns
returns c = rw (c.from_be_bytes.ensures, c.bytes_at.ensures) (two_bytes _ (there 2 _ _ c.requires))
