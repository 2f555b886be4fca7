-- `record::fields::u32_at` meets its contract: the library's number of four bytes is the rules'. Assumes nothing.
use Rattle.record.proofs.Bytes.{there, four_bytes}
use Rattle.record.proofs.fields.u32_at.Goals as goal

pub returns : goal.returns
returns c = rw (c.from_be_bytes.ensures, c.bytes_at.ensures) (four_bytes _ (there 4 _ _ c.requires))
