-- `record::fields::u64_at` meets its contract: the library's number of eight bytes is the rules'. Assumes nothing.
use Rattle.record.proofs.Bytes.{there, eight_bytes}
use Rattle.record.proofs.fields.u64_at.Goals as goal

pub returns : goal.returns
returns c = rw (c.from_be_bytes.ensures, c.bytes_at.ensures) (eight_bytes _ (there 8 _ _ c.requires))
