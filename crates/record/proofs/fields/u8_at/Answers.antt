-- `record::fields::u8_at` meets its contract: one byte is its own number. Assumes nothing.
use Rattle.record.proofs.Bytes.{one_byte}
use Rattle.record.proofs.fields.u8_at.Goals as goal

pub returns : goal.returns
returns c = one_byte _ _ c.requires
