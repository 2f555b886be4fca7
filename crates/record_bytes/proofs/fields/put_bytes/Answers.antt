-- `record_bytes::fields::put_bytes` meets its contract: the part that was lent holds the bytes when it is back. Assumes nothing.
use Rattle.record_bytes.proofs.Bytes.{copied}
use Rattle.record_bytes.proofs.fields.put_bytes.Goals as goal

pub returns : goal.returns
returns c = copied _ _ _ c.requires c.copy_from_slice.ensures.after
