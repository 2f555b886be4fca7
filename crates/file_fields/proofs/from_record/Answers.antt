-- `file_fields::from_record` meets its contract: all bytes from the record on. Assumes nothing.
use Prim.Native.Nat.{◌+◌, ◌*◌}
use Rattle.file_fields.proofs.OneRecord.{from_there}
use Rattle.file_fields.proofs.from_record.Goals as goal

pub returns : goal.returns
returns c = from_there c.args.file.now (c.args.section + c.args.size * c.args.k)
