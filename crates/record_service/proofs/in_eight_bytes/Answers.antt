-- `record_service::in_eight_bytes` meets its contract: a signed number of 64 bits is within 64 bits without its sign. Assumes nothing.
use Rattle.record_service.proofs.Numbers.{eight_bytes}
use Rattle.record_service.proofs.in_eight_bytes.Goals as goal

pub returns : goal.returns
returns c = eight_bytes _ c.ranges.z
