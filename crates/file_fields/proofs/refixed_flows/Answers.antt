-- `file_fields::refixed_flows` meets its contract: `Readers` says what stands there. Assumes nothing.
use Rattle.file_fields.proofs.Readers as R
use Rattle.file_fields.proofs.refixed_flows.Goals as goal

pub from_record-requires : goal.from_record-requires
from_record-requires c = R.refixed_room _ _ _ c.requires

pub flows_in-requires : goal.flows_in-requires
flows_in-requires c = R.refixed_enough _ _ _ c.requires c.from_record.ensures

pub returns : goal.returns
returns c = R.refixed_is _ _ _ c.requires c.flows_in.ensures c.from_record.ensures
