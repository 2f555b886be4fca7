-- `file_fields::gln_of` meets its contract: `Readers` says what stands there. Assumes nothing.
use Rattle.file_fields.proofs.Readers as R
use Rattle.file_fields.proofs.gln_of.Goals as goal

pub from_record-requires : goal.from_record-requires
from_record-requires c = R.party_room _ _ _ c.requires

pub returns : goal.returns
returns c = R.gln_is _ _ _ c.requires c.from_record.ensures c.gln_in.ensures
