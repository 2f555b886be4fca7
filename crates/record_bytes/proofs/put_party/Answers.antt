-- `record_bytes::put_party` meets its contract: kind, GLN and share, one after the other. Assumes nothing.
use Rattle.record_bytes.proofs.Encoding.{party_put}
use Rattle.record_bytes.proofs.put_party.Goals as goal

pub returns : goal.returns
returns c = party_put _ _ c.requires.0 _ c.put_number.ensures c.put_bytes.ensures c.put_number-2.ensures
