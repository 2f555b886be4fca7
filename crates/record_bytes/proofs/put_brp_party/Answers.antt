-- `record_bytes::put_brp_party` meets its contract: kind, GLN, the BRP's GLN and share, one after the other. Assumes nothing.
use Rattle.record_bytes.proofs.Encoding.{brp_party_put}
use Rattle.record_bytes.proofs.put_brp_party.Goals as goal

pub returns : goal.returns
returns c = brp_party_put _ _ c.requires.0 _ _ c.requires.1 c.put_number.ensures c.put_bytes.ensures c.put_bytes-2.ensures c.put_number-2.ensures
