-- `file_fields::load_share` meets its contract: a party of either kind is read by its own function (`Readers`). Assumes nothing.
use native.Mathlib.Omega.{arith}
use Rattle.file_fields.proofs.Readers as R
use Rattle.file_fields.proofs.load_share.Goals as goal

pub from_record-part-requires : goal.from_record-part-requires
from_record-part-requires c = R.party_room _ _ _ c.requires

pub bounds-part-0 : goal.bounds-part-0
bounds-part-0 c = omega (arith, R.party_byte _ _ _ c.requires c.from_record-part.ensures)

pub brp_share_in-requires : goal.brp_share_in-requires
brp_share_in-requires c = R.named_enough _ _ _ c.requires c.from_record-part.ensures c.if-part-eq-BRP_PARTY.true

pub returns-then-part-eq-BRP_PARTY : goal.returns-then-part-eq-BRP_PARTY
returns-then-part-eq-BRP_PARTY c = R.named_share_is _ _ _ c.requires c.from_record-part.ensures c.if-part-eq-BRP_PARTY.true c.brp_share_in.ensures

pub share_in-requires : goal.share_in-requires
share_in-requires c = R.own_enough _ _ _ c.requires c.from_record-part.ensures c.if-part-eq-BRP_PARTY.false

pub returns : goal.returns
returns c = R.own_share_is _ _ _ c.requires c.from_record-part.ensures c.if-part-eq-BRP_PARTY.false c.share_in.ensures
