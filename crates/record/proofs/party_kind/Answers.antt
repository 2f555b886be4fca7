-- `record::party_kind` meets its contract: a party that names a BRP is of another kind than one that does not. Assumes nothing.
use Rattle.record.proofs.party_kind.Goals as goal

pub returns-in-Own : goal.returns-in-Own
returns-in-Own c = rw c.in-Own.is

pub returns-in-Named : goal.returns-in-Named
returns-in-Named c = rw c.in-Named.is
