-- `record_rule::rule::party_fault` meets its contract: the load share, then the GLN, then that of the BRP if it is another. Assumes nothing.
use native.Mathlib.Omega.{arith}
use Rattle.record_rule.proofs.Judging.{share_above, gln_bad, own_brp_lem, named_brp_lem}
use Rattle.record_rule.proofs.rule.party_fault.Goals as goal

pub returns-then-share-gt-GREATEST_SHARE_KWH : goal.returns-then-share-gt-GREATEST_SHARE_KWH
returns-then-share-gt-GREATEST_SHARE_KWH c = share_above _ _ _ _ c.if-share-gt-GREATEST_SHARE_KWH.true

pub returns-then-not-gln_valid : goal.returns-then-not-gln_valid
returns-then-not-gln_valid c = gln_bad _ _ _ _ (omega arith) c.gln_valid.ensures c.if-not-gln_valid.true

pub returns-in-Own : goal.returns-in-Own
returns-in-Own c = own_brp_lem _ _ _ _ (omega arith) c.gln_valid.ensures c.if-not-gln_valid.false c.in-Own.is

pub returns-in-Named : goal.returns-in-Named
returns-in-Named c =
    named_brp_lem _ _ _ _ (omega arith) c.gln_valid.ensures c.if-not-gln_valid.false c.in-Named.is
    c.unless.ensures
    c.gln_valid-in-Named.ensures
