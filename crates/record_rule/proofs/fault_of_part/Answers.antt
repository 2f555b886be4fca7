-- `record_rule::fault_of_part` meets its contract: a party's GLNs are those in the part, and another record has none. Assumes nothing.
use mathlib.Core.Path.{◌∙◌}
use Rattle.record_rule.proofs.Judging.{party_in_part, no_gln_looked_at}
use Rattle.record_rule.proofs.fault_of_part.Goals as goal

pub returns-in-Party : goal.returns-in-Party
returns-in-Party c =
    rw c.in-Party.is
    (party_in_part _ _ _ c.args.part.now _ _ c.gln_in.ensures c.brp_gln_in.ensures c.party_fault.ensures)

pub returns-in_default : goal.returns-in_default
returns-in_default c = c.fault.ensures ∙ no_gln_looked_at _ _ _ _ _ c.args.r c.in_default.not-Party
