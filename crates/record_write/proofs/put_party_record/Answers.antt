-- `record_write::put_party_record` meets its contract: each kind of party is written by its own function, and a party without fault fits it. Assumes nothing.
use mathlib.Core.Path.{refl, ap}
use native.Mathlib.Omega.{arith}
use Rattle.record.specs.Record.{kind_of_brp}
use Rattle.rules.specs.Record.{party_kind, brp_party_kind}
use Rattle.rules.proofs.EachKind.{body_lengths}
use Rattle.record_write.proofs.WriteOne.{room_of, gln_whole, brp_gln_whole}
use Rattle.record_write.proofs.put_party_record.Goals as goal

pub put_party-requires : goal.put_party-requires
unfolding body_lengths
put_party-requires c = (gln_whole c.requires refl, omega (arith, room_of c.requires party_kind (ap kind_of_brp c.in-Own.is)))

pub put_brp_party-requires : goal.put_brp_party-requires
unfolding body_lengths
put_brp_party-requires c = (gln_whole c.requires refl, brp_gln_whole c.requires refl c.in-Named.is, omega (arith, room_of c.requires brp_party_kind (ap kind_of_brp c.in-Named.is)))

pub returns-in-Own : goal.returns-in-Own
returns-in-Own c = rw c.in-Own.is c.put_party.ensures

pub returns-in-Named : goal.returns-in-Named
returns-in-Named c = rw c.in-Named.is c.put_brp_party.ensures
