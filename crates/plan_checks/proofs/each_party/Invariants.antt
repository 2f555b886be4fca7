-- `plan_checks::each_party` meets its contract: the first party above 63 is refused, at place 0. Assumes nothing.
use lib.ListN.{length}
use Rattle.plan_checks.specs.Handed.{of_parties}
use Rattle.rules.proofs.Loops.{Looking}
use Rattle.rules.specs.Plan.{party_verdict}
use Rattle.plan_checks.proofs.each_party.Given as goal

abbrev pub invariant-loop-party : goal.invariant-loop-party
invariant-loop-party l = Looking (party_verdict (of_parties l.parties)) (length l.parties) l.party-index
