-- `plan_checks::each_party` meets its contract: the first party above 63 is refused, at place 0. Assumes nothing.
use mathlib.Core.Path.{sym}
use native.Mathlib.Omega.{arith}
use borrow.Author.Tests.{le-ltb, lt-ltb}
use Rattle.rules.proofs.Loops.{look_start, look_pass, look_stop, look_end}
use Rattle.rules.specs.Plan.{party_verdict}
use Rattle.rules.specs.Refusals.{unless}
use Rattle.rules.specs.Words.{at}
use Rattle.plan_checks.proofs.each_party.Goals as goal

pub loop-party-init : goal.loop-party-init
loop-party-init c = look_start _ _

pub returns-then-party-ge-MOST_PARTIES : goal.returns-then-party-ge-MOST_PARTIES
unfolding party_verdict at unless
returns-then-party-ge-MOST_PARTIES c = sym (look_stop c.loop-party.invariant (omega arith) (rw (le-ltb _ _ c.if-party-ge-MOST_PARTIES.true)))

pub loop-party-preserved : goal.loop-party-preserved
unfolding party_verdict at unless
loop-party-preserved c = look_pass c.loop-party.invariant (omega arith) (rw (lt-ltb _ _ c.if-party-ge-MOST_PARTIES.false))

pub returns : goal.returns
returns c = sym (look_end c.loop-party.invariant (omega arith))
