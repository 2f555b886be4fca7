-- `record_service::signed_place` meets its contract: three kinds have such a number. Assumes nothing.
use native.Mathlib.Omega.{arith}
use Rattle.std.proofs.lemmas.Grind.{common_steps}
use Rattle.record_service.specs.Held.{signed_place}
use Rattle.record_service.proofs.signed_place.Goals as goal

pub returns-in-3 : goal.returns-in-3
unfolding signed_place
returns-in-3 c = rw c.in-3.is

pub returns-in-6 : goal.returns-in-6
unfolding signed_place
returns-in-6 c = rw c.in-6.is

pub returns-in-5 : goal.returns-in-5
unfolding signed_place
returns-in-5 c = rw c.in-5.is

pub returns-in_default : goal.returns-in_default
unfolding signed_place
returns-in_default c = grind (arith, common_steps)
