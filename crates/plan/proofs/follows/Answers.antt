-- `plan::follows` meets its contract: the two tests are the rule's. Assumes nothing.
use mathlib.Core.Path.{refl}
use Rattle.rules.specs.Month.{follows_whole}
use Rattle.plan.proofs.follows.Goals as goal

pub returns : goal.returns
unfolding follows_whole
returns c = refl
