-- `plan_checks::shaped` meets its contract: the three tests are the rule's. Assumes nothing.
use mathlib.Core.Path.{refl}
use Rattle.rules.specs.Words.{within}
use Rattle.plan_checks.proofs.shaped.Goals as goal

pub returns : goal.returns
unfolding within
returns c = refl
