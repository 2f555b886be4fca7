-- `month_series::follows` meets its contract: the two tests are the rule's. Assumes nothing.
use Rattle.rules.specs.Month.{follows_whole}
use mathlib.Core.Path.{refl}
use Rattle.month_series.proofs.follows.Goals as goal

pub returns : goal.returns
unfolding follows_whole
returns c = refl
