-- `month_series::weight_between` meets its contract: it is the difference of two beginnings, of which the later is no less. Assumes nothing.
use native.Mathlib.Omega.{arith}
use borrow.Author.Rules.{rules}
use Rattle.rules.specs.Words.{at}
use Rattle.month_series.proofs.weight_between.Goals as goal

pub overflow_sub-result : goal.overflow_sub-result
unfolding at
overflow_sub-result c = omega arith

pub returns : goal.returns
unfolding at
returns c = search rules
