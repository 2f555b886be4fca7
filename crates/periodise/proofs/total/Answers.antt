-- `periodise::total` meets its contract: the loop keeps the sum of the figures passed, which is less than 2 ^ 32 for each of them. Assumes nothing.
use native.Mathlib.Omega.{arith}
use borrow.Author.Rules.{rules}
use Rattle.periodise.proofs.Summing.{sum_start, sum_fits, sum_next, sum_end}
use Rattle.periodise.proofs.total.Goals as goal

pub loop-value-init : goal.loop-value-init
loop-value-init c = sum_start _

pub overflow_add-sum_so_far : goal.overflow_add-sum_so_far
overflow_add-sum_so_far c = omega (arith, sum_fits c.loop-value.invariant c.requires c.loop-value-test.true (search rules))

pub loop-value-preserved : goal.loop-value-preserved
loop-value-preserved c = sum_next c.loop-value.invariant c.loop-value-test.true (search rules)

pub returns : goal.returns
returns c = sum_end c.loop-value.invariant (omega arith)
