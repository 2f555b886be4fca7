-- `periodise::total` meets its contract: the loop keeps the sum of the figures passed, which is less than 2 ^ 32 for each of them. Assumes nothing.
use Rattle.periodise.proofs.Summing.{Summing}
use Rattle.periodise.proofs.total.Given as goal

abbrev pub invariant-loop-value : goal.invariant-loop-value
invariant-loop-value l = Summing l.values l.sum_so_far l.value-index
