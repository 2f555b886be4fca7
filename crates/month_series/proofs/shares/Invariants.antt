-- `month_series::shares` meets its contract: the beginning of the lent list is the load shares so far. Assumes nothing.
use Rattle.rules.specs.Month.{month_of, share_of}
use Rattle.rules.specs.MonthFile.{P}
use Rattle.rules.proofs.Loops.{Filling}
use Rattle.month_series.proofs.shares.Given as goal

abbrev pub invariant-loop-i : goal.invariant-loop-i
invariant-loop-i l = Filling (share_of (month_of l.file)) (P (month_of l.file)) l.out l.i
