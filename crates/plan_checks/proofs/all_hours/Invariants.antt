-- `plan_checks::all_hours` meets its contract: what was added so far is the hours of the months before, and thirteen months have few. Assumes nothing.
use lib.ListN.{length}
use Rattle.plan_checks.proofs.Checking.{Counting}
use Rattle.rules.specs.Words.{at}
use Rattle.plan_checks.proofs.all_hours.Given as goal

abbrev pub invariant-loop-h : goal.invariant-loop-h
invariant-loop-h l = Counting (at l.hours) (length l.hours) l.sum l.h-index
