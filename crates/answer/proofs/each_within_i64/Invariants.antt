-- `answer::each_within_i64` meets its contract: what is left of the list says what the whole says. Assumes nothing.
use lib.ListN.{length}
use Rattle.answer.specs.Ranges.{between_ℤ}
use Rattle.answer.specs.Said.{named}
use Rattle.rules.specs.Services.{check_at_ℤ}
use Rattle.rules.proofs.Loops.{Looking}
use Rattle.answer.proofs.each_within_i64.Given as goal

abbrev pub invariant-loop-i : goal.invariant-loop-i
invariant-loop-i l = Looking (check_at_ℤ l.figures (between_ℤ l.lowest l.greatest) (named l.otherwise)) (length l.figures) l.i
