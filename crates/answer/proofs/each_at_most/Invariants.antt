-- `answer::each_at_most` meets its contract: what is left of the list says what the whole says. Assumes nothing.
use Rattle.std.specs.Prelude.{map, length}
use Rattle.answer.specs.Said.{named}
use Rattle.rules.specs.Services.{check_at}
use Rattle.rules.specs.Words.{at_most}
use Rattle.rules.proofs.Loops.{Looking}
use Rattle.answer.proofs.each_at_most.Given as goal

abbrev pub invariant-loop-i : goal.invariant-loop-i
invariant-loop-i g l = Looking (check_at (map g.T.Figure.number l.values) (at_most l.most) (named l.otherwise)) (length l.values) l.i
