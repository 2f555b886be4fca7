-- `statement_lines::put_ending` meets its contract: the word and the newline, or the newline alone. Assumes nothing.
use Rattle.rules.specs.Words.{ascii}
use Rattle.rules.specs.Statement.{newline}
use Rattle.statement_lines.proofs.Lines.{unrefixed, refixed_line}
use borrow.Author.Rules.{rules}
use Rattle.statement_lines.proofs.put_ending.Goals as goal

pub returns-then-refixed-eq0 : goal.returns-then-refixed-eq0
unfolding ascii newline
returns-then-refixed-eq0 c = record { text = unrefixed c.if-refixed-eq0.true c.put_bytes.ensures; within = search rules }

pub returns : goal.returns
unfolding ascii newline
returns c = record { text = refixed_line c.if-refixed-eq0.false c.put_bytes-2.ensures; within = search rules }
