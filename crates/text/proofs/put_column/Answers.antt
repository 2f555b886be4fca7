-- `text::put_column` meets its contract: a space, then a number with its sign. Assumes nothing.
use Rattle.rules.specs.Words.{ascii}
use Rattle.text.proofs.Column.{column}
use borrow.Author.Rules.{rules}
use Rattle.text.proofs.put_column.Goals as goal

pub returns : goal.returns
unfolding ascii
returns c = record { text = column c.ranges.z c.put_bytes-number.ensures c.put_signed.ensures.text; within = search rules }
