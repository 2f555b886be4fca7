-- `report_lines::put_fraction` meets its contract: a column, then "/" and a number. Assumes nothing.
use Rattle.rules.specs.Words.{ascii}
use Rattle.report_lines.proofs.Lines.{fraction_column}
use borrow.Author.Rules.{rules}
use Rattle.report_lines.proofs.put_fraction.Goals as goal

pub returns : goal.returns
unfolding ascii
returns c = record { text = fraction_column c.ranges.n _ c.put_column-after_n.ensures.text c.put_word_number.ensures.text; within = search rules }
