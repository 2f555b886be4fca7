-- `report_lines::put_series` meets its contract: three columns. Assumes nothing.
use Rattle.rules.specs.Words.{ascii}
use Rattle.report_lines.proofs.Lines.{series}
use borrow.Author.Rules.{rules}
use Rattle.report_lines.proofs.put_series.Goals as goal

pub returns : goal.returns
unfolding ascii
returns c = record { text = series _ _ _ c.put_unsigned-after_fixed.ensures.text c.put_unsigned-after_applied.ensures.text c.put_unsigned.ensures.text; within = search rules }
