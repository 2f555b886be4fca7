-- `statement_lines::heading_line` meets its contract: its two halves and its ending, one after the other. Assumes nothing.
use Rattle.statement_lines.proofs.Lines.{heading}
use borrow.Author.Rules.{rules}
use Rattle.statement_lines.proofs.heading_line.Goals as goal

pub returns : goal.returns
returns c =
    record {
      text = heading _ _ _ _ _ _ _ c.put_area_month-counts.ensures.text c.put_counts-ending.ensures.text
          c.put_ending.ensures.text;
      within = search rules;
    }
