-- `statement_lines::columns_line` meets its contract: its two halves, one after the other. Assumes nothing.
use Rattle.statement_lines.proofs.Lines.{columns}
use borrow.Author.Rules.{rules}
use Rattle.statement_lines.proofs.columns_line.Goals as goal

pub returns : goal.returns
returns c =
    record {
      text = columns c.ranges.distributed_wh c.ranges.loss_wh c.ranges.difference_wh c.ranges.ore _ _
          c.put_name_energies-results.ensures.text c.put_results.ensures.text;
      within = search rules;
    }
