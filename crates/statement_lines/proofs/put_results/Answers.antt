-- `statement_lines::put_results` meets its contract: three columns and the newline. Assumes nothing.
use Rattle.rules.specs.Statement.{newline}
use Rattle.statement_lines.proofs.Lines.{results}
use borrow.Author.Rules.{rules}
use Rattle.statement_lines.proofs.put_results.Goals as goal

pub returns : goal.returns
unfolding newline
returns c =
    record {
      text = results c.ranges.loss_wh c.ranges.difference_wh c.ranges.ore c.put_column-after_loss.ensures.text
          c.put_column-after_difference.ensures.text c.put_column-after_ore.ensures.text c.put_bytes.ensures;
      within = search rules;
    }
