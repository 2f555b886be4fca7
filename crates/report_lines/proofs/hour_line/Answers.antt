-- `report_lines::hour_line` meets its contract: its three parts, one after the other, and the newline. Assumes nothing.
use Rattle.rules.specs.Statement.{newline}
use Rattle.report_lines.proofs.Lines.{hour}
use borrow.Author.Rules.{rules}
use Rattle.report_lines.proofs.hour_line.Goals as goal

pub returns : goal.returns
unfolding newline
returns c =
    record {
      text = hour c.ranges.distributed_wh c.ranges.loss_wh _ _ _ _ _ _ _ c.put_hour_statuses-series.ensures.text
          c.put_series-parts.ensures.text c.put_energies-loss.ensures.text c.put_column-after_loss.ensures.text
          c.put_bytes.ensures;
      within = search rules;
    }
