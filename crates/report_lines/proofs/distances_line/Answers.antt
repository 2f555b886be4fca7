-- `report_lines::distances_line` meets its contract: the name, two fractions and the newline. Assumes nothing.
use Rattle.rules.specs.Statement.{newline}
use Rattle.report_lines.proofs.Lines.{distances}
use borrow.Author.Rules.{rules}
use Rattle.report_lines.proofs.distances_line.Goals as goal

pub returns : goal.returns
unfolding newline
returns c =
    record {
      text = distances c.ranges.smallest c.ranges.largest _ _ c.put_bytes-after_name.ensures
          c.put_fraction-after_smallest.ensures.text c.put_fraction-after_largest.ensures.text c.put_bytes.ensures;
      within = search rules;
    }
