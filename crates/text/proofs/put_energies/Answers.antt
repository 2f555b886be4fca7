-- `text::put_energies` meets its contract: one column after the other. Assumes nothing.
use Rattle.text.proofs.Column.{energies}
use borrow.Author.Rules.{rules}
use Rattle.text.proofs.put_energies.Goals as goal

pub returns : goal.returns
returns c = record { text = energies c.ranges.distributed_wh _ c.put_column-after_distributed.ensures.text c.put_unsigned.ensures.text; within = search rules }
