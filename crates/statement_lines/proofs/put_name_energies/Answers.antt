-- `statement_lines::put_name_energies` meets its contract: the name, then two columns. Assumes nothing.
use Rattle.statement_lines.proofs.Lines.{name_energies_lem}
use borrow.Author.Rules.{rules}
use Rattle.statement_lines.proofs.put_name_energies.Goals as goal

pub returns : goal.returns
returns c = record { text = name_energies_lem c.ranges.distributed_wh _ c.put_bytes-after_name.ensures c.put_energies.ensures.text; within = search rules }
