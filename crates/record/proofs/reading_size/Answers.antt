-- `record::reading_size` meets its contract: each kind of reading has its own length in the table. Assumes nothing.
use Rattle.rules.proofs.EachKind.{body_lengths}
use Rattle.record.proofs.reading_size.Goals as goal

pub returns-in-ThisMonth : goal.returns-in-ThisMonth
unfolding body_lengths
returns-in-ThisMonth c = rw c.in-ThisMonth.is

pub returns-in-ManyMonths : goal.returns-in-ManyMonths
unfolding body_lengths
returns-in-ManyMonths c = rw c.in-ManyMonths.is
