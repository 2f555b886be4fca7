-- `record_write::put_reading` meets its contract: each kind of reading is written by its own function. Assumes nothing.
use native.Mathlib.Omega.{arith}
use Rattle.rules.proofs.EachKind.{body_lengths}
use Rattle.record_write.proofs.put_reading.Goals as goal

pub put_month_reading-requires : goal.put_month_reading-requires
unfolding body_lengths
put_month_reading-requires c = let room = rw c.in-ThisMonth.is at c.requires in omega arith

pub put_long_reading-requires : goal.put_long_reading-requires
unfolding body_lengths
put_long_reading-requires c = let room = rw c.in-ManyMonths.is at c.requires in omega arith

pub returns-in-ThisMonth : goal.returns-in-ThisMonth
returns-in-ThisMonth c = rw c.in-ThisMonth.is c.put_month_reading.ensures

pub returns-in-ManyMonths : goal.returns-in-ManyMonths
returns-in-ManyMonths c = rw c.in-ManyMonths.is c.put_long_reading.ensures
