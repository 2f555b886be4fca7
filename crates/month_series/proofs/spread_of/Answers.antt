-- `month_series::spread_of` meets its contract: each kind of reading has its own weights. Assumes nothing.
use Rattle.rules.specs.Month.{weight_before, whole_weight}
use Rattle.month_series.proofs.spread_of.Goals as goal

pub returns-in-ThisMonth : goal.returns-in-ThisMonth
unfolding weight_before whole_weight
returns-in-ThisMonth c = rw c.in-ThisMonth.is

pub returns-in-ManyMonths : goal.returns-in-ManyMonths
unfolding weight_before whole_weight
returns-in-ManyMonths c = rw c.in-ManyMonths.is
