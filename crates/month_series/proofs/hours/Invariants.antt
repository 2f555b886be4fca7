-- `month_series::hours` meets its contract: hour after hour, what is left of the series says what the whole says. Assumes nothing.
use Rattle.month_series.specs.Series.{series_of}
use Rattle.month_series.proofs.Series.{Judging}
use Rattle.rules.specs.Month.{month_of}
use Rattle.month_series.proofs.hours.Given as goal

abbrev pub invariant-loop-t : goal.invariant-loop-t
invariant-loop-t l = Judging (series_of (month_of l.file) l.refixed) l.out l.estimated l.t
