-- `month_run::run_hour` meets its contract: `OneHour` says what one hour more comes to. Assumes nothing.
use native.Mathlib.Omega.{arith}
use Rattle.month_run.proofs.OneHour.{not_begun, hour_lent, hour_on}
use Rattle.month_run.proofs.run_hour.Goals as goal

pub returns-then-t-start : goal.returns-then-t-start
returns-then-t-start c = not_begun c.requires.running (omega arith)

pub quantities-quantities-requires : goal.quantities-quantities-requires
quantities-quantities-requires c = c.requires.hour_asked

pub put_hour-requires : goal.put_hour-requires
put_hour-requires c =
    hour_lent c.requires.hour_asked c.requires.t_bound (omega arith)
    c.requires.running

pub returns : goal.returns
returns c = hour_on c.requires.hour_asked c.requires.t_bound (omega arith) c.requires.running c.quantities-quantities.ensures c.put_hour.ensures
