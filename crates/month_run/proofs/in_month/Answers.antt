-- `month_run::in_month` meets its contract, test by test. Assumes nothing.
use native.Mathlib.Omega.{arith}
use Rattle.month_run.proofs.Verdicts.{no_hours, too_many, by_rest}
use Rattle.month_run.proofs.in_month.Goals as goal

pub returns-then-hours-lt1 : goal.returns-then-hours-lt1
returns-then-hours-lt1 c = no_hours _ _ _ (omega arith)

pub returns-then-all-hours : goal.returns-then-all-hours
returns-then-all-hours c = too_many _ _ _ (omega arith)

pub returns : goal.returns
returns c = by_rest _ _ _ (omega arith) (omega arith)
