-- `month_prepare::first_of` meets its contract. Assumes nothing.
use Rattle.answer.proofs.Checks.{handed}
use Rattle.month_prepare.proofs.Weighing.{first_refuses, other_decides}
use Rattle.month_prepare.proofs.first_of.Goals as goal

pub returns-in_err-one : goal.returns-in_err-one
returns-in_err-one c = first_refuses _ c.in_err-one.was (handed c.from_residual.ensures)

pub returns : goal.returns
returns c = other_decides _ c.in_ok-one.was
