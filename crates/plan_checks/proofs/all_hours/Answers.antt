-- `plan_checks::all_hours` meets its contract: what was added so far is the hours of the months before, and thirteen months have few. Assumes nothing.
use mathlib.Core.Path.{refl}
use native.Mathlib.Omega.{arith}
use Rattle.plan_checks.proofs.Checking.{counting_start, counting_next}
use Rattle.rules.specs.Plan.{month_start}
use Rattle.rules.specs.Words.{at}
use Rattle.rules.proofs.Sums.{add_end}
use Rattle.plan_checks.proofs.all_hours.Goals as goal

pub loop-h-init : goal.loop-h-init
loop-h-init c = counting_start _ _

pub overflow_add-sum : goal.overflow_add-sum
overflow_add-sum c = omega (arith, c.loop-h.invariant.small, c.requires)

pub loop-h-preserved : goal.loop-h-preserved
unfolding at
loop-h-preserved c = counting_next c.loop-h.invariant (omega arith) refl (omega (arith, c.type_inv.hours c.loop-h.h-index))

pub returns : goal.returns
unfolding month_start
returns c = add_end c.loop-h.invariant.adding (omega arith)
