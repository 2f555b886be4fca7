-- `plan_checks::reading_hours` meets its contract: what was added so far is the hours of the parts before. Assumes nothing.
use mathlib.Core.Path.{refl}
use native.Mathlib.Omega.{arith}
use Rattle.plan_checks.proofs.Checking.{from_same, to_same, hours_same, counting_start, counting_next}
use Rattle.rules.specs.Plan.{month_count, reading_hours}
use Rattle.rules.proofs.Sums.{add_end}
use Rattle.plan_checks.proofs.reading_hours.Goals as goal

pub loop-k-init : goal.loop-k-init
loop-k-init c = counting_start _ _

pub overflow_sub-sum : goal.overflow_sub-sum
overflow_sub-sum c =
    let from = from_same c.args.a c.args.b c.args.hours.now c.loop-k.k c.part_from-from.ensures c.part_to-to.ensures in
    let to = to_same c.args.a c.args.b c.args.hours.now c.loop-k.k c.part_from-from.ensures c.part_to-to.ensures in
    omega (arith, from, to, c.requires.forwards c.loop-k.k (omega arith))

pub overflow_add-sum : goal.overflow_add-sum
overflow_add-sum c = omega (arith, c.loop-k.invariant.small, c.requires.few_months)

pub loop-k-preserved : goal.loop-k-preserved
loop-k-preserved c =
    counting_next c.loop-k.invariant (omega arith)
    (hours_same c.args.a c.args.b c.args.hours.now c.loop-k.k c.part_from-from.ensures c.part_to-to.ensures refl)
    (omega arith)

pub returns : goal.returns
unfolding reading_hours month_count
returns c = add_end c.loop-k.invariant.adding (omega arith)
