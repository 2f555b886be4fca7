-- `report_distances::distance` meets its contract: W is at most 4,000,000,000, so that both numbers are below half of 64 bits. Assumes nothing.
use Prim.Native.Nat.{◌*◌}
use native.Mathlib.Omega.{arith}
use Rattle.distribute.proofs.Totals.{machine_minus_fits, machine_minus_is}
use Rattle.report_distances.proofs.Bounds.{at_most_w}
use Rattle.report_distances.proofs.distance.Goals as goal

pub overflow_mul-result : goal.overflow_mul-result
overflow_mul-result c = omega (arith, at_most_w c.requires)

pub overflow_cast-result : goal.overflow_cast-result
overflow_cast-result c = omega (arith, at_most_w c.requires)

pub overflow_sub-result : goal.overflow_sub-result
overflow_sub-result c = machine_minus_fits (c.args.extra * c.args.w) c.args.remainder (omega (arith, at_most_w c.requires)) (omega arith)

pub returns : goal.returns
returns c = machine_minus_is (c.args.extra * c.args.w) c.args.remainder (omega (arith, at_most_w c.requires)) (omega arith)
