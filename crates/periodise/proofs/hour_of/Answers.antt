-- `periodise::hour_of` meets its contract: it is the quotient and the remainder that the contract names, and each step fits. Assumes nothing.
use native.Mathlib.Omega.{arith}
use Rattle.periodise.proofs.Turning.{product_fits, sum_fits, figure_fits}
use Rattle.periodise.proofs.hour_of.Goals as goal

pub overflow_mul-t : goal.overflow_mul-t
overflow_mul-t c = omega (arith, product_fits c.requires (omega arith))

pub overflow_add-t : goal.overflow_add-t
overflow_add-t c = omega (arith, sum_fits c.requires (omega arith))

pub overflow_cast-wh : goal.overflow_cast-wh
overflow_cast-wh c = omega (arith, figure_fits c.requires (omega arith))
