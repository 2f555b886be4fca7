-- `periodise::product_mod` meets its contract: the product goes by two digits of 20 bits, and what the modulus divides of the first counts for nothing.
-- Assumes nothing.
use native.Mathlib.Nat.{mul-zero, zero-mod}
use native.Mathlib.Omega.{arith}
use Rattle.periodise.proofs.Digits.{product_is, high_fits, low_fits, both_fit}
use Rattle.periodise.proofs.product_mod.Goals as goal

pub returns-then-b-eq0 : goal.returns-then-b-eq0
returns-then-b-eq0 c = rw (c.if-b-eq0.true, mul-zero, zero-mod)

pub overflow_mul-high : goal.overflow_mul-high
overflow_mul-high c = omega (arith, high_fits _ _ 0 c.requires.0 c.requires.1.0)

pub overflow_mul-result : goal.overflow_mul-result
overflow_mul-result c = omega (arith, both_fit _ _ _ c.requires.0 c.requires.1.0 c.requires.1.1.0 c.requires.1.1.1)

pub overflow_mul-result-2 : goal.overflow_mul-result-2
overflow_mul-result-2 c = omega (arith, low_fits _ _ 0 c.requires.0 c.requires.1.0)

pub overflow_add-result : goal.overflow_add-result
overflow_add-result c = omega (arith, both_fit _ _ _ c.requires.0 c.requires.1.0 c.requires.1.1.0 c.requires.1.1.1)

pub returns : goal.returns
returns c = product_is _ _ _
