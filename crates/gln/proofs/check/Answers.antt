-- `gln::check` meets its contract: what is left of the bytes says what the whole says. Assumes nothing.
use native.Mathlib.Omega.{arith}
use Rattle.gln.proofs.Walk.{walk_start, walk_next, number_fits, weighs_at_most, other_length, stop_below, stop_above, end_other, end_valid}
use Rattle.gln.proofs.check.Goals as goal

pub returns-then-part-ne-GLN_DIGITS : goal.returns-then-part-ne-GLN_DIGITS
returns-then-part-ne-GLN_DIGITS c = other_length _ c.if-part-ne-GLN_DIGITS.true

pub loop-position-init : goal.loop-position-init
loop-position-init c = walk_start (omega arith)

pub returns-then-byte-lt48 : goal.returns-then-byte-lt48
returns-then-byte-lt48 c = stop_below c.loop-position.invariant (omega arith) c.if-byte-lt48.true

pub returns-then-byte-gt57 : goal.returns-then-byte-gt57
returns-then-byte-gt57 c = stop_above c.loop-position.invariant (omega arith) c.if-byte-gt57.true

pub overflow_mul-number : goal.overflow_mul-number
overflow_mul-number c = omega (arith, number_fits c.loop-position.invariant (omega arith))

pub overflow_add-number : goal.overflow_add-number
overflow_add-number c = omega (arith, number_fits c.loop-position.invariant (omega arith))

pub overflow_mul-weighted : goal.overflow_mul-weighted
overflow_mul-weighted c = omega (arith, weighs_at_most _ c.weight_of_position.ensures c.if-byte-gt57.false)

pub overflow_add-weighted : goal.overflow_add-weighted
overflow_add-weighted c = omega (arith, weighs_at_most _ c.weight_of_position.ensures c.if-byte-gt57.false)

pub loop-position-preserved : goal.loop-position-preserved
loop-position-preserved c = walk_next c.loop-position.invariant (omega arith) c.if-byte-lt48.false c.if-byte-gt57.false c.weight_of_position.ensures

pub returns-then-weighted-ne0 : goal.returns-then-weighted-ne0
returns-then-weighted-ne0 c = end_other c.loop-position.invariant (omega arith) c.if-weighted-ne0.true

pub returns : goal.returns
returns c = end_valid c.loop-position.invariant (omega arith) (omega arith)
