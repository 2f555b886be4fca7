-- `curve_numbers::curve_numbers_fit` meets its contract: what is left of the list says what the whole says. Assumes nothing.
use mathlib.Core.Path.{sym}
use Rattle.rules.specs.Services.{each_at}
use Rattle.rules.specs.Words.{at}
use Rattle.rules.proofs.Loops.{look_start, look_pass, look_stop, look_end}
use Rattle.curve_numbers.proofs.Checking.{number_passes, number_stops}
use native.Mathlib.Omega.{arith}
use Rattle.curve_numbers.proofs.curve_numbers_fit.Goals as goal

pub loop-t-init : goal.loop-t-init
loop-t-init c = look_start _ _

pub returns-then-curve_number-gt-GREATEST_CURVE_NUMBER : goal.returns-then-curve_number-gt-GREATEST_CURVE_NUMBER
unfolding each_at at
returns-then-curve_number-gt-GREATEST_CURVE_NUMBER c = sym (look_stop c.loop-t.invariant (omega arith) (number_stops _ _ _ c.curve_number.ensures c.if-curve_number-gt-GREATEST_CURVE_NUMBER.true))

pub loop-t-preserved : goal.loop-t-preserved
unfolding at
loop-t-preserved c = look_pass c.loop-t.invariant (omega arith) (number_passes _ _ _ c.curve_number.ensures c.if-curve_number-gt-GREATEST_CURVE_NUMBER.false)

pub returns : goal.returns
unfolding each_at
returns c = sym (look_end c.loop-t.invariant (omega arith))
