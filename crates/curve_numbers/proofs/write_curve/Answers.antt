-- `curve_numbers::write_curve` meets its contract: the beginning of the lent series is the curve so far. Assumes nothing.
use Rattle.rules.specs.Services.{curve_figures, curve_at}
use Rattle.rules.proofs.Loops.{fill_start, fill_next, fill_end}
use Rattle.curve_numbers.proofs.Checking.{number_fits}
use Rattle.rules.specs.Words.{at}
use native.Mathlib.Omega.{arith}
use Rattle.curve_numbers.proofs.write_curve.Goals as goal

pub loop-t-init : goal.loop-t-init
loop-t-init c = fill_start _ c.requires.out_len

pub overflow_cast-out : goal.overflow_cast-out
unfolding at
overflow_cast-out c = number_fits _ _ c.requires.curve_ready _ (omega arith) c.curve_number.ensures

pub loop-t-preserved : goal.loop-t-preserved
unfolding curve_at at
loop-t-preserved c = fill_next c.loop-t.invariant (omega arith) c.curve_number.ensures

pub returns : goal.returns
unfolding curve_figures
returns c = fill_end c.loop-t.invariant (omega arith)
