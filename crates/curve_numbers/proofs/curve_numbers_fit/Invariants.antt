-- `curve_numbers::curve_numbers_fit` meets its contract: what is left of the list says what the whole says. Assumes nothing.
use lib.ListN.{length}
use Rattle.rules.specs.Refusals.{curve_too_large}
use Rattle.rules.specs.Services.{check_at, curve_fits}
use Rattle.rules.proofs.Loops.{Looking}
use Rattle.curve_numbers.proofs.curve_numbers_fit.Given as goal

abbrev pub invariant-loop-t : goal.invariant-loop-t
invariant-loop-t l = Looking (check_at l.residuals (curve_fits l.w) curve_too_large) (length l.residuals) l.t
