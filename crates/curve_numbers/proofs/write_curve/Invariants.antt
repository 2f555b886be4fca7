-- `curve_numbers::write_curve` meets its contract: the beginning of the lent series is the curve so far. Assumes nothing.
use lib.ListN.{length}
use Rattle.rules.specs.Services.{curve_at}
use Rattle.rules.proofs.Loops.{Filling}
use Rattle.curve_numbers.proofs.write_curve.Given as goal

abbrev pub invariant-loop-t : goal.invariant-loop-t
invariant-loop-t l = Filling (curve_at l.residuals l.w) (length l.residuals) l.out l.t
