-- The cases of 01 marked P, each by computing the definitions.
use mathlib.Core.Path.{refl}
use Rattle.worked_cases.specs.WorkedCases.{read, residual_of, curve_of, distribution_of, periodisation_of, invoice_of, WorkedCases}
use Rattle.rules.proofs.Computed.{words, hours, parts, services}

pub worked_cases : WorkedCases
unfolding words hours parts services read residual_of curve_of distribution_of periodisation_of invoice_of
worked_cases =
    record {
      R1 = refl;
      R2 = refl;
      R3 = refl;
      R3_missing = refl;
      C1 = refl;
      C2 = refl;
      C3 = refl;
      C3_above = refl;
      D1 = refl;
      D3 = refl;
      P1 = refl;
      P2 = refl;
      P3 = refl;
      P3_nothing = refl;
      M1 = refl;
    }
