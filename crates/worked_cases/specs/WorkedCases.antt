-- "The cases marked P stand together under a single proved statement about the rules" (01, "Figures to check against"): what the service answers that a
-- case asks, its figures or its refusal by number and place. Proved in proofs/WorkedCases.
use Rattle.std.specs.Prelude.{List, [], ◌∷◌, ◌≡◌, ℕ, ◌*◌, ℤ, pos, negsuc, length}
use Rattle.rules.specs.Limits.{missing, measured}
use Rattle.rules.specs.Refusals.{number_of, Verdict, accepted, refused, first}
use Rattle.rules.specs.Services.{residual_checks, residual_figures, curve_checks, curve_figures, distribution_checks, distribution_figures, periodisation_checks, periodisation_figures}
use Rattle.rules.specs.Services.{invoice_checks, invoice_figures}

-- what a caller reads: the service accepts and gives these figures, or it refuses with a number at a place
pub data Answered (A : Type 0) : Type 0 where
  gives : List A → Answered A
  refused_with : ℕ → ℕ → Answered A

unfoldable pub read : {A : Type 0} → Verdict → List A → Answered A
read accepted figures = gives figures
read (refused r place) figures = refused_with (number_of r) place

-- each service, lent an output of the needed length; the residual of one hour alone
unfoldable pub residual_of : ℕ → ℤ → ℕ → ℕ → ℕ → Answered ℕ
residual_of status net production hourly flex =
    read (first (residual_checks (status ∷ []) (net ∷ []) (production ∷ []) (hourly ∷ []) (flex ∷ []) 1))
    (residual_figures (status ∷ []) (net ∷ []) (production ∷ []) (hourly ∷ []) (flex ∷ []))

unfoldable pub curve_of : List ℕ → ℕ → Answered ℕ
curve_of residuals w = read (first (curve_checks residuals w (length residuals))) (curve_figures residuals w)

unfoldable pub distribution_of : List ℕ → List ℕ → Answered ℤ
distribution_of shares residuals =
    read (first (distribution_checks shares residuals (length shares * length residuals))) (distribution_figures shares residuals)

unfoldable pub periodisation_of : ℕ → List ℕ → Answered ℕ
periodisation_of e weights = read (first (periodisation_checks e weights (length weights))) (periodisation_figures e weights)

unfoldable pub invoice_of : List ℤ → Answered ℤ
invoice_of amounts = read (first (invoice_checks amounts (length amounts))) (invoice_figures amounts)

pub record WorkedCases : Type 0 where
  -- "R1 P: flows -5, 105, 40, 20 give 40."
  pub R1 : residual_of measured (negsuc 4) 105 40 20 ≡ gives (40 ∷ [])
  -- "R2 P: 10, 0, 6, 5 is refused with 8."
  pub R2 : residual_of measured (pos 10) 0 6 5 ≡ refused_with 8 0
  -- "R3 P: all zero, status 1, gives 0; status 0 is refused with 7."
  pub R3 : residual_of measured (pos 0) 0 0 0 ≡ gives (0 ∷ [])
  pub R3_missing : residual_of missing (pos 0) 0 0 0 ≡ refused_with 7 0
  -- "C1 P: 40,000,000 with W 10,000,000 gives 4,000,000."
  pub C1 : curve_of (40000000 ∷ []) 10000000 ≡ gives (4000000 ∷ [])
  -- "C2 P: 1 with W 3 gives 333,333."
  pub C2 : curve_of (1 ∷ []) 3 ≡ gives (333333 ∷ [])
  -- "C3 P: W 1: 1,000 accepted, 1,001 refused with 10."
  pub C3 : curve_of (1000 ∷ []) 1 ≡ gives (1000000000 ∷ [])
  pub C3_above : curve_of (1001 ∷ []) 1 ≡ refused_with 10 0
  -- "D1 P: shares 1, 1, 1, residuals 1, 1, 1: (1,0,0), (0,1,0), (0,0,1)."
  pub D1 :
      distribution_of (1 ∷ 1 ∷ 1 ∷ []) (1 ∷ 1 ∷ 1 ∷ [])
      ≡ gives (pos 1 ∷ pos 0 ∷ pos 0 ∷ pos 0 ∷ pos 1 ∷ pos 0 ∷ pos 0 ∷ pos 0 ∷ pos 1 ∷ [])
  -- "D3 P: shares 6, 6, 2, residuals 10, 1: (4,4,2), then (1,1,-1)."
  pub D3 : distribution_of (6 ∷ 6 ∷ 2 ∷ []) (10 ∷ 1 ∷ []) ≡ gives (pos 4 ∷ pos 4 ∷ pos 2 ∷ pos 1 ∷ pos 1 ∷ negsuc 0 ∷ [])
  -- "P1 P: E 10, weights 1, 1, 1: 3, 3, 4."
  pub P1 : periodisation_of 10 (1 ∷ 1 ∷ 1 ∷ []) ≡ gives (3 ∷ 3 ∷ 4 ∷ [])
  -- "P2 P: E 1, weights 0, 5, 5: 0, 0, 1."
  pub P2 : periodisation_of 1 (0 ∷ 5 ∷ 5 ∷ []) ≡ gives (0 ∷ 0 ∷ 1 ∷ [])
  -- "P3 P: E 7, weights 0, 0: refused with 13; E 0 accepted."
  pub P3 : periodisation_of 7 (0 ∷ 0 ∷ []) ≡ refused_with 13 0
  pub P3_nothing : periodisation_of 0 (0 ∷ 0 ∷ []) ≡ gives (0 ∷ 0 ∷ [])
  -- W2: "exact amounts of 0.5, 0.5 and -1 øre .. The example becomes 1, 0, -1. Case M1 is replaced by this one"
  pub M1 : invoice_of (pos 500000 ∷ pos 500000 ∷ negsuc 999999 ∷ []) ≡ gives (pos 1 ∷ pos 0 ∷ negsuc 0 ∷ [])
