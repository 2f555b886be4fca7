-- The checks of the curve service in parts, as the code goes through them, and what a later pass may take as known of the earlier ones.
use Rattle.std.specs.Prelude.{List, [], ◌∷◌, ◌≡◌, ℕ, ◌<◌, eqb}
use Rattle.rules.specs.Limits.{most_hours, greatest_w}
use Rattle.rules.specs.Refusals.{out_of_range, w_out_of_range, curve_too_large, wrong_length, Verdict, accepted, unless, first}
use Rattle.rules.specs.Services.{each_at, curve_fits}
use Rattle.rules.specs.Words.{within}

-- 16; 4 (H); 6. Of lengths and W alone.
unfoldable pub curve_shape : ℕ → ℕ → ℕ → Verdict
curve_shape hours w lent =
    first
    (unless (eqb lent hours) wrong_length 0
    ∷ unless (within 1 most_hours hours) out_of_range 0
    ∷ unless (within 1 greatest_w w) w_out_of_range 0
    ∷ [])

-- a W that divides, and residuals whose curve numbers all fit
pub record CurveReady (residuals : List ℕ) (w : ℕ) : Type 0 where
  pub some : 0 < w
  pub fitting : each_at residuals (curve_fits w) curve_too_large ≡ accepted
