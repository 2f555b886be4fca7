-- The parts of the distribution service: its first checks, and what the hours are distributed from.
use Rattle.std.specs.Prelude.{◌&&◌, List, [], ◌∷◌, ◌≡◌, ℕ, ◌*◌, ◌≤◌, ◌<◌, eqb, length}
use Rattle.distribute.specs.Good.{Startable}
use Rattle.rules.specs.Limits.{most_hours, most_parties, greatest_residual}
use Rattle.rules.specs.Refusals.{out_of_range, wrong_length, Verdict, unless, first}
use Rattle.rules.specs.Words.{at, within}

-- 16, then 4 for H and P
unfoldable pub shape_verdict : ℕ → ℕ → ℕ → Verdict
shape_verdict lent parties hours =
    first
    (unless (eqb lent (parties * hours)) wrong_length 0
    ∷ unless (within 1 most_hours hours && within 1 most_parties parties) out_of_range 0
    ∷ [])

-- what the hours are distributed from
pub record Distributable (shares residuals : List ℕ) (lent : ℕ) : Type 0 where
  pub startable : Startable shares
  pub some_parties : 1 ≤ length shares
  pub few_hours : length residuals ≤ most_hours
  pub residuals_fit : (t : ℕ) → t < length residuals → at residuals t ≤ greatest_residual
  pub size : lent ≡ length residuals * length shares
