-- The checks of the residual service in parts, as the code goes through them, and what a later pass may take as known of the earlier ones.
use Rattle.std.specs.Prelude.{◌&&◌, List, [], ◌∷◌, ◌≡◌, ℕ, ◌<◌, eqb, ℤ, length}
use Rattle.residual.specs.Hour.{WithinLimits, flows_here}
use Rattle.rules.specs.Flows.{residual}
use Rattle.rules.specs.Limits.{estimated, greatest_flow, most_hours}
use Rattle.rules.specs.Refusals.{out_of_range, wrong_length, Verdict, accepted, unless, first, in_turn}
use Rattle.rules.specs.Services.{at_ℤ, each_at, each_at_ℤ, hour_check}
use Rattle.rules.specs.Words.{at, within, within_ℤ, at_most}

-- 16; 4: lengths unequal, H. Of lengths alone.
unfoldable pub residual_shape : ℕ → ℕ → ℕ → ℕ → ℕ → ℕ → Verdict
residual_shape statuses nets productions hourlies flexes lent =
    first
    (unless (eqb lent statuses) wrong_length 0
    ∷ unless (eqb nets statuses && eqb productions statuses && eqb hourlies statuses && eqb flexes statuses) out_of_range 0
    ∷ unless (within 1 most_hours statuses) out_of_range 0
    ∷ [])

-- each list's values, lists in the order named
unfoldable pub ranges_of : List ℕ → List ℤ → List ℕ → List ℕ → List ℕ → Verdict
ranges_of statuses nets productions hourlies flexes =
    first
    (each_at statuses (at_most estimated) out_of_range
    ∷ each_at_ℤ nets (within_ℤ greatest_flow) out_of_range
    ∷ each_at productions (at_most greatest_flow) out_of_range
    ∷ each_at hourlies (at_most greatest_flow) out_of_range
    ∷ each_at flexes (at_most greatest_flow) out_of_range
    ∷ [])

-- lists of one length
pub record SameLengths (statuses : List ℕ) (nets : List ℤ) (productions hourlies flexes : List ℕ) : Type 0 where
  pub nets_many : length nets ≡ length statuses
  pub productions_many : length productions ≡ length statuses
  pub hourlies_many : length hourlies ≡ length statuses
  pub flexes_many : length flexes ≡ length statuses

-- lists of one length whose values are all within their ranges
pub record Ranged (statuses : List ℕ) (nets : List ℤ) (productions hourlies flexes : List ℕ) : Type 0 where
  pub lengths : SameLengths statuses nets productions hourlies flexes
  pub ranges : ranges_of statuses nets productions hourlies flexes ≡ accepted

-- and whose hours have all been judged to have their figure
pub record Judged (statuses : List ℕ) (nets : List ℤ) (productions hourlies flexes : List ℕ) : Type 0 where
  pub ranged : Ranged statuses nets productions hourlies flexes
  pub hours : in_turn (length statuses) (hour_check statuses nets productions hourlies flexes) ≡ accepted

-- the residual of an hour of four series
abbrev pub residual_here : List ℤ → List ℕ → List ℕ → List ℕ → ℕ → ℤ
residual_here nets productions hourlies flexes t =
    residual (flows_here 0 (at_ℤ nets t) (at productions t) (at hourlies t) (at flexes t))

-- an hour of four series whose flows are within their limits
pub record WithinLimitsAt (nets : List ℤ) (productions hourlies flexes : List ℕ) (t : ℕ) : Type 0 where
  pub of_nets : t < length nets
  pub of_productions : t < length productions
  pub of_hourlies : t < length hourlies
  pub of_flexes : t < length flexes
  pub limits : WithinLimits (at_ℤ nets t) (at productions t) (at hourlies t) (at flexes t)
