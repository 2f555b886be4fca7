-- How far each party's running sum is from its exact share after an hour, by the hour's carries, and the smallest and the largest of that so far.
use Rattle.std.specs.Prelude.{Bool, cond, List, ℕ, ◌*◌, ◌≤◌, ◌<◌, ℤ, pos, ◌-ℤ◌, ◌*ℤ◌, replicate}
use Rattle.apportion.specs.Filled.{Filled}
use Rattle.distribute.specs.Good.{share_in}
use Rattle.distribute.specs.declared.Carries.{Carries}
use Rattle.report_distances.specs.declared.Distances.{Distances}
use Rattle.rules.specs.Demands.{exact_share}
use Rattle.rules.specs.Distributed.{running_sum}
use Rattle.rules.specs.HoursReport.{smaller, larger}
use Rattle.rules.specs.Limits.{most_parties, greatest_w}
use Rattle.rules.specs.Services.{at_ℤ}
use Rattle.rules.specs.Words.{at}

-- A PARTY'S DISTANCE AFTER THE CARRIES' RESIDUALS, in W-ths of a Wh: its running sum less its exact share of them
unfoldable pub distance_in : Carries → ℕ → ℤ
distance_in c i =
    pos (running_sum c.parties (share_in c) c.sum_wh i) *ℤ pos c.w -ℤ pos (exact_share (share_in c) c.sum_wh i)

-- the same by what the party has of the Wh left over, and its remainder
abbrev pub distance_of : ℕ → ℕ → ℕ → ℤ
distance_of extra remainder w = pos (extra * w) -ℤ pos remainder

unfoldable pub distance_by : List ℕ → List ℕ → ℕ → ℕ → ℤ
distance_by extra remainder w i = distance_of (at extra i) (at remainder i) w

-- so it lies within W
pub record Near (extra remainder w : ℕ) : Type 0 where
  pub one : extra ≤ 1
  pub rest : remainder < w
  pub w_fits : w ≤ greatest_w

-- the smaller and the larger of the kept and the hour's, party by party
unfoldable pub smaller_in : List ℤ → List ℤ → ℕ → ℤ
smaller_in kept here i = smaller (at_ℤ kept i) (at_ℤ here i)

unfoldable pub larger_in : List ℤ → List ℤ → ℕ → ℤ
larger_in kept here i = larger (at_ℤ kept i) (at_ℤ here i)

pub record Widened (least most here : List ℤ) (n : ℕ) (r : Distances) : Type 0 where
  pub smallest : Filled (pos 0) (smaller_in least here) n r.smallest
  pub largest : Filled (pos 0) (larger_in most here) n r.largest

-- with one hour more, or with the first
unfoldable pub smallest_with : Bool → List ℤ → (ℕ → ℤ) → ℕ → ℤ
smallest_with first kept here i = cond first (here i) (smaller (at_ℤ kept i) (here i))

unfoldable pub largest_with : Bool → List ℤ → (ℕ → ℤ) → ℕ → ℤ
largest_with first kept here i = cond first (here i) (larger (at_ℤ kept i) (here i))

pub record With (kept : Distances) (c : Carries) (first : Bool) (r : Distances) : Type 0 where
  pub smallest : Filled (pos 0) (smallest_with first kept.smallest (distance_in c)) c.parties r.smallest
  pub largest : Filled (pos 0) (largest_with first kept.largest (distance_in c)) c.parties r.largest

-- before the first hour
abbrev pub no_distances : Distances
no_distances = record { smallest = replicate most_parties (pos 0); largest = replicate most_parties (pos 0) }
