-- Demand 3 (00) over a file's bytes, with the hypothesis that is its own; and of the figures that a caller gets hour by hour, by the call on a run of hours.
-- That both hold is proved in proofs/Distribution.
use Rattle.std.specs.Prelude.{List, ◌⊎◌, ◌≡◌, ℕ, ◌+◌, ◌*◌, ◌≤◌, ◌<◌, ℤ, pos, length, ◌≤ℤ◌}
use Rattle.distribute.specs.Demand.{Demand3Of}
use Rattle.rules.specs.Demands.{exact_share, down, up, distance}
use Rattle.rules.specs.Flows.{residual}
use Rattle.rules.specs.Limits.{greatest_w, greatest_residual}
use Rattle.rules.specs.Month.{share_of, month_w, applied_flows, applied_wh, distributed}
use Rattle.rules.specs.MonthFile.{MonthFile, H, P, read_month}
use Rattle.rules.specs.Refusals.{given}
use Rattle.rules.specs.Services.{at_ℤ}
use Rattle.rules.specs.Setting.{optional}
use Rattle.rules.specs.Words.{sum, sum_ℤ}

-- WHAT DEMAND 3 ASKS OF A FILE, and no more: a month whose fixed series is refused, or its curve, or its readings, has it too
pub record DistributionAsked (file : List ℕ) (m : MonthFile) : Type 0 where
  -- m is the month that the file is read as: without its prices needed, since demand 3 asks for none, and a file that has them is read alike
  pub read : read_month optional file ≡ given m
  -- "For a month whose load shares are accepted ..": "W 1..4,000,000,000"
  pub shares_accepted : (1 ≤ month_w m) × (month_w m ≤ greatest_w)
  -- ".. and whose applied residuals all lie within the limits": "Residual 0..2,000,000,000", of the flows' own sum, which can have either sign
  pub applied_within_limits : (t : ℕ) → t < H m → (pos 0 ≤ℤ residual (applied_flows m t)) × (residual (applied_flows m t) ≤ℤ pos greatest_residual)

-- WHAT THEN HOLDS of the month's distributed figures
pub record DistributionMeets (m : MonthFile) : Type 0 where
  -- the Wh that the exact shares below are taken of are the residual itself
  pub residual_is : (t : ℕ) → t < H m → residual (applied_flows m t) ≡ pos (applied_wh m t)
  -- "in every hour the parties' distributed figures add up to the residual to the Wh."
  pub adds_up_holds : (t : ℕ) → t < H m → sum_ℤ (P m) (distributed m t) ≡ residual (applied_flows m t)
  -- and every sentence of demand 3, over the month's hours and parties
  pub demand_3 : Demand3Of (distributed m) (P m) (H m) (share_of m) (applied_wh m)

-- what the output of a run holds for its j-th hour and party i: hour by hour, and within an hour party by party
unfoldable pub written : MonthFile → List ℤ → ℕ → ℕ → ℤ
written m held j i = at_ℤ held (j * P m + i)

-- a party's sum of written figures over so many hours, from the j-th of the run on
unfoldable pub written_over : MonthFile → List ℤ → ℕ → ℕ → ℕ → ℤ
written_over m held j hours i = sum_ℤ hours (λ u. written m held (j + u) i)

-- DEMAND 3 OF THE FIGURES OF A RUN of so many hours from hour `start` on: `held` is what the lent output of distributed figures holds once the call has accepted
pub record RunMeets (file : List ℕ) (m : MonthFile) (start hours : ℕ) (held : List ℤ) : Type 0 where
  -- the month has what demand 3 asks
  pub asked : DistributionAsked file m
  -- the run lies in the month, and a figure is written for each of its hours and each party, and nothing more
  pub some : 1 ≤ hours
  pub inside : start + hours ≤ H m
  pub size : length held ≡ hours * P m
  -- "in every hour the parties' distributed figures add up to the residual to the Wh."
  pub adds_up_holds : (j : ℕ) → j < hours → sum_ℤ (P m) (written m held j) ≡ residual (applied_flows m (start + j))
  -- "Over any run of hours the sum is less than 2 Wh from the exact share.": over the run, and over any part of it
  pub near :
      (j part i : ℕ)
      → j + part ≤ hours
      → i < P m
      → distance (month_w m) (written_over m held j part i) (exact_share (share_of m) (sum part (λ u. applied_wh m (start + j + u))) i)
      < 2 * month_w m
  -- "After every hour each party's sum of these since the month's first hour is its exact share of the residual so far, rounded down or up to a whole Wh.": of
  -- a run from that hour on
  pub rounded :
      start ≡ 0 → (t i : ℕ)
      → t ≤ hours
      → i < P m
      → (written_over m held 0 t i ≡ pos (down (month_w m) (exact_share (share_of m) (sum t (applied_wh m)) i)))
      ⊎ (written_over m held 0 t i ≡ pos (up (month_w m) (exact_share (share_of m) (sum t (applied_wh m)) i)))
  -- "A party with a larger load share never has the smaller sum since the first hour."
  pub larger :
      start ≡ 0 → (t i k : ℕ) → t ≤ hours → i < P m → k < P m → share_of m k < share_of m i → written_over m held 0 t k ≤ℤ written_over m held 0 t i
