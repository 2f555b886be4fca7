-- The hours of a month passed one after the other: of each the sum of its distributed and of its periodised figures is kept, and the distances so far.
use Rattle.std.specs.Prelude.{List, ◌≡◌, ℕ, suc, ◌-◌, ◌≤◌, ◌<◌, eqb, ℤ, pos, set, Result, Ok}
use Rattle.answer.specs.Said.{said}
use Rattle.answer.specs.declared.Refused.{Refused}
use Rattle.apportion.specs.Filled.{Filled}
use Rattle.distribute.specs.Good.{Good}
use Rattle.report_distances.specs.Extremes.{With}
use Rattle.report_distances.specs.declared.Distances.{Distances}
use Rattle.hour_settled.specs.Column.{column, Column, EachInHour, addable}
use Rattle.hour_settled.specs.Sums.{Summable}
use Rattle.month_walk.specs.declared.Walk.{Walk}
use Rattle.rules.specs.HoursReport.{all_distributed, smallest_distance, largest_distance}
use Rattle.rules.specs.Month.{all_periodised, periodised_verdict}
use Rattle.rules.specs.MonthFile.{MonthFile, H, P}
use Rattle.rules.specs.Refusals.{in_turn}
use Rattle.rules.specs.Services.{at_ℤ}
use Rattle.rules.specs.Words.{sum, sum_ℤ, figures}
use Rattle.rules.proofs.Loops.{Filling}

-- one hour can be passed: its figures and its column of a window can be added up, and there is a place for each sum
pub record HourAsked (w : Walk) (t : ℕ) (window : List ℕ) (distributed periodised : ℕ) : Type 0 where
  pub good : Good w.carries
  pub begun : w.held.start ≤ t
  pub summable : Summable w.carries.figures w.carries.parties
  pub column_there : Column window w.held.hours (t - w.held.start) w.carries.parties
  pub light : EachInHour addable window w.held.hours (t - w.held.start) w.carries.parties
  pub distributed_there : t < distributed
  pub periodised_there : t < periodised

-- and is
pub record HourPassed (x : Distances) (w : Walk) (t : ℕ) (window : List ℕ) (d₀ : List ℤ) (p₀ : List ℕ) (r : Distances) (d : List ℤ) (p : List ℕ) : Type 0 where
  pub distances : With x w.carries (eqb t 0) r
  pub distributed : d ≡ set d₀ t (sum_ℤ w.carries.parties (at_ℤ w.carries.figures))
  pub periodised : p ≡ set p₀ t (sum w.carries.parties (column window w.held.hours (t - w.held.start)))

-- the smallest and the largest distances after the first t hours, where there is one
pub record Measured (m : MonthFile) (t : ℕ) (x : Distances) : Type 0 where
  pub smallest : (last : ℕ) → suc last ≡ t → Filled (pos 0) (smallest_distance m last) (P m) x.smallest
  pub largest : (last : ℕ) → suc last ≡ t → Filled (pos 0) (largest_distance m last) (P m) x.largest

-- THE FIRST t HOURS ARE PASSED
pub record PassedTo (m : MonthFile) (t : ℕ) (x : Distances) (d : List ℤ) (p : List ℕ) : Type 0 where
  pub measured : Measured m t x
  pub distributed : Filling (all_distributed m) (H m) d t
  pub periodised : Filling (all_periodised m) (H m) p t

-- a place for each hour's sums
pub record SumsLent (m : MonthFile) (distributed periodised : ℕ) : Type 0 where
  pub distributed_size : distributed ≡ H m
  pub periodised_size : periodised ≡ H m

-- ALL HOURS OF THE MONTH
pub record MonthPassed (m : MonthFile) (r : Result Distances Refused) (d : List ℤ) (p : List ℕ) : Type 0 where
  pub verdict : said r ≡ in_turn (H m) (periodised_verdict m)
  pub after : (x : Distances) → r ≡ Ok x → PassedTo m (H m) x d p
