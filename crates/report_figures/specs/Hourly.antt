-- The numbers of the reviewer's report of a month that was read: hour by hour the two sums over the parties, and each party's smallest and largest distance; or
-- the first refusal.
use Rattle.std.specs.Prelude.{List, ◌≡◌, ℕ, ◌-◌, ◌≤◌, ◌<◌, ℤ, pos, length, Result, Ok}
use Rattle.answer.specs.Said.{said}
use Rattle.answer.specs.declared.Refused.{Refused}
use Rattle.apportion.specs.Filled.{Filled}
use Rattle.file_sections.specs.Walk.{Accepted}
use Rattle.file_sections.specs.declared.Sections.{Sections}
use Rattle.report_figures.specs.declared.Hourly as D
use Rattle.month_prepare.specs.Checks.{making_verdict}
use Rattle.month_series.specs.Series.{residual_at}
use Rattle.setting.specs.Asked.{asked}
use Rattle.setting.specs.declared.Setting.{Setting}
use Rattle.rules.specs.HoursReport.{all_distributed, smallest_distance, largest_distance}
use Rattle.rules.specs.Limits.{greatest_periodised}
use Rattle.rules.specs.Month.{month_w, fixed_wh, curve, all_periodised, estimated_hours, month_verdict}
use Rattle.rules.specs.MonthFile.{MonthFile, H, P}
use Rattle.rules.specs.Refusals as R
use Rattle.rules.specs.Words.{figures}
use Rattle.rules.proofs.Month.{Judged}

-- a file that was read, and a place lent for each number of its hours
pub record HourlyAsked (file : List ℕ) (s : Sections) (fixed refixed curveNumbers distributed periodised : ℕ) : Type 0 where
  pub accepted : Accepted file s
  pub fixed_size : fixed ≡ s.heading.hours
  pub refixed_size : refixed ≡ s.refixed
  pub curve_size : curveNumbers ≡ s.heading.hours
  pub distributed_size : distributed ≡ s.heading.hours
  pub periodised_size : periodised ≡ s.heading.hours

-- THE NUMBERS OF A MONTH that no check refuses
pub record HourlyMade (m : MonthFile) (r : D.Hourly) (fixed refixed curveNumbers : List ℕ) (distributed : List ℤ) (periodised : List ℕ) : Type 0 where
  pub judged : Judged m
  pub estimated : r.estimated ≡ estimated_hours m
  pub w_is : r.w ≡ month_w m
  pub fixed_is : fixed ≡ figures (H m) (fixed_wh m)
  pub refixed_is : refixed ≡ figures (length m.refixed) (residual_at m.refixed)
  pub curve_is : curveNumbers ≡ figures (H m) (curve m)
  pub distributed_is : distributed ≡ figures (H m) (all_distributed m)
  pub periodised_is : periodised ≡ figures (H m) (all_periodised m)
  pub in_limit : (t : ℕ) → t < H m → all_periodised m t ≤ greatest_periodised
  pub smallest : Filled (pos 0) (smallest_distance m (H m - 1)) (P m) r.distances.smallest
  pub largest : Filled (pos 0) (largest_distance m (H m - 1)) (P m) r.distances.largest

pub record HourlyIs (setting : Setting) (m : MonthFile) (r : Result D.Hourly Refused) (fixed refixed curveNumbers : List ℕ) (distributed : List ℤ) (periodised : List ℕ) : Type 0 where
  pub verdict : said r ≡ month_verdict (asked setting) m
  pub made : (x : D.Hourly) → r ≡ Ok x → HourlyMade m x fixed refixed curveNumbers distributed periodised

-- what the hours of a month bring that nothing refuses before them, under whatever setting it was judged by: 14 by hour, or the numbers
pub record PassedIs (m : MonthFile) (r : Result D.Hourly Refused) (fixed refixed curveNumbers : List ℕ) (distributed : List ℤ) (periodised : List ℕ) : Type 0 where
  pub under : (setting : Setting) → making_verdict (asked setting) m ≡ R.accepted → HourlyIs setting m r fixed refixed curveNumbers distributed periodised
