-- The series of a month that a file is read as (01 "From flows to the curve" and "Refusal numbers"): the fixed and the refixed hours, their residuals, and the
-- curve's sums up to each hour.
use Rattle.std.specs.Prelude.{Bool, cond, List, [], ◌∷◌, ◌≡◌, ℕ, suc, ◌<◌, eqb, length, Result, Ok}
use Rattle.answer.specs.Said.{said}
use Rattle.answer.specs.declared.Refused.{Refused}
use Rattle.file_sections.specs.Walk.{Accepted}
use Rattle.file_sections.specs.declared.Sections.{Sections}
use Rattle.periodise.specs.declared.Spread.{Spread}
use Rattle.rules.specs.Flows.{Flows, residual_wh}
use Rattle.rules.specs.Limits as Limits
use Rattle.rules.specs.Month.{flows_at, curve, weight_before, whole_weight, weights_fit, follows_whole, hour_verdict, is_estimated}
use Rattle.rules.specs.MonthFile.{MonthFile, H}
use Rattle.rules.specs.Record.{Reading}
use Rattle.rules.specs.Refusals.{whole_exceeded, nothing_to_follow, Verdict, accepted, unless, in_turn}
use Rattle.rules.specs.Words as Words

-- "There is a fixed series and possibly a refixed one."
unfoldable pub series_of : MonthFile → Bool → List Flows
series_of m refixed = cond refixed m.refixed m.fixed

-- "Residual of an hour"
unfoldable pub residual_at : List Flows → ℕ → ℕ
residual_at series t = residual_wh (flows_at series t)

-- how many hours a file's sections have of either series
abbrev pub hours_in : Sections → Bool → ℕ
hours_in s refixed = cond refixed s.refixed s.heading.hours

-- what the weights before an hour add up to: the weights from a to before b are then those before b less those before a
unfoldable pub beginning : (ℕ → ℕ) → ℕ → ℕ
beginning weight t = Words.sum t weight

-- those of a month's curve: before each of its hours, and over all of them
abbrev pub beginnings_of : MonthFile → List ℕ
beginnings_of m = Words.figures (suc (H m)) (beginning (curve m))

-- an hour of an accepted file's series
pub record HourAsked (file : List ℕ) (s : Sections) (refixed : Bool) (t : ℕ) : Type 0 where
  pub accepted : Accepted file s
  pub hour : t < hours_in s refixed

-- "the number of applied hours with status 2": 1 for such an hour
abbrev pub estimated_one : ℕ → ℕ
estimated_one status = cond (eqb status Limits.estimated) 1 0

-- a reading as it is spread, by the month's own weight: E, the weight before this month, the weight of the whole reading (02, W3)
abbrev pub spread_of : Reading → ℕ → Spread
spread_of r own = record { e_wh = r.e; before = weight_before r.over; whole = whole_weight r.over own }

-- 18 and then 13 of it: the rules' `reading_checks`
unfoldable pub spread_checks : Spread → ℕ → ℕ → List Verdict
spread_checks s own place =
    unless (weights_fit s.before own s.whole) whole_exceeded place
    ∷ unless (follows_whole s.e_wh s.whole) nothing_to_follow place
    ∷ []

-- "then the fixed hours in order, each 7, 8, 9; the refixed hours likewise": a series that was judged, the first hour that has no figure, or the figures of all
-- hours and how many of them are estimated
pub record SeriesIs (series : List Flows) (r : Result ℕ Refused) (out : List ℕ) : Type 0 where
  pub verdict : said r ≡ in_turn (length series) (hour_verdict series)
  pub figures : said r ≡ accepted → out ≡ Words.figures (length series) (residual_at series)
  pub estimated : (n : ℕ) → r ≡ Ok n → n ≡ Words.count (length series) (is_estimated series)
