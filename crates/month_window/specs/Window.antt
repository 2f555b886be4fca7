-- The periodised consumption of all parties in a window of hours (01 "Periodised consumption"; H2 6.2). "None of its buffers is larger than 64 KiB" (01 "The
-- statement program"), so a month's hours go in windows. A reading costs only its own hours in a window: what it weighs before them is a difference of two
-- beginnings of the curve.
use Rattle.std.specs.Prelude.{cond, ◌&&◌, List, ◌≡◌, ℕ, suc, ◌+◌, ◌-◌, ◌*◌, ◌^◌, ◌≤◌, ◌<◌, eqb, leb, ltb, length}
use Rattle.file_sections.specs.Walk.{Accepted}
use Rattle.file_sections.specs.declared.Sections.{Sections}
use Rattle.month_series.specs.Series.{beginning}
use Rattle.rules.specs.Limits.{greatest_energy, greatest_whole}
use Rattle.rules.specs.Month.{curve, weight_before, whole_weight, month_of, periodised, reading_verdict}
use Rattle.rules.specs.MonthFile.{MonthFile, H, P}
use Rattle.rules.specs.Periodised.{periodised_figure}
use Rattle.rules.specs.Record.{Reading}
use Rattle.rules.specs.Refusals as R
use Rattle.rules.specs.Words.{sum, at, figures}

-- A window of hours: party after party, each with `hours` places, the figures of the hours from `start` on.
pub record Window (m : MonthFile) (start hours : ℕ) (w : List ℕ) : Type 0 where
  pub size : length w ≡ P m * hours
  pub each : (i k : ℕ) → i < P m → k < hours → at w (i * hours + k) ≡ periodised m (start + k) i

-- What is asked for one: an accepted file, its curve and the curve's beginnings, readings that neither 18 nor 13 refuses, hours of the month, and a place lent
-- for each party and hour.
pub record Asked (file : List ℕ) (s : Sections) (curveNumbers beginnings : List ℕ) (start hours lent : ℕ) : Type 0 where
  pub accepted : Accepted file s
  pub curve_is : curveNumbers ≡ figures (H (month_of file)) (curve (month_of file))
  pub beginnings_are : beginnings ≡ figures (suc (H (month_of file))) (beginning (curve (month_of file)))
  pub readings_pass : (j : ℕ) → j < length (month_of file).readings → reading_verdict (month_of file) j ≡ R.accepted
  pub inside : start + hours ≤ H (month_of file)
  pub size : lent ≡ P (month_of file) * hours

-- The month's own weight of a reading, the weight of the whole reading, and its figure in hour t by these curve numbers: the rules' `S`, `whole_of` and
-- `reading_figure`, told of the curve alone.
unfoldable pub own_by : (ℕ → ℕ) → Reading → ℕ
own_by weight r = sum (r.b - r.a) (λ k. weight (r.a + k))

unfoldable pub whole_by : (ℕ → ℕ) → Reading → ℕ
whole_by weight r = whole_weight r.over (own_by weight r)

unfoldable pub figure_by : (ℕ → ℕ) → Reading → ℕ → ℕ
figure_by weight r t =
    cond (leb r.a t && ltb t r.b) (periodised_figure r.e (weight_before r.over) (whole_by weight r) (λ k. weight (r.a + k)) (t - r.a)) 0

-- its weights lie inside the whole, which is not too heavy: 18 does not apply
abbrev pub FitsBy : (ℕ → ℕ) → Reading → Type 0
FitsBy weight r = (weight_before r.over + own_by weight r ≤ whole_by weight r) × (whole_by weight r ≤ greatest_whole)

-- what it gives party i in hour t: the rules' `figure_for`
unfoldable pub figure_to : (ℕ → ℕ) → Reading → ℕ → ℕ → ℕ
figure_to weight r i t = cond (eqb r.party i) (figure_by weight r t) 0

-- A reading to be added to a window: it lies in the month, its party has places there, and each of them has room for its E.
pub record Taken (r : Reading) (curveNumbers beginnings : List ℕ) (start hours : ℕ) (out : List ℕ) : Type 0 where
  pub energy : r.e ≤ greatest_energy
  pub forwards : r.a ≤ r.b
  pub in_month_holds : r.b ≤ length curveNumbers
  pub weights : FitsBy (at curveNumbers) r
  pub all_begun : length beginnings ≡ suc (length curveNumbers)
  pub begun : (t : ℕ) → t ≤ length curveNumbers → at beginnings t ≡ beginning (at curveNumbers) t
  pub inside : start + hours ≤ length curveNumbers
  pub places : r.party * hours + hours ≤ length out
  pub room : (k : ℕ) → k < hours → at out (r.party * hours + k) + greatest_energy < 2 ^ 64

-- and added: each party's place has the reading's figure for it besides
pub record Added (r : Reading) (curveNumbers : List ℕ) (start hours : ℕ) (old out : List ℕ) : Type 0 where
  pub size : length out ≡ length old
  pub each : (i k : ℕ) → k < hours → at out (i * hours + k) ≡ at old (i * hours + k) + figure_to (at curveNumbers) r i (start + k)
