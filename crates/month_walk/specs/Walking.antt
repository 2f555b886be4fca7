-- A walk through the hours of a month: what it is made of, what a window's places hold, where the walk stands, and what a step comes to.
use Rattle.std.specs.Prelude.{List, ◌≡◌, ℕ, ◌+◌, ◌*◌, ◌≤◌, ◌<◌, ℤ, length, Result, Ok, Err}
use Rattle.answer.specs.Said.{said}
use Rattle.answer.specs.declared.Refused.{Refused}
use Rattle.distribute.specs.Good.{Started}
use Rattle.distribute.specs.declared.Carries.{Carries}
use Rattle.file_sections.specs.Walk.{Accepted}
use Rattle.file_sections.specs.declared.Sections.{Sections}
use Rattle.hour_settled.specs.Column.{column}
use Rattle.month_series.specs.Series.{beginnings_of}
use Rattle.month_walk.specs.declared.Held.{Held}
use Rattle.month_walk.specs.declared.Walk.{Walk}
use Rattle.month_walk.specs.Hours.{DistributedIs, Carried}
use Rattle.rules.specs.Month.{month_of, share_of, applied_wh, curve, periodised, reading_verdict, periodised_verdict}
use Rattle.rules.specs.MonthFile.{MonthFile, H, P}
use Rattle.rules.specs.Refusals.{accepted, in_turn}
use Rattle.rules.specs.Refusals as R
use Rattle.rules.specs.Words.{figures}
use Rattle.rules.proofs.Month.{Judged}

-- the places of a window: 8,192 figures of 8 bytes are 64 KiB
abbrev pub window_places : ℕ
window_places = 8192

-- what every window of the month is made of
pub record WindowsKnown (file : List ℕ) (s : Sections) (curveNumbers beginnings : List ℕ) : Type 0 where
  pub accepted : Accepted file s
  pub judged : Judged (month_of file)
  pub curve_is : curveNumbers ≡ figures (H (month_of file)) (curve (month_of file))
  pub readings_pass : (j : ℕ) → j < length (month_of file).readings → reading_verdict (month_of file) j ≡ R.accepted
  pub beginnings_are : beginnings ≡ beginnings_of (month_of file)

-- and what every hour is made of
pub record MonthKnown (file : List ℕ) (s : Sections) (applied curveNumbers beginnings : List ℕ) : Type 0 where
  pub windows : WindowsKnown file s curveNumbers beginnings
  pub applied_is : applied ≡ figures (H (month_of file)) (applied_wh (month_of file))

-- the carries that a month begins with
pub record Beginning (file : List ℕ) (c : Carries) : Type 0 where
  pub started : Started (figures (P (month_of file)) (share_of (month_of file))) c

-- a window can begin at this hour: none before it is refused with 14
pub record NextAsked (m : MonthFile) (start lent : ℕ) : Type 0 where
  pub hour : start < H m
  pub passed : in_turn start (periodised_verdict m) ≡ accepted
  pub size : lent ≡ window_places

-- WHAT A WINDOW'S PLACES HOLD: party after party, in so many places each, what is periodised in these hours
pub record WindowIs (m : MonthFile) (x : Held) (window : List ℕ) : Type 0 where
  pub size : length window ≡ window_places
  pub inside : x.start + x.hours ≤ H m
  pub fits : P m * x.hours ≤ window_places
  pub each : (i k : ℕ) → i < P m → k < x.hours → column window x.hours k i ≡ periodised m (x.start + k) i

-- whichever hours these are, and one of them at least: the window is lent for the walk alone, and what it holds afterwards is that of the hours walked last
pub record SomeWindow (m : MonthFile) (window : List ℕ) : Type 0 where
  pub held : Held
  pub some : 1 ≤ held.hours
  pub is : WindowIs m held window

-- a window up to whose last hour none is refused with 14
pub record Holds (m : MonthFile) (x : Held) (window : List ℕ) : Type 0 where
  pub is : WindowIs m x window
  pub passed : in_turn (x.start + x.hours) (periodised_verdict m) ≡ accepted

-- an hour of the month that is in the window, or next after it
pub record Holding (m : MonthFile) (x : Held) (t : ℕ) (window : List ℕ) : Type 0 where
  pub holds : Holds m x window
  pub begun : x.start ≤ t
  pub come : t ≤ x.start + x.hours
  pub hour : t < H m

-- and one that is in it
pub record HoldsHour (m : MonthFile) (x : Held) (t : ℕ) (window : List ℕ) : Type 0 where
  pub holds : Holds m x window
  pub begun : x.start ≤ t
  pub left : t < x.start + x.hours

-- the window of hour t; and the verdict of 14 over the whole month where one of its hours is refused
pub record OpenedIs (m : MonthFile) (t : ℕ) (r : Result Held Refused) (window : List ℕ) : Type 0 where
  pub window_is : SomeWindow m window
  pub opened : (x : Held) → r ≡ Ok x → HoldsHour m x t window
  pub stopped : (x : Refused) → r ≡ Err x → said r ≡ in_turn (H m) (periodised_verdict m)

-- WHERE A WALK STANDS
pub record Walked (m : MonthFile) (w : Walk) (window : List ℕ) : Type 0 where
  pub carried : Carried m w.t w.carries
  pub holds : Holds m w.held window
  pub begun : w.held.start ≤ w.t
  pub come : w.t ≤ w.held.start + w.held.hours
  -- the hour walked last is one of the window's
  pub last : 1 ≤ w.t → w.held.start < w.t

-- before the first hour
abbrev pub begun : Carries → Walk
begun c = record { carries = c; t = 0; held = record { start = 0; hours = 0 } }

-- a step can be taken: there is an hour left
pub record StepAsked (m : MonthFile) (w : Walk) (window : List ℕ) : Type 0 where
  pub walked : Walked m w window
  pub hour : w.t < H m

-- THE WALK HAS COME PAST HOUR t: its distributed figures are those of the carries, and its periodised ones stand in the window
pub record HourOn (m : MonthFile) (t : ℕ) (w : Walk) (window : List ℕ) : Type 0 where
  pub walked : Walked m w window
  pub one_on : w.t ≡ t + 1
  pub hour : HoldsHour m w.held t window
  pub distributed : DistributedIs m t w.carries.figures

-- WHAT A STEP COMES TO
pub record SteppedIs (m : MonthFile) (t : ℕ) (r : Result Walk Refused) (window : List ℕ) : Type 0 where
  pub window_is : SomeWindow m window
  pub on : (w : Walk) → r ≡ Ok w → HourOn m t w window
  pub stopped : (x : Refused) → r ≡ Err x → said r ≡ in_turn (H m) (periodised_verdict m)

-- an hour of a window can be settled
pub record HourAsked (file : List ℕ) (s : Sections) (t residual : ℕ) (x : Held) (distributed : List ℤ) (window : List ℕ) : Type 0 where
  pub accepted : Accepted file s
  pub judged : Judged (month_of file)
  pub residual_is : residual ≡ applied_wh (month_of file) t
  pub distributed_are : DistributedIs (month_of file) t distributed
  pub hour : HoldsHour (month_of file) x t window
