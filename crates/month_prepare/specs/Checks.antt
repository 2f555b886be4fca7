-- The refusals after a file is read, up to the readings (01 "Refusal numbers"; 02, W1): 17; "Then 6; then the fixed hours in order, each 7, 8, 9; the refixed
-- hours likewise; 10 by hour; 13 by reading" (02, W3: 18 and 13); and what is made on the way. The setting decides the verdict; no figure depends on it.
use Rattle.std.specs.Prelude.{List, ◌≡◌, ℕ, suc, ◌+◌, ◌-◌, ◌<◌, length, replicate, take, drop, Result, Ok}
use Rattle.answer.specs.Said.{said}
use Rattle.answer.specs.declared.Refused.{Refused}
use Rattle.distribute.specs.Good.{Started}
use Rattle.distribute.specs.declared.Carries.{Carries}
use Rattle.month_prepare.specs.declared.Made.{Made}
use Rattle.month_prepare.specs.declared.Prepared.{Prepared}
use Rattle.file_sections.specs.Walk.{Accepted}
use Rattle.file_sections.specs.declared.Sections.{Sections}
use Rattle.setting.specs.Asked.{asked}
use Rattle.setting.specs.declared.Setting.{Setting}
use Rattle.month_series.specs.Series.{residual_at, beginnings_of}
use Rattle.rules.specs.Limits.{greatest_w, most_hours}
use Rattle.rules.specs.Month.{month_of, share_of, month_w, fixed_wh, curve, estimated_hours, refixed_verdict, hour_verdict, curve_verdict, reading_verdict}
use Rattle.rules.specs.MonthFile.{MonthFile, H, P}
use Rattle.rules.specs.Refusals.{w_out_of_range, Verdict, accepted, unless, and_then, in_turn}
use Rattle.rules.specs.Setting as R
use Rattle.rules.specs.Words as Words
use Rattle.rules.proofs.Month as M

-- the two series alone
unfoldable pub hours_verdict : MonthFile → Verdict
hours_verdict m = and_then (in_turn (H m) (hour_verdict m.fixed)) (in_turn (length m.refixed) (hour_verdict m.refixed))

-- W1: 17 "after the file is read and before 6"; "Then 6"
unfoldable pub weighed_verdict : R.Setting → MonthFile → Verdict
weighed_verdict setting m =
    and_then (refixed_verdict setting (length m.refixed))
    (unless (Words.within 1 greatest_w (month_w m)) w_out_of_range 0)

-- "then the fixed hours in order, each 7, 8, 9; the refixed hours likewise"
unfoldable pub series_verdict : R.Setting → MonthFile → Verdict
series_verdict setting m = and_then (weighed_verdict setting m) (hours_verdict m)

-- "10 by hour; 13 by reading", W3: and 18 before 13 of the same reading
unfoldable pub curve_readings_verdict : MonthFile → Verdict
curve_readings_verdict m = and_then (in_turn (H m) (curve_verdict m)) (in_turn (length m.readings) (reading_verdict m))

-- every check before the hours
unfoldable pub making_verdict : R.Setting → MonthFile → Verdict
making_verdict setting m = and_then (series_verdict setting m) (curve_readings_verdict m)

pub record BothAsked (file : List ℕ) (s : Sections) (fixed refixed : ℕ) : Type 0 where
  pub accepted : Accepted file s
  pub fixed_size : fixed ≡ s.heading.hours
  pub refixed_size : refixed ≡ s.refixed

pub record BothKnown (m : MonthFile) (r : Result ℕ Refused) (fixed refixed : List ℕ) : Type 0 where
  pub verdict : said r ≡ hours_verdict m
  pub fixed_is : said r ≡ accepted → fixed ≡ Words.figures (H m) (fixed_wh m)
  pub refixed_is : said r ≡ accepted → refixed ≡ Words.figures (length m.refixed) (residual_at m.refixed)
  pub estimated : (n : ℕ) → r ≡ Ok n → n ≡ estimated_hours m

-- 17, "Then 6": the setting, W, and the carries before the first hour
pub record WeighedIs (setting : Setting) (m : MonthFile) (r : Result Carries Refused) : Type 0 where
  pub verdict : said r ≡ weighed_verdict (asked setting) m
  pub started : (c : Carries) → r ≡ Ok c → Started (Words.figures (P m) (share_of m)) c

-- what the curve is made of: hours that are judged, and W
pub record CurveAsked (file : List ℕ) (s : Sections) (fixed : List ℕ) (w curveNumbers beginnings : ℕ) : Type 0 where
  pub accepted : Accepted file s
  pub judged : M.Judged (month_of file)
  pub fixed_is : fixed ≡ Words.figures (H (month_of file)) (fixed_wh (month_of file))
  pub w_is : w ≡ month_w (month_of file)
  pub curve_size : curveNumbers ≡ H (month_of file)
  pub beginnings_size : beginnings ≡ suc (H (month_of file))

pub record CurveKnown (m : MonthFile) (v : Verdict) (curveNumbers beginnings : List ℕ) : Type 0 where
  pub verdict : v ≡ curve_readings_verdict m
  pub curve_is : v ≡ accepted → curveNumbers ≡ Words.figures (H m) (curve m)
  pub beginnings_are : v ≡ accepted → beginnings ≡ beginnings_of m

-- a place lent for each hour, curve number and beginning
pub record MakingAsked (file : List ℕ) (s : Sections) (fixed refixed curveNumbers beginnings : ℕ) : Type 0 where
  pub accepted : Accepted file s
  pub fixed_size : fixed ≡ s.heading.hours
  pub refixed_size : refixed ≡ s.refixed
  pub curve_size : curveNumbers ≡ s.heading.hours
  pub beginnings_size : beginnings ≡ suc s.heading.hours

-- WHAT IS MADE of a month that none of these checks refuses
pub record Making (m : MonthFile) (r : Made) (fixed refixed curveNumbers beginnings : List ℕ) : Type 0 where
  pub judged : M.Judged m
  pub estimated : r.estimated ≡ estimated_hours m
  pub started : Started (Words.figures (P m) (share_of m)) r.carries
  pub fixed_is : fixed ≡ Words.figures (H m) (fixed_wh m)
  pub refixed_is : refixed ≡ Words.figures (length m.refixed) (residual_at m.refixed)
  pub curve_is : curveNumbers ≡ Words.figures (H m) (curve m)
  pub readings_pass : (j : ℕ) → j < length m.readings → reading_verdict m j ≡ accepted
  pub beginnings_are : beginnings ≡ beginnings_of m

pub record MadeIs (setting : Setting) (m : MonthFile) (r : Result Made Refused) (fixed refixed curveNumbers beginnings : List ℕ) : Type 0 where
  pub verdict : said r ≡ making_verdict (asked setting) m
  pub made : (x : Made) → r ≡ Ok x → Making m x fixed refixed curveNumbers beginnings

-- the same, of arrays with a place for each hour that a month can have; behind those of the month each place has 0
pub record Placed (file : List ℕ) (s : Sections) (r : Prepared) : Type 0 where
  pub fixed_places : length r.fixed_wh ≡ most_hours
  pub refixed_places : length r.refixed_wh ≡ most_hours
  pub curve_places : length r.curve ≡ most_hours
  pub beginnings_places : length r.beginnings ≡ suc most_hours
  pub fixed_past : drop s.heading.hours r.fixed_wh ≡ replicate (most_hours - s.heading.hours) 0
  pub refixed_past : drop s.refixed r.refixed_wh ≡ replicate (most_hours - s.refixed) 0
  pub curve_past : drop s.heading.hours r.curve ≡ replicate (most_hours - s.heading.hours) 0
  pub beginnings_past : drop (s.heading.hours + 1) r.beginnings ≡ replicate (suc most_hours - (s.heading.hours + 1)) 0
  pub is :
      Making (month_of file) r.made
      (take s.heading.hours r.fixed_wh) (take s.refixed r.refixed_wh)
      (take s.heading.hours r.curve) (take (s.heading.hours + 1) r.beginnings)

pub record PreparedIs (setting : Setting) (file : List ℕ) (s : Sections) (r : Result Prepared Refused) : Type 0 where
  pub verdict : said r ≡ making_verdict (asked setting) (month_of file)
  pub prepared : (x : Prepared) → r ≡ Ok x → Placed file s x
