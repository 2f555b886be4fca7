-- The lines of the reviewer's report in the three lent buffers: the heading line and the first hours, the other hours, the parties.
use Rattle.std.specs.Prelude.{List, ◌++◌, ◌≡◌, ℕ, ◌+◌, ◌-◌, ◌*◌, ◌/◌, ◌≤◌, ◌<◌, min, ℤ, pos}
use Rattle.apportion.specs.Filled.{Filled}
use Rattle.report_distances.specs.declared.Distances.{Distances}
use Rattle.file_sections.specs.Walk.{Accepted}
use Rattle.file_sections.specs.declared.Sections.{Sections}
use Rattle.report_lines.specs.Rooms.{hour_room, distances_room}
use Rattle.rules.specs.HoursReport.{hour_line, all_distributed, smallest_distance, largest_distance, distances_line}
use Rattle.rules.specs.Limits.{most_hours, most_parties, greatest_periodised}
use Rattle.rules.specs.Month.{month_of, month_w, fixed_wh, applied_wh, curve, all_periodised, estimated_hours}
use Rattle.rules.specs.MonthFile.{MonthFile, H, P}
use Rattle.rules.specs.Statement.{heading_line, joined}
use Rattle.rules.specs.Words.{figures}
use Rattle.statement_lines.specs.Rooms.{heading_room}

-- so many hours' lines go into the first buffer: all together could pass 64 KiB
abbrev pub first_hours : ℕ
first_hours = most_hours / 2 + 1

-- the most bytes of the heading line and the first hours, of the other hours, and of the parties
abbrev pub first_room : ℕ
first_room = heading_room + first_hours * hour_room

abbrev pub rest_room : ℕ
rest_room = (most_hours - first_hours) * hour_room

abbrev pub parties_room : ℕ
parties_room = most_parties * distances_room

-- the line of an hour, counted from hour `start` on
unfoldable pub line_from : MonthFile → ℕ → ℕ → List ℕ
line_from m start k = hour_line m (start + k)

-- WHAT STANDS IN THE THREE BUFFERS
unfoldable pub first_part : MonthFile → List ℕ
first_part m = heading_line m ++ joined (figures (min (H m) first_hours) (hour_line m))

unfoldable pub rest_part : MonthFile → List ℕ
rest_part m = joined (figures (H m - first_hours) (line_from m first_hours))

unfoldable pub parties_part : MonthFile → List ℕ
parties_part m = joined (figures (P m) (distances_line m))

-- an accepted month with its figures hour by hour
pub record Known (file : List ℕ) (s : Sections) (fixed applied curveNumbers : List ℕ) (distributed : List ℤ) (periodised : List ℕ) : Type 0 where
  pub read : Accepted file s
  pub fixed_is : fixed ≡ figures (H (month_of file)) (fixed_wh (month_of file))
  pub applied_is : applied ≡ figures (H (month_of file)) (applied_wh (month_of file))
  pub curve_is : curveNumbers ≡ figures (H (month_of file)) (curve (month_of file))
  pub distributed_is : distributed ≡ figures (H (month_of file)) (all_distributed (month_of file))
  pub periodised_is : periodised ≡ figures (H (month_of file)) (all_periodised (month_of file))
  pub in_limit : (t : ℕ) → t < H (month_of file) → all_periodised (month_of file) t ≤ greatest_periodised

-- hours of the month
pub record Inside (file : List ℕ) (start hours : ℕ) : Type 0 where
  pub inside : start + hours ≤ H (month_of file)

-- the first hours, and the number of applied hours with status 2, which the heading line tells
pub record FirstAsked (file : List ℕ) (estimated hours : ℕ) : Type 0 where
  pub counted : estimated ≡ estimated_hours (month_of file)
  pub hours_are : hours ≡ min (H (month_of file)) first_hours

-- each lent buffer has its room
pub record Roomy (first rest parties : ℕ) : Type 0 where
  pub first_room_holds : first_room ≤ first
  pub rest_room_holds : rest_room ≤ rest
  pub parties_room_holds : parties_room ≤ parties

-- an accepted month with its parties' smallest and largest distances
pub record Distanced (file : List ℕ) (s : Sections) (w : ℕ) (x : Distances) : Type 0 where
  pub read : Accepted file s
  pub w_is : w ≡ month_w (month_of file)
  pub smallest_is : Filled (pos 0) (smallest_distance (month_of file) (H (month_of file) - 1)) (P (month_of file)) x.smallest
  pub largest_is : Filled (pos 0) (largest_distance (month_of file) (H (month_of file) - 1)) (P (month_of file)) x.largest

-- what is printed of one party is its smallest and its largest distance
pub record PartyAsked (file : List ℕ) (s : Sections) (w i : ℕ) (least most : ℤ) : Type 0 where
  pub read : Accepted file s
  pub party : i < P (month_of file)
  pub w_is : w ≡ month_w (month_of file)
  pub least_is : least ≡ smallest_distance (month_of file) (H (month_of file) - 1) i
  pub most_is : most ≡ largest_distance (month_of file) (H (month_of file) - 1) i
