-- The hours of a month passed: where the loop stands, and what a step leaves of it.
use mathlib.Core.List.{List}
use mathlib.Core.Path.{◌≡◌, sym, ◌∙◌, ap}
use Prim.Native.Nat.{ℕ, ◌<◌, ◌≤◌}
use native.Mathlib.Omega.{arith}
use lib.IntN.{ℤ}
use lib.ListN.{length}
use Rattle.std.specs.Prelude.{Result, Ok, Err}
use Rattle.answer.specs.Said.{said}
use Rattle.answer.specs.declared.Refused.{Refused}
use Rattle.distribute.specs.declared.Carries.{Carries}
use Rattle.file_sections.specs.declared.Sections.{Sections}
use Rattle.file_sections.proofs.AcceptedFile.{hours_are}
use Rattle.month_walk.specs.Walking.{MonthKnown, Beginning, Walked, begun, StepAsked, SteppedIs, window_places}
use Rattle.month_walk.specs.declared.Walk.{Walk}
use Rattle.month_walk.proofs.Walking.{walk_begins, walk_inside, walk_passed}
use Rattle.report_distances.specs.Extremes.{no_distances}
use Rattle.report_distances.specs.declared.Distances.{Distances}
use Rattle.report_figures.specs.Passing.{HourAsked, HourPassed, Measured, PassedTo, SumsLent, MonthPassed}
use Rattle.report_figures.proofs.OneHour as OneHour
use Rattle.rules.specs.HoursReport.{all_distributed}
use Rattle.rules.specs.Month.{month_of, all_periodised, periodised_verdict}
use Rattle.rules.specs.MonthFile.{MonthFile, H}
use Rattle.rules.specs.Refusals.{in_turn}
use Rattle.rules.proofs.Loops.{fill_start}

-- The hours that the walk has come past are passed.
pub record Going (m : MonthFile) (window : List ℕ) (w : Walk) (x : Distances) (d : List ℤ) (p : List ℕ) : Type 0 where
  pub walked : Walked m w window
  pub passed : PassedTo m w.t x d p

none_yet : {m : MonthFile} → Measured m 0 no_distances
none_yet = record { smallest = λ last e. absurd (omega arith); largest = λ last e. absurd (omega arith) }

module _ {file : List ℕ} {s : Sections} {applied curveNumbers beginnings : List ℕ} (known : MonthKnown file s applied curveNumbers beginnings) where
  abbrev m : MonthFile
  m = month_of file

  all_is : s.heading.hours ≡ H m
  all_is = hours_are file s known.windows.accepted

  -- before the first hour
  pub goes :
      {c : Carries}
      → Beginning file c
      → {window : List ℕ}
      → length window ≡ window_places
      → {d : List ℤ} {p : List ℕ}
      → SumsLent m (length d) (length p)
      → Going m window (begun c) no_distances d p
  goes begin size {d} {p} lent = record { walked = walk_begins begin size; passed = none_passed }
    where
      none_passed : PassedTo m 0 no_distances d p
      none_passed =
          record {
            measured = none_yet;
            distributed = fill_start (all_distributed m) lent.distributed_size;
            periodised = fill_start (all_periodised m) lent.periodised_size;
          }

  -- an hour is left
  module _ {window : List ℕ} {w : Walk} {x : Distances} {d : List ℤ} {p : List ℕ} (g : Going m window w x d p) (b : w.t < s.heading.hours) where
    in_month_holds : w.t < H m
    in_month_holds = omega (arith, all_is)

    pub step_asked : StepAsked m w window
    step_asked = record { walked = g.walked; hour = in_month_holds }

    module _ {r : Result Walk Refused} {window' : List ℕ} (is : SteppedIs m w.t r window') where
      -- it is refused, so the month is
      pub stops : {v : Refused} {out : Result Distances Refused} → r ≡ Err v → out ≡ Err v → (e : List ℤ) (q : List ℕ) → MonthPassed m out e q
      stops {v} e on o q =
          record { verdict = ap said on ∙ sym (ap said e) ∙ is.stopped v e; after = λ y a. let z : ◌≡◌ {A = ℕ} 0 1 = cc in absurd (omega arith) }

      module _ {w' : Walk} (done : r ≡ Ok w') where
        pub hour_asked : HourAsked w' w.t window' (length d) (length p)
        hour_asked = OneHour.hour_asked known in_month_holds (is.on w' done) g.passed

        pub goes_on : {y : Distances} {d' : List ℤ} {p' : List ℕ} → HourPassed x w' w.t window' d p y d' p' → Going m window' w' y d' p'
        goes_on one = record { walked = (is.on w' done).walked; passed = OneHour.one_hour_on known in_month_holds (is.on w' done) g.passed one }

  -- none is left
  pub ends :
      {window : List ℕ} {w : Walk} {x : Distances} {d : List ℤ} {p : List ℕ}
      → Going m window w x d p
      → s.heading.hours ≤ w.t
      → MonthPassed m (Ok x) d p
  ends {window} {w} {x} {d} {p} g b =
      let e : w.t ≡ H m = omega (arith, walk_inside g.walked, all_is) in
      let verdict = sym (ap (λ (n : ℕ). in_turn n (periodised_verdict m)) (sym e) ∙ walk_passed g.walked) in
      record { verdict = verdict; after = λ y same. let is : x ≡ y = cc in rw (← is, ← e) g.passed }
