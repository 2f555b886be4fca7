-- The parts of the report in the three buffers: how many hours the first holds, what each part is, and that the three make the report.
use mathlib.Core.List.{List, [], ◌++◌, append_assoc, append-nil}
use mathlib.Core.Logic.{◌⊎◌, inl, inr, ⊎_elim}
use mathlib.Core.Path.{◌≡◌, refl, sym, ◌∙◌, ap, ap₂}
use Prim.Native.Nat.{ℕ, ◌+◌, ◌-◌, ◌*◌, ◌≤◌, ◌<◌, min}
use native.Mathlib.Nat.{zero-add, eq-zero-or-pos, min-eq_left, min-eq_right, min-le_left, min-le_right}
use native.Mathlib.Omega.{arith}
use lib.ListN.{length}
use Rattle.report_text.specs.Lines.{first_hours, first_room, rest_room, line_from, first_part, rest_part, parties_part, Inside, FirstAsked}
use Rattle.month_prepare.proofs.Preparing.{few_hours}
use Rattle.file_sections.specs.Walk.{Accepted}
use Rattle.file_sections.specs.declared.Sections.{Sections}
use Rattle.file_sections.proofs.AcceptedFile.{hours_are, heading_text_lem}
use Rattle.report_lines.specs.Rooms.{hour_room}
use Rattle.rules.specs.HoursReport.{hour_line, distances_line, report_lines}
use Rattle.rules.specs.Limits.{most_hours}
use Rattle.rules.specs.Month.{month_of, estimated_hours}
use Rattle.rules.specs.MonthFile.{MonthFile, H, P}
use Rattle.rules.specs.Statement.{heading_text, heading_line, joined}
use Rattle.rules.specs.Words.{figures}
use Rattle.rules.proofs.Lines.{lines_in_two}
use Rattle.rules.proofs.Loops.{figures_cong}
use Rattle.statement_lines.specs.Rooms.{heading_room}
use Rattle.text.specs.Text.{Put, LinePut}
use Rattle.text.proofs.Puts.{put_then, put_as, put_length}

-- the hours of the first buffer are all of a short month
in_two : (h : ℕ) → ((h ≤ first_hours) × (min h first_hours ≡ h)) ⊎ ((first_hours ≤ h) × (min h first_hours ≡ first_hours))
in_two h =
    ⊎_elim (λ (none : h - first_hours ≡ 0). inl (omega arith, min-eq_left (omega arith)))
    (λ (some : 0 < h - first_hours). inr (omega arith, min-eq_right (omega arith)))
    (eq-zero-or-pos (h - first_hours))

-- the lines of no hour
no_lines : (n : ℕ) → n ≡ 0 → (f : ℕ → List ℕ) → joined (figures n f) ≡ []
unfolding joined figures
no_lines n e f = rw e refl

module _ (m : MonthFile) where
  -- the first hours' lines and the others' are all hours' lines
  all_hours : joined (figures (min (H m) first_hours) (hour_line m)) ++ rest_part m ≡ joined (figures (H m) (hour_line m))
  unfolding rest_part line_from
  all_hours =
      ⊎_elim
      (λ (short : (H m ≤ first_hours) × (min (H m) first_hours ≡ H m)).
      ap₂ (λ (n : ℕ) (t : List ℕ). joined (figures n (hour_line m)) ++ t) short.1
      (no_lines (H m - first_hours) (omega (arith, short.0)) (line_from m first_hours))
      ∙ append-nil (joined (figures (H m) (hour_line m))))
      (λ (long : (first_hours ≤ H m) × (min (H m) first_hours ≡ first_hours)).
      ap (λ (n : ℕ). joined (figures n (hour_line m)) ++ joined (figures (H m - first_hours) (line_from m first_hours))) long.1
      ∙ sym (lines_in_two first_hours (H m - first_hours) (hour_line m))
      ∙ ap (λ (n : ℕ). joined (figures n (hour_line m))) (omega (arith, long.0)))
      (in_two (H m))

  -- THE THREE PARTS MAKE THE REPORT
  pub parts_make_the_report : first_part m ++ rest_part m ++ parties_part m ≡ report_lines m
  unfolding first_part parties_part report_lines
  parts_make_the_report =
      ap (λ (t : List ℕ). t ++ joined (figures (P m) (distances_line m)))
      (append_assoc (heading_line m) (joined (figures (min (H m) first_hours) (hour_line m))) (rest_part m)
      ∙ ap (λ (t : List ℕ). heading_line m ++ t) all_hours)

module _ (file : List ℕ) (s : Sections) (ok : Accepted file s) where
  abbrev m : MonthFile
  m = month_of file

  -- THE FIRST BUFFER
  module _ {estimated hours : ℕ} (asked : FirstAsked file estimated hours) where
    pub first_inside : Inside file 0 hours
    first_inside = record { inside = omega (arith, asked.hours_are, min-le_left (H m) first_hours) }

    few_first : hours ≤ first_hours
    few_first = omega (arith, asked.hours_are, min-le_right (H m) first_hours)

    first_lines : joined (figures hours (line_from m 0)) ≡ joined (figures (min (H m) first_hours) (hour_line m))
    unfolding line_from
    first_lines =
        ap (λ (n : ℕ). joined (figures n (line_from m 0))) asked.hours_are
        ∙ ap joined (figures_cong (min (H m) first_hours) (λ k b. ap (hour_line m) (zero-add k)))

    module _ {before out₁ : List ℕ} {end₁ : ℕ} (h : Put (heading_text s.heading.area s.heading.year s.heading.month s.heading.hours s.heading.parties estimated s.refixed) before 0 out₁ end₁) (h-within : end₁ ≤ 0 + heading_room) where
      pub room_for_hours : first_room ≤ length before → end₁ + hours * hour_room ≤ length out₁
      room_for_hours room = omega (arith, put_length h, few_first)

      pub first_part_lem :
          {after : List ℕ} {end : ℕ}
          → LinePut (joined (figures hours (line_from m 0))) out₁ end₁ (hours * hour_room) after end
          → LinePut (first_part m) before 0 first_room after end
      unfolding first_part
      first_part_lem l =
          record { put = put_then (put_as (heading_text_lem file s ok asked.counted) h) (put_as first_lines l.put); within = omega (arith, l.within, few_first) }

  -- THE SECOND: the hours after the first
  module _ {hours : ℕ} (first : hours ≡ min s.heading.hours first_hours) where
    first_is : hours ≡ min (H m) first_hours
    first_is = first ∙ ap (λ (n : ℕ). min n first_hours) (hours_are file s ok)

    pub all_there : hours ≤ s.heading.hours
    all_there = omega (arith, first, min-le_left s.heading.hours first_hours)

    pub rest_inside : Inside file hours (s.heading.hours - hours)
    rest_inside = record { inside = omega (arith, all_there, hours_are file s ok) }

    pub first_asked : {estimated : ℕ} → estimated ≡ estimated_hours m → FirstAsked file estimated hours
    first_asked counted = record { counted = counted; hours_are = first_is }

    few_others : s.heading.hours - hours ≤ most_hours - first_hours
    few_others =
        ⊎_elim (λ (short : (H m ≤ first_hours) × (min (H m) first_hours ≡ H m)). omega (arith, short.1, first_is, hours_are file s ok))
        (λ (long : (first_hours ≤ H m) × (min (H m) first_hours ≡ first_hours)). omega (arith, long.1, first_is, hours_are file s ok, few_hours file s ok))
        (in_two (H m))

    pub room_for_rest : {lent : ℕ} → rest_room ≤ lent → 0 + (s.heading.hours - hours) * hour_room ≤ lent
    room_for_rest room = omega (arith, few_others)

    rest_lines : joined (figures (s.heading.hours - hours) (line_from m hours)) ≡ rest_part m
    unfolding rest_part
    rest_lines =
        ⊎_elim
        (λ (short : (H m ≤ first_hours) × (min (H m) first_hours ≡ H m)).
        no_lines (s.heading.hours - hours) (omega (arith, short.1, first_is, hours_are file s ok)) (line_from m hours)
        ∙ sym (no_lines (H m - first_hours) (omega (arith, short.0)) (line_from m first_hours)))
        (λ (long : (first_hours ≤ H m) × (min (H m) first_hours ≡ first_hours)).
        ap₂ (λ (n k : ℕ). joined (figures (n - k) (line_from m k))) (hours_are file s ok) (first_is ∙ long.1))
        (in_two (H m))

    pub rest_part_lem :
        {before after : List ℕ} {end : ℕ}
        → LinePut (joined (figures (s.heading.hours - hours) (line_from m hours))) before 0 ((s.heading.hours - hours) * hour_room) after end
        → LinePut (rest_part m) before 0 rest_room after end
    rest_part_lem l = record { put = put_as rest_lines l.put; within = omega (arith, l.within, few_others) }
