-- REFUSED EXACTLY BY THE FIRST RECORD THAT HAS A CHECK THAT REFUSES, and by the first such check of it (specs/ReadingRefused): with this number at this place
-- exactly when a file of bytes is the bytes of records that pass, and of a rest that is so refused.
use mathlib.Core.Bool.{Bool, true, false, cond}
use mathlib.Core.List.{List, [], ◌∷◌}
use mathlib.Core.Logic.{◌↔◌}
use mathlib.Core.Path.{◌≡◌, refl, sym, ◌∙◌, ap, ap₂, subst}
use Prim.Native.Nat.{ℕ, ◌+◌}
use native.Mathlib.Omega.{arith}
use lib.ListN.{length}
use Rattle.rules.specs.Limits.{longest_file}
use Rattle.rules.specs.MonthFile.{MonthFile, nothing_yet, record_checks, closed, read_month}
use Rattle.rules.specs.ReadingRefused.{with_all, RestRefuses, no_end, the_record, bytes_after, ReadingRefuses, of_the_length, of_a_record}
use Rattle.rules.specs.Refusals.{Refusal, file_fault, refused, Answer, refusal}
use Rattle.rules.specs.Setting.{Prices}
use Rattle.rules.specs.WellFormed.{Bytes}
use Rattle.rules.specs.Words.{within}
use Rattle.rules.proofs.ReadThrough.{read_from, Stop, nothing_left, check_refuses, right_end, answer_at, Course, file_course, answer_of_course}
use Rattle.rules.proofs.Refusals as R

same_refusal : {r r' : Refusal} {place place' : ℕ} → ◌≡◌ {A = Answer MonthFile} (refusal r place) (refusal r' place') → (r' ≡ r) × (place' ≡ place)
same_refusal e = (cc, cc)

module _ (prices : Prices) (r : Refusal) (place : ℕ) where
  -- where a reading stops with this refusal, the rest is so refused
  rest_refuses : (m : MonthFile) (n : ℕ) (rest : List ℕ) (stop : Stop prices m n rest) → answer_at prices m n rest stop ≡ refusal r place → RestRefuses prices m n rest r place
  unfolding closed
  rest_refuses m n rest (nothing_left e) is = no_end e (same_refusal is).0 (same_refusal is).1
  rest_refuses m n rest (check_refuses some why at e) is =
      the_record some ((R.refused_exactly (record_checks prices m n rest) r place).0 (e ∙ ap₂ refused (sym (same_refusal is).0) (sym (same_refusal is).1)))
  rest_refuses m n rest (right_end d p [] e) is = absurd (R.given_not_refusal (sym is))
  rest_refuses m n rest (right_end d p (byte ∷ bytes) e) is = bytes_after d p byte bytes e (same_refusal is).0 (same_refusal is).1

  -- and the other way
  record StopsSo (m : MonthFile) (n : ℕ) (rest : List ℕ) : Type 0 where
    stop : Stop prices m n rest
    answers : answer_at prices m n rest stop ≡ refusal r place

  it_stops : (m : MonthFile) (n : ℕ) (rest : List ℕ) → RestRefuses prices m n rest r place → StopsSo m n rest
  unfolding closed
  it_stops m n rest (no_end e why at) = record { stop = nothing_left e; answers = ap₂ refusal (sym why) (sym at) }
  it_stops m n rest (the_record some f) = record { stop = check_refuses some r place ((R.refused_exactly (record_checks prices m n rest) r place).1 f); answers = refl }
  it_stops m n rest (bytes_after d p byte bytes e why at) = record { stop = right_end d p (byte ∷ bytes) e; answers = ap₂ refusal (sym why) (sym at) }

  module _ (file : List ℕ) where
    applies : Bytes file → (fits : Bool) → within 1 longest_file (length file) ≡ fits → read_month prices file ≡ refusal r place → ReadingRefuses prices file r place
    unfolding read_month
    applies small true fits is =
        let c : Course prices nothing_yet 0 file = file_course prices file small in
        let stopped = rest_refuses (with_all nothing_yet c.passed) (0 + length c.passed) c.rest c.stop (sym (answer_of_course prices file fits c) ∙ is) in
        of_a_record
        (record {
          right_length = fits;
          before = c.passed;
          rest = c.rest;
          split = c.split;
          all_pass = c.all_pass;
          refuses = subst (λ (n : ℕ). RestRefuses prices (with_all nothing_yet c.passed) n c.rest r place) (omega arith) stopped;
        })
    applies small false fits is =
        let told = sym (ap (λ (t : Bool). cond t (read_from prices file 0 nothing_yet) (refusal file_fault 0)) fits) ∙ is in
        of_the_length fits (same_refusal told).0 (same_refusal told).1

    refuses : ReadingRefuses prices file r place → read_month prices file ≡ refusal r place
    unfolding read_month
    refuses (of_the_length fits why at) =
        ap (λ (t : Bool). cond t (read_from prices file 0 nothing_yet) (refusal file_fault 0)) fits ∙ ap₂ refusal (sym why) (sym at)
    refuses (of_a_record h) =
        let m : MonthFile = with_all nothing_yet h.before in
        let from-0 : RestRefuses prices m (0 + length h.before) h.rest r place = subst (λ (n : ℕ). RestRefuses prices m n h.rest r place) (omega arith) h.refuses in
        let s : StopsSo m (0 + length h.before) h.rest = it_stops m (0 + length h.before) h.rest from-0 in
        answer_of_course prices file h.right_length (record { passed = h.before; rest = h.rest; split = h.split; all_pass = h.all_pass; stop = s.stop }) ∙ s.answers

-- REFUSED EXACTLY
pub reading_refused_exactly : (prices : Prices) (file : List ℕ) (r : Refusal) (place : ℕ) → Bytes file → (read_month prices file ≡ refusal r place) ↔ ReadingRefuses prices file r place
reading_refused_exactly prices file r place small = (applies prices r place file small (within 1 longest_file (length file)) refl, refuses prices r place file)
