-- The report of a file: its parts in the three buffers, or its refusal.
use mathlib.Core.Bool.{Bool, true, not, ◌&&◌}
use mathlib.Core.List.{List, ◌++◌}
use mathlib.Core.Path.{◌≡◌, refl, sym, ◌∙◌, ap, ap₂, subst}
use Prim.Native.Nat.{ℕ, ◌<◌}
use native.Mathlib.Omega.{arith}
use borrow.Author.Tests.{le-leb, leb-true}
use lib.Dec.{leb}
use lib.ListN.{length}
use Rattle.std.specs.Prelude.{Result, Ok, Err}
use Rattle.answer.specs.Said.{verdict_of}
use Rattle.answer.specs.declared.Refused.{Refused}
use Rattle.answer.specs.declared.Refusal.TheVariants.{WrongLength}
use Rattle.report_text.specs.Lines.{first_room, rest_room, parties_room, first_part, rest_part, parties_part, Roomy}
use Rattle.report_text.specs.Reporting.{lengths_of, told, rooms, report_verdict, Answered}
use Rattle.report_text.specs.declared.Lines.{Lines}
use Rattle.report_text.proofs.Parts.{parts_make_the_report}
use Rattle.file_sections.proofs.AcceptedFile.{month_of_lem}
use Rattle.file_sections.proofs.Walking.{too_long}
use Rattle.answer.proofs.Checks.{flag_off, unwritten}
use Rattle.rules.specs.HoursReport.{judged_report, answered_report, hours_report}
use Rattle.rules.specs.Limits.{longest_file}
use Rattle.rules.specs.Month.{month_of, verdict_on, file_verdict}
use Rattle.rules.specs.MonthFile.{MonthFile, read_month}
use Rattle.rules.specs.Refusals as R
use Rattle.rules.specs.Setting.{Setting, optional}
use Rattle.rules.specs.Statement.{refusal_line}
use Rattle.rules.proofs.Whole.{both_pass}
use Rattle.text.specs.Text.{LinePut, at_start}
use Rattle.text.proofs.Puts.{put_at_start}

module _ (first rest parties : ℕ) where
  -- room in each buffer
  pub roomy : rooms first rest parties ≡ true → Roomy first rest parties
  unfolding rooms
  roomy e =
      let both = both_pass (leb first_room first && leb rest_room rest) (leb parties_room parties) e in
      let hours = both_pass (leb first_room first) (leb rest_room rest) both.0 in
      record { first_room_holds = leb-true first_room first hours.0; rest_room_holds = leb-true rest_room rest hours.1; parties_room_holds = leb-true parties_room parties both.1 }

  all_room : Roomy first rest parties → rooms first rest parties ≡ true
  unfolding rooms
  all_room r =
      rw (le-leb first_room first r.first_room_holds, le-leb rest_room rest r.rest_room_holds, le-leb parties_room parties r.parties_room_holds) refl

module _ (m : MonthFile) where
  report_verdict_lem : (a b c : ℕ) → report_verdict R.accepted a b c ≡ R.unless (rooms a b c) R.wrong_length 0
  unfolding report_verdict R.and_then
  report_verdict_lem a b c = refl

  -- 16
  pub too_short :
      (first rest parties : ℕ) {room : Bool}
      → room ≡ rooms first rest parties
      → not room ≡ true
      → told (Err (WrongLength, 0)) ≡ R.answer (report_verdict R.accepted first rest parties) (lengths_of m)
  unfolding R.answer R.unless
  too_short first rest parties {room} is none =
      let v : report_verdict R.accepted first rest parties ≡ R.refused R.wrong_length 0 =
      report_verdict_lem first rest parties ∙ ap (λ (t : Bool). R.unless t R.wrong_length 0) (sym is ∙ flag_off room none) in
      ap (λ (w : R.Verdict). R.answer w (lengths_of m)) (sym v)

  module _ (first rest parties : List ℕ) where
    -- its lines
    pub reported :
        Roomy (length first) (length rest) (length parties)
        → {first' rest' parties' : List ℕ} {a b c : ℕ}
        → LinePut (first_part m) first 0 first_room first' a
        → LinePut (rest_part m) rest 0 rest_room rest' b
        → LinePut (parties_part m) parties 0 parties_room parties' c
        → Answered R.accepted m first rest parties (Ok (record { first = a; rest = b; parties = c })) first' rest' parties'
    unfolding R.answer R.afterwards R.unless at_start lengths_of
    reported room {first'} {rest'} {parties'} {a} {b} {c} x y z =
        let v : report_verdict R.accepted (length first) (length rest) (length parties) ≡ R.accepted =
        report_verdict_lem (length first) (length rest) (length parties)
        ∙ ap (λ (t : Bool). R.unless t R.wrong_length 0) (all_room (length first) (length rest) (length parties) room) in
        let of-a : a ≡ length (first_part m) = omega (arith, x.put.ends) in
        let of-b : b ≡ length (rest_part m) = omega (arith, y.put.ends) in
        let of_c : c ≡ length (parties_part m) = omega (arith, z.put.ends) in
        let lengths : record { first = a; rest = b; parties = c } ≡ lengths_of m = rw (of-a, of-b, of_c) refl in
        record {
          answer = ap R.given lengths ∙ ap (λ (w : R.Verdict). R.answer w (lengths_of m)) (sym v);
          first_hours_holds = put_at_start x.put (omega (arith, x.within, room.first_room_holds));
          other_hours = put_at_start y.put (omega (arith, y.within, room.rest_room_holds));
          all_parties = put_at_start z.put (omega (arith, z.within, room.parties_room_holds));
        }

    -- refused before: nothing is written
    pub refused_month :
        {ofFile : R.Verdict} {x : Refused} {r : Result Lines Refused}
        → ofFile ≡ verdict_of x
        → r ≡ Err x
        → Answered ofFile m first rest parties r first rest parties
    unfolding R.answer report_verdict R.and_then
    refused_month e on =
        let v = ap (λ (w : R.Verdict). R.and_then w (R.unless (rooms (length first) (length rest) (length parties)) R.wrong_length 0)) e in
        record { answer = ap told on ∙ ap (λ (w : R.Verdict). R.answer w (lengths_of m)) (sym v); first_hours_holds = unwritten _ _ on; other_hours = unwritten _ _ on; all_parties = unwritten _ _ on }

    -- the same by an equal verdict
    pub answered_as :
        {v w : R.Verdict} → v ≡ w → {r : Result Lines Refused} {first' rest' parties' : List ℕ} → Answered v m first rest parties r first' rest' parties' → Answered w m first rest parties r first' rest' parties'
    answered_as e {r} {first'} {rest'} {parties'} a = subst (λ (v : R.Verdict). Answered v m first rest parties r first' rest' parties') e a

module _ (setting : Setting) (file : List ℕ) where
  -- THE REPORT OF A FILE is its parts
  pub report_text : file_verdict optional setting file ≡ R.accepted → hours_report setting file ≡ first_part (month_of file) ++ rest_part (month_of file) ++ parties_part (month_of file)
  unfolding file_verdict verdict_on hours_report answered_report judged_report
  report_text e = go (read_month optional file) refl e
    where
      go :
          (a : R.Answer MonthFile)
          → read_month optional file ≡ a
          → verdict_on setting a ≡ R.accepted
          → answered_report setting a ≡ first_part (month_of file) ++ rest_part (month_of file) ++ parties_part (month_of file)
      go (R.given n) is f =
          ap (judged_report n) f
          ∙ sym (parts_make_the_report n)
          ∙ ap (λ (k : MonthFile). first_part k ++ rest_part k ++ parties_part k) (sym (month_of_lem optional file is))
      go (R.refusal x q) is f = cc

  -- or its refusal line
  pub refusal_text_lem : {r : R.Refusal} {place : ℕ} → file_verdict optional setting file ≡ R.refused r place → hours_report setting file ≡ refusal_line r place
  unfolding file_verdict verdict_on hours_report answered_report judged_report
  refusal_text_lem {r} {place} e = go (read_month optional file) e
    where
      go : (a : R.Answer MonthFile) → verdict_on setting a ≡ R.refused r place → answered_report setting a ≡ refusal_line r place
      go (R.given m) f = ap (judged_report m) f
      go (R.refusal x q) f = let same : x ≡ r = cc in let at : q ≡ place = cc in ap₂ refusal_line same at

  -- "An empty or too long file is refused before all else, place 0": the same line for every file that long
  pub too_long_line : longest_file < length file → hours_report setting file ≡ refusal_line R.file_fault 0
  unfolding hours_report answered_report
  too_long_line long = ap (answered_report setting) (sym (too_long optional file (omega arith) long))
