-- What stands at the starts of the buffers is the report of the file: an accepted month's three parts, or the refusal line alone.
use mathlib.Core.List.{List, ◌++◌, append-nil}
use mathlib.Core.Path.{◌≡◌, sym, ◌∙◌, ap, ap₂}
use Prim.Native.Nat.{ℕ, zero-le}
use borrow.Author.Tests.{le-leb}
use lib.ListN.{length}
use Rattle.std.specs.Prelude.{Result, Ok, Err}
use Rattle.answer.specs.Said.{verdict_of}
use Rattle.answer.specs.declared.Refused.{Refused}
use Rattle.hours.specs.Printed.{Within, printed}
use Rattle.report_text.specs.Lines.{first_room, rest_room, parties_room, first_part, rest_part, parties_part, Roomy}
use Rattle.report_text.specs.Reporting.{lengths_of, verdict, told, rooms, report_verdict, Promised}
use Rattle.report_text.specs.declared.Lines.{Lines}
use Rattle.report_text.proofs.Reports.{report_text, refusal_text_lem}
use Rattle.rules.specs.HoursReport.{hours_report}
use Rattle.rules.specs.Month.{file_verdict, month_of}
use Rattle.rules.specs.MonthFile.{MonthFile}
use Rattle.rules.specs.Refusals.{Verdict, accepted, wrong_length, unless, afterwards}
use Rattle.rules.specs.Setting as Run
use Rattle.rules.specs.Setting.{optional}
use Rattle.rules.proofs.Refusals.{then_accepted, both_accept, given_tells, refusal_tells}
use Rattle.setting.specs.Asked.{asked}
use Rattle.setting.specs.declared.Setting.{Setting}
use Rattle.standard_input.specs.Reading.{TextOf}
use Rattle.standard_input.specs.declared.Ending.{Ending}
use Rattle.standard_input.specs.declared.Ending.TheVariants.{Whole}
use Rattle.standard_input.proofs.Endings.{whole_text}
use Rattle.text.specs.Text.{refusal_text, at_start}
use Rattle.text.proofs.Stands.{Stands, stands_at_start}

-- the parts lie within the buffers, and one after the other they are the text
abbrev pub Prints : List ℕ → Lines → List ℕ → List ℕ → List ℕ → Type 0
Prints text p first rest parties = Within p first rest parties × (printed p first rest parties ≡ text)

-- a text alone in the first buffer
pub alone_printed :
    {text first rest parties : List ℕ} {p : Lines} {n : ℕ}
    → p ≡ record { first = n; rest = 0; parties = 0 }
    → Stands n first text
    → Prints text p first rest parties
alone_printed e stands = rw e (record { first_within = stands.0; rest_within = zero-le; parties_within = zero-le }, append-nil _ ∙ append-nil _ ∙ stands.1)

module _ (setting : Setting) (file first rest parties : List ℕ) {first' rest' parties' : List ℕ} {reported : Result Lines Refused}
    (p : Promised setting file first rest parties reported first' rest' parties') where
  abbrev m : MonthFile
  m = month_of file

  abbrev v : Verdict
  v = report_verdict (file_verdict optional (asked setting) file) (length first) (length rest) (length parties)

  -- AN ACCEPTED MONTH: its parts stand there already
  module _ {lines : Lines} (e : reported ≡ Ok lines) where
    tells : (v ≡ accepted) × (lines ≡ lengths_of m)
    tells = given_tells v (lengths_of m) (sym (ap told e) ∙ p.answer)

    file_accepted : file_verdict optional (asked setting) file ≡ accepted
    unfolding report_verdict
    file_accepted = (both_accept (file_verdict optional (asked setting) file) (unless (rooms (length first) (length rest) (length parties)) wrong_length 0) tells.0).0

    part_stands : (text lent : List ℕ) {after : List ℕ} {n : ℕ} → after ≡ afterwards (verdict reported) (at_start text lent) lent → n ≡ length text → Stands n after text
    unfolding afterwards
    part_stands text lent is long = rw (is, e, long) (stands_at_start text lent)

    first_stands : Stands lines.first first' (first_part m)
    unfolding lengths_of
    first_stands = part_stands (first_part m) first p.first_hours_holds (ap (λ (l : Lines). l.first) tells.1)

    rest_stands : Stands lines.rest rest' (rest_part m)
    unfolding lengths_of
    rest_stands = part_stands (rest_part m) rest p.other_hours (ap (λ (l : Lines). l.rest) tells.1)

    parties_stand : Stands lines.parties parties' (parties_part m)
    unfolding lengths_of
    parties_stand = part_stands (parties_part m) parties p.all_parties (ap (λ (l : Lines). l.parties) tells.1)

    pub lines_printed : Prints (hours_report (asked setting) file) lines first' rest' parties'
    lines_printed = (
      record { first_within = first_stands.0; rest_within = rest_stands.0; parties_within = parties_stand.0 },
      ap₂ ◌++◌ (ap₂ ◌++◌ first_stands.1 rest_stands.1) parties_stand.1 ∙ sym (report_text (asked setting) file file_accepted),
    )

  -- A REFUSED ONE, in buffers that have their rooms: so 16 does not arise, and its report is the refusal line
  module _ (room : Roomy (length first) (length rest) (length parties)) where
    only_the_file : v ≡ file_verdict optional (asked setting) file
    unfolding report_verdict rooms unless
    only_the_file =
        rw (le-leb first_room (length first) room.first_room_holds, le-leb rest_room (length rest) room.rest_room_holds, le-leb parties_room (length parties) room.parties_room_holds)
        (then_accepted (file_verdict optional (asked setting) file))

    pub refusal_printed : {x : Refused} → reported ≡ Err x → refusal_text (verdict reported) ≡ hours_report (asked setting) file
    refusal_printed {x} e =
        let told-so : v ≡ verdict_of x = refusal_tells v (lengths_of m) (sym (ap told e) ∙ p.answer) in
        ap (λ (r : Result Lines Refused). refusal_text (verdict r)) e ∙ sym (refusal_text_lem (asked setting) file (sym only_the_file ∙ told-so))

-- AN INPUT THAT WAS READ WHOLE: the report of its bytes is its report
pub whole_printed :
    (setting : Run.Setting) (bytes : List ℕ) {ending : Ending} {p : Lines} {first rest parties : List ℕ}
    → ending ≡ Whole
    → Prints (hours_report setting bytes) p first rest parties
    → Within p first rest parties × TextOf (hours_report setting) ending bytes (printed p first rest parties)
whole_printed setting bytes e prints = (prints.0, whole_text (hours_report setting) bytes e prints.1)
