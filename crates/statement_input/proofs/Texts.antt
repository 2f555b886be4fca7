-- What stands at the start of the buffer is the text of the input: an accepted month's lines, the refusal line of a file, that of an input that is too long; and
-- what a program prints of an input is therefore its statement, per party or per BRP, under the setting that the program asks for.
use mathlib.Core.List.{List}
use mathlib.Core.Path.{◌≡◌, refl, sym, ◌∙◌, ap}
use Prim.Native.Nat.{ℕ, ◌≤◌}
use native.Mathlib.Nat.{zero-add}
use native.Mathlib.Omega.{arith}
use borrow.Author.Tests.{le-leb}
use lib.ListN.{length, take}
use Rattle.std.specs.Prelude.{Result, Ok, Err}
use Rattle.answer.specs.Said.{verdict_of}
use Rattle.answer.specs.declared.Refused.{Refused}
use Rattle.rules.specs.Month.{file_verdict}
use Rattle.rules.specs.Refusals.{Verdict, unless, afterwards}
use Rattle.rules.specs.Setting as Run
use Rattle.rules.specs.Statement as T
use Rattle.rules.proofs.Refusals.{then_accepted, given_tells, refusal_tells}
use Rattle.setting.specs.Asked.{asked}
use Rattle.setting.specs.declared.Setting.{Setting}
use Rattle.standard_input.specs.Reading.{FullyRead, ended, ended_text, TextOf}
use Rattle.standard_input.specs.declared.Ending.{Ending}
use Rattle.standard_input.specs.declared.Ending.TheVariants.{Whole, TooLong, Failed}
use Rattle.standard_input.proofs.Endings.{whole_text, too_long_text, failed_text}
use Rattle.statement_input.specs.Inputs.{Printed, input_text}
use Rattle.statement_text.specs.Stating.{per_of, statement_room, verdict, told, text_verdict, Promised}
use Rattle.statement_text.specs.declared.Per.{Per}
use Rattle.statement_text.proofs.Statements.{refusal_text_lem, too_long_line}
use Rattle.text.specs.Text.{LinePut, refusal_text, at_start}
use Rattle.text.proofs.Puts.{put_at_start}
use Rattle.text.proofs.Stands.{Stands, stands_at_start}

-- a line at the start of a buffer with room for it
line_printed : {text old new : List ℕ} {room n : ℕ} → room ≤ length old → LinePut text old 0 room new n → Printed text old n new
unfolding at_start
line_printed {text} enough line =
    record { told = line.put.ends ∙ zero-add (length text); contents = put_at_start line.put (omega (arith, line.within)) }

module _ (setting : Setting) (per : Per) (file old : List ℕ) {held : List ℕ} {stated : Result ℕ Refused} (p : Promised setting per file old stated held) where
  abbrev v : Verdict
  v = text_verdict setting file (length old)

  abbrev text : List ℕ
  text = T.statement_per (per_of per) (asked setting) file

  -- AN ACCEPTED MONTH: its lines stand there already
  pub lines_printed : {n : ℕ} → stated ≡ Ok n → Printed text old n held
  unfolding afterwards
  lines_printed {n} e =
      record {
        told = (given_tells v (length text) (sym (ap told e) ∙ p.answer)).1;
        contents = p.contents ∙ ap (λ (s : Result ℕ Refused). afterwards (verdict s) (at_start text old) old) e;
      }

  -- A REFUSED ONE, in a buffer that has room for every statement: so 16 does not arise, and its statement is the refusal line
  module _ (room : statement_room ≤ length old) {x : Refused} (e : stated ≡ Err x) where
    only_the_file : v ≡ file_verdict Run.needed (asked setting) file
    unfolding text_verdict unless
    only_the_file = rw (le-leb statement_room (length old) room) (then_accepted (file_verdict Run.needed (asked setting) file))

    refusal_is : refusal_text (verdict stated) ≡ text
    refusal_is =
        let told-so : v ≡ verdict_of x = refusal_tells v (length text) (sym (ap told e) ∙ p.answer) in
        ap (λ (s : Result ℕ Refused). refusal_text (verdict s)) e ∙ sym (refusal_text_lem (asked setting) (per_of per) file (sym only_the_file ∙ told-so))

    untouched : held ≡ old
    unfolding afterwards
    untouched = p.contents ∙ ap (λ (s : Result ℕ Refused). afterwards (verdict s) (at_start text old) old) e

    pub refusal_printed : {line n : ℕ} {new : List ℕ} → line ≤ length held → LinePut (refusal_text (verdict stated)) held 0 line new n → Printed text old n new
    refusal_printed enough put = rw (refusal_is, untouched) at (line_printed enough put)

-- AN INPUT, by how its reading ended
module _ (per : T.Per) (setting : Run.Setting) (bytes : List ℕ) {ending : Ending} {old : List ℕ} where
  pub of_whole : ending ≡ Whole → {n : ℕ} {new : List ℕ} → Printed (T.statement_per per setting bytes) old n new → Printed (input_text per setting ending bytes) old n new
  of_whole e p = rw e p

  pub of_too_long :
      ending ≡ TooLong
      → {room n : ℕ} {new : List ℕ}
      → room ≤ length old
      → LinePut (ended_text (ended ending)) old 0 room new n
      → Printed (input_text per setting ending bytes) old n new
  of_too_long e enough line = rw e (rw e at (line_printed enough line))

  pub of_failed : ending ≡ Failed → Printed (input_text per setting ending bytes) old 0 old
  unfolding at_start
  of_failed e = rw e (record { told = refl; contents = refl })

-- WHAT IS PRINTED OF AN INPUT IS ITS STATEMENT under the setting
pub input_printed :
    (per : T.Per) (setting : Run.Setting) (bytes : List ℕ) (ending : Ending) {old new : List ℕ} {n : ℕ}
    → FullyRead ending bytes
    → Printed (input_text per setting ending bytes) old n new
    → (n ≤ length new) × TextOf (T.statement_per per setting) ending bytes (take n new)
input_printed per setting bytes ending {old} {new} {n} full p =
    let stands : Stands n new (input_text per setting ending bytes) = rw (p.contents, p.told) (stands_at_start (input_text per setting ending bytes) old) in
    (stands.0, go ending full stands.1)
  where
    go : (x : Ending) → FullyRead x bytes → take n new ≡ input_text per setting x bytes → TextOf (T.statement_per per setting) x bytes (take n new)
    go Whole full is = whole_text (T.statement_per per setting) bytes refl is
    go TooLong full is = too_long_text (T.statement_per per setting) bytes (too_long_line setting per) full refl is
    go Failed full is = failed_text (T.statement_per per setting) bytes refl
