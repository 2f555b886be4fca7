-- The statement of a file: its lines one after the other, or its refusal.
use mathlib.Core.Bool.{Bool}
use mathlib.Core.List.{List, ◌++◌}
use mathlib.Core.Path.{◌≡◌, sym, ◌∙◌, ap, ap₂}
use Prim.Native.Nat.{ℕ, ◌+◌, ◌*◌, ◌≤◌, ◌<◌}
use native.Mathlib.Omega.{arith}
use borrow.Author.Tests.{le-leb, lt-leb}
use lib.Dec.{leb}
use lib.ListN.{length, drop}
use Rattle.std.specs.Prelude.{Result, Ok, Err}
use Rattle.answer.specs.Said.{said, verdict_of}
use Rattle.answer.specs.declared.Refusal.TheVariants.{WrongLength}
use Rattle.answer.specs.declared.Refused.{Refused}
use Rattle.answer.proofs.Checks.{unwritten}
use Rattle.month_sums.specs.Outcomes.{OutcomeIs}
use Rattle.month_sums.specs.declared.Outcome.{Outcome}
use Rattle.file_sections.specs.Walk.{AcceptedPriced}
use Rattle.file_sections.specs.declared.Sections.{Sections}
use Rattle.file_sections.proofs.AcceptedFile.{read_as, read_without, heading_text_lem}
use Rattle.file_sections.proofs.Walking.{too_long}
use Rattle.hour_settled.specs.declared.Sums.{Sums}
use Rattle.rules.specs.Limits.{most_parties, longest_file}
use Rattle.rules.specs.Month.{month_of, month_verdict, estimated_hours, verdict_on, file_verdict}
use Rattle.rules.specs.MonthFile.{MonthFile, read_month}
use Rattle.rules.specs.Refusals as R
use Rattle.rules.specs.Setting as Run
use Rattle.rules.specs.Setting.{needed}
use Rattle.rules.specs.Statement as T
use Rattle.setting.specs.Asked.{asked}
use Rattle.setting.specs.declared.Setting.{Setting}
use Rattle.party_lines.specs.Lines.{Settled}
use Rattle.statement_text.specs.Stating.{per_of, statement_room, told, text_verdict, Promised}
use Rattle.statement_text.specs.declared.Per.{Per}
use Rattle.statement_lines.specs.Rooms.{heading_room, columns_room}
use Rattle.text.specs.Text.{Put, LinePut, at_start}
use Rattle.text.proofs.Puts.{put_then, put_as, put_length, put_at_start}

-- THE LINES ONE AFTER THE OTHER
module _ (file : List ℕ) (s : Sections) {sums : Sums} (settled : Settled file s sums) {estimated : ℕ} (counted : estimated ≡ estimated_hours (month_of file)) where
  module _ {before out₁ : List ℕ} {end₁ : ℕ}
      (h : Put (T.heading_text s.heading.area s.heading.year s.heading.month s.heading.hours s.heading.parties estimated s.refixed) before 0 out₁ end₁)
      (h-within : end₁ ≤ 0 + heading_room) where
    pub room_for_parties : statement_room ≤ length before → end₁ + most_parties * columns_room ≤ length out₁
    room_for_parties room = omega (arith, put_length h)

    module _ (per : T.Per) {out₂ : List ℕ} {end₂ : ℕ} (p : LinePut (T.lines_per per (month_of file)) out₁ end₁ (most_parties * columns_room) out₂ end₂) where
      pub room_for_total : statement_room ≤ length before → end₂ + columns_room ≤ length out₂
      room_for_total room = omega (arith, put_length h, put_length p.put, p.within)

      pub all_lines : {after : List ℕ} {end : ℕ} → LinePut (T.total_line (month_of file)) out₂ end₂ columns_room after end → LinePut (T.statement_lines per (month_of file)) before 0 statement_room after end
      unfolding T.statement_lines
      all_lines t =
          record {
            put = put_then (put_then (put_as (heading_text_lem file s settled.read counted) h) p.put) t.put;
            within = omega (arith, p.within, t.within);
          }

-- A MONTH THAT WAS ACCEPTED
module _ (setting : Setting) (file : List ℕ) (s : Sections) (ok : AcceptedPriced file s) {r : Result Outcome Refused} (is : OutcomeIs setting (month_of file) r)
    {outcome : Outcome} (done : r ≡ Ok outcome) where
  abbrev m : MonthFile
  m = month_of file

  no_refusal : month_verdict (asked setting) m ≡ R.accepted
  no_refusal = sym is.verdict ∙ ap said done

  pub settled : Settled file s outcome.sums
  settled = record { setting = asked setting; read = read_without needed file s ok; no_refusal = no_refusal; sums_are = is.sums outcome done }

  pub counted : outcome.estimated ≡ estimated_hours m
  counted = is.estimated outcome done

  file_accepted : file_verdict needed (asked setting) file ≡ R.accepted
  unfolding file_verdict verdict_on
  file_accepted = ap (verdict_on (asked setting)) (read_as needed file s ok) ∙ no_refusal

  text_verdict_lem : (lent : ℕ) → text_verdict setting file lent ≡ R.unless (leb statement_room lent) R.wrong_length 0
  unfolding text_verdict R.and_then
  text_verdict_lem lent = ap (λ (v : R.Verdict). R.and_then v (R.unless (leb statement_room lent) R.wrong_length 0)) file_accepted

  module _ (per : Per) where
    -- THE STATEMENT OF THE FILE IS THESE LINES
    statement_is : T.statement_per (per_of per) (asked setting) file ≡ T.statement_lines (per_of per) m
    unfolding T.statement_per T.answered_statement T.judged_statement
    statement_is = ap (T.answered_statement (per_of per) (asked setting)) (read_as needed file s ok) ∙ ap (T.judged_statement (per_of per) m) no_refusal

    pub too_short :
        (lent : ℕ) → lent < statement_room → told (Err (WrongLength, 0)) ≡ R.answer (text_verdict setting file lent) (length (T.statement_per (per_of per) (asked setting) file))
    unfolding R.answer R.unless
    too_short lent b =
        let v : text_verdict setting file lent ≡ R.refused R.wrong_length 0 =
        text_verdict_lem lent ∙ ap (λ (t : Bool). R.unless t R.wrong_length 0) (lt-leb statement_room lent b) in
        ap (λ (w : R.Verdict). R.answer w (length (T.statement_per (per_of per) (asked setting) file))) (sym v)

    pub stated :
        {old new : List ℕ} {n : ℕ} → statement_room ≤ length old → LinePut (T.statement_lines (per_of per) m) old 0 statement_room new n
        → Promised setting per file old (Ok n) new
    unfolding R.answer R.afterwards R.unless at_start
    stated {old} {new} {n} room l =
        let v : text_verdict setting file (length old) ≡ R.accepted =
        text_verdict_lem (length old) ∙ ap (λ (t : Bool). R.unless t R.wrong_length 0) (le-leb statement_room (length old) room) in
        record {
          answer =
              ap R.given (omega (arith, l.put.ends) ∙ ap length (sym statement_is))
              ∙ ap (λ (w : R.Verdict). R.answer w (length (T.statement_per (per_of per) (asked setting) file))) (sym v);
          contents = put_at_start l.put (omega (arith, l.within)) ∙ ap (λ (t : List ℕ). t ++ drop (length t) old) (sym statement_is);
        }

-- a refused file: nothing is written
pub refused_file :
    (setting : Setting) (per : Per) (file : List ℕ) {x : Refused} {r : Result ℕ Refused} (old : List ℕ)
    → r ≡ Err x
    → file_verdict needed (asked setting) file ≡ verdict_of x
    → Promised setting per file old r old
unfolding R.answer text_verdict R.and_then
refused_file setting per file {x} old on e =
    let v : text_verdict setting file (length old) ≡ verdict_of x =
    ap (λ (w : R.Verdict). R.and_then w (R.unless (leb statement_room (length old)) R.wrong_length 0)) e in
    record {
      answer = ap told on ∙ ap (λ (w : R.Verdict). R.answer w (length (T.statement_per (per_of per) (asked setting) file))) (sym v);
      contents = unwritten _ _ on;
    }

-- and its statement is its refusal line
pub refusal_text_lem :
    (setting : Run.Setting) (per : T.Per) (file : List ℕ) {r : R.Refusal} {place : ℕ} → file_verdict needed setting file ≡ R.refused r place
    → T.statement_per per setting file ≡ T.refusal_line r place
unfolding file_verdict verdict_on T.statement_per T.answered_statement T.judged_statement
refusal_text_lem setting per file {r} {place} e = go (read_month needed file) e
  where
    go : (a : R.Answer MonthFile) → verdict_on setting a ≡ R.refused r place → T.answered_statement per setting a ≡ T.refusal_line r place
    go (R.given m) f = ap (T.judged_statement per m) f
    go (R.refusal x q) f = let same : x ≡ r = cc in let at : q ≡ place = cc in ap₂ T.refusal_line same at

-- "An empty or too long file is refused before all else, place 0": the same line for every file that long
pub too_long_line : (setting : Run.Setting) (per : T.Per) (file : List ℕ) → longest_file < length file → T.statement_per per setting file ≡ T.refusal_line R.file_fault 0
unfolding T.statement_per T.answered_statement
too_long_line setting per file long = ap (T.answered_statement per setting) (sym (too_long needed file (omega arith) long))
