-- The promise of the report's text: from the setting and the bytes of a file to the bytes of its report in three buffers, or the refusal.
use Rattle.std.specs.Prelude.{Bool, ◌&&◌, List, ◌≡◌, ℕ, leb, length, Result}
use Rattle.answer.specs.Said as A
use Rattle.answer.specs.declared.Refused.{Refused}
use Rattle.report_text.specs.Lines.{first_room, rest_room, parties_room, first_part, rest_part, parties_part}
use Rattle.report_text.specs.declared.Lines.{Lines}
use Rattle.rules.specs.Month.{month_of, file_verdict}
use Rattle.rules.specs.MonthFile.{MonthFile}
use Rattle.rules.specs.Refusals as R
use Rattle.rules.specs.Setting.{optional}
use Rattle.setting.specs.Asked.{asked}
use Rattle.setting.specs.declared.Setting.{Setting}
use Rattle.text.specs.Text.{at_start}

-- how many bytes stand in each buffer
unfoldable pub lengths_of : MonthFile → Lines
lengths_of m =
    record { first = length (first_part m); rest = length (rest_part m); parties = length (parties_part m) }

abbrev pub verdict : Result Lines Refused → R.Verdict
verdict = A.said

abbrev pub told : Result Lines Refused → R.Answer Lines
told = A.told (λ lines. lines)

-- each lent buffer has the room that its lines can take
unfoldable pub rooms : ℕ → ℕ → ℕ → Bool
rooms first rest parties = (leb first_room first && leb rest_room rest) && leb parties_room parties

-- the refusals of the file, and last 16: a lent buffer shorter than its room
unfoldable pub report_verdict : R.Verdict → ℕ → ℕ → ℕ → R.Verdict
report_verdict ofFile first rest parties = R.and_then ofFile (R.unless (rooms first rest parties) R.wrong_length 0)

-- so many bytes at the start of each lent buffer are its part of a month's report, and nothing further on is touched; refused, nothing is
pub record Answered (ofFile : R.Verdict) (m : MonthFile) (first rest parties : List ℕ) (r : Result Lines Refused) (first' rest' parties' : List ℕ) : Type 0 where
  pub answer : told r ≡ R.answer (report_verdict ofFile (length first) (length rest) (length parties)) (lengths_of m)
  pub first_hours_holds : first' ≡ R.afterwards (verdict r) (at_start (first_part m) first) first
  pub other_hours : rest' ≡ R.afterwards (verdict r) (at_start (rest_part m) rest) rest
  pub all_parties : parties' ≡ R.afterwards (verdict r) (at_start (parties_part m) parties) parties

-- THE PROMISE: that of the file's month, by the file's verdict under the setting
abbrev pub Promised : Setting → List ℕ → List ℕ → List ℕ → List ℕ → Result Lines Refused → List ℕ → List ℕ → List ℕ → Type 0
Promised setting file = Answered (file_verdict optional (asked setting) file) (month_of file)
