-- The promise of the statement's text: from the setting and the bytes of a file to the bytes of its statement, or the refusal.
use Rattle.std.specs.Prelude.{List, ◌≡◌, ℕ, ◌+◌, ◌*◌, leb, length, Result}
use Rattle.answer.specs.Said as A
use Rattle.answer.specs.declared.Refused.{Refused}
use Rattle.rules.specs.Limits.{most_parties}
use Rattle.rules.specs.Month.{file_verdict}
use Rattle.rules.specs.Refusals as R
use Rattle.rules.specs.Statement as T
use Rattle.rules.specs.Setting.{needed}
use Rattle.setting.specs.Asked.{asked}
use Rattle.setting.specs.declared.Setting.{Setting}
use Rattle.statement_lines.specs.Rooms.{heading_room, columns_room}
use Rattle.statement_text.specs.declared.Per.{Per}
use Rattle.statement_text.specs.declared.Per.TheVariants.{Party, Brp}
use Rattle.text.specs.Text.{at_start}

-- who has a line
abbrev pub per_of : Per → T.Per
per_of Party = T.per_party
per_of Brp = T.per_brp

-- the most bytes of a statement: a heading line, as many lines as a month has parties at most, and the total line
abbrev pub statement_room : ℕ
statement_room = heading_room + (most_parties + 1) * columns_room

abbrev pub verdict : Result ℕ Refused → R.Verdict
verdict = A.said

abbrev pub told : Result ℕ Refused → R.Answer ℕ
told = A.told (λ n. n)

-- the refusals of the file, and last 16: a lent buffer shorter than the longest statement
unfoldable pub text_verdict : Setting → List ℕ → ℕ → R.Verdict
text_verdict setting file lent = R.and_then (file_verdict needed (asked setting) file) (R.unless (leb statement_room lent) R.wrong_length 0)

-- THE PROMISE: so many bytes at the start of the lent buffer are the statement of the file, and nothing further on is touched; refused, nothing is
pub record Promised (setting : Setting) (per : Per) (file old : List ℕ) (r : Result ℕ Refused) (new : List ℕ) : Type 0 where
  pub answer : told r ≡ R.answer (text_verdict setting file (length old)) (length (T.statement_per (per_of per) (asked setting) file))
  pub contents : new ≡ R.afterwards (verdict r) (at_start (T.statement_per (per_of per) (asked setting) file) old) old
