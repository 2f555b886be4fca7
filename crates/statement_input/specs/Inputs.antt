-- The promise of the text of an input: from the setting, who has a line, how the reading ended and the bytes read to the bytes that are printed.
use Rattle.std.specs.Prelude.{List, [], ◌≡◌, ℕ, length}
use Rattle.rules.specs.Refusals.{file_fault}
use Rattle.rules.specs.Setting as Run
use Rattle.rules.specs.Statement as T
use Rattle.rules.specs.Statement.{refusal_line}
use Rattle.setting.specs.Asked.{asked}
use Rattle.setting.specs.declared.Setting.{Setting}
use Rattle.standard_input.specs.declared.Ending.{Ending}
use Rattle.standard_input.specs.declared.Ending.TheVariants.{Whole, TooLong, Failed}
use Rattle.statement_text.specs.Stating.{per_of}
use Rattle.statement_text.specs.declared.Per.{Per}
use Rattle.text.specs.Text.{at_start}

-- so many bytes at the start of the lent buffer are the text, and nothing further on is touched
pub record Printed (text old : List ℕ) (n : ℕ) (new : List ℕ) : Type 0 where
  pub told : n ≡ length text
  pub contents : new ≡ at_start text old

-- the text of an input: of one that was read whole the statement of its bytes; of one that is too long the line of that refusal, whatever its bytes ("An empty or
-- too long file is refused before all else, place 0"); one that could not be read has none
abbrev pub input_text : T.Per → Run.Setting → Ending → List ℕ → List ℕ
input_text per setting Whole bytes = T.statement_per per setting bytes
input_text per setting TooLong bytes = refusal_line file_fault 0
input_text per setting Failed bytes = []

-- THE PROMISE of `input_text`
abbrev pub Promised : Setting → Per → Ending → List ℕ → List ℕ → ℕ → List ℕ → Type 0
Promised setting per ending bytes = Printed (input_text (per_of per) (asked setting) ending bytes)
