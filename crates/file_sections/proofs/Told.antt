-- What the reading of a file tells: that it is refused, with the verdict of the whole call, or its sections.
use mathlib.Core.List.{List}
use mathlib.Core.Path.{◌≡◌, sym, ◌∙◌, ap}
use Prim.Native.Nat.{ℕ}
use native.Mathlib.Omega.{arith}
use Rattle.std.specs.Prelude.{Result, Ok, Err}
use Rattle.answer.specs.Said.{verdict_of}
use Rattle.answer.specs.declared.Refused.{Refused}
use Rattle.file_sections.specs.declared.Sections.{Sections}
use Rattle.file_sections.specs.Walk.{told, read_answer, Promised, Read}
use Rattle.file_sections.proofs.AcceptedFile.{accepted_so}
use Rattle.setting.specs.Asked.{asked, prices_asked}
use Rattle.setting.specs.declared.Prices.{Prices}
use Rattle.setting.specs.declared.Setting.{Setting}
use Rattle.rules.specs.Month.{verdict_on, file_verdict}
use Rattle.rules.specs.MonthFile.{MonthFile, read_month}
use Rattle.rules.specs.Refusals as R

-- the file is not read, its prices needed or not
pub not_read :
    (prices : Prices) (setting : Setting) (file : List ℕ) {read : Result Sections Refused}
    → Promised prices file read
    → {x : Refused}
    → read ≡ Err x
    → file_verdict (prices_asked prices) (asked setting) file ≡ verdict_of x
unfolding file_verdict verdict_on
not_read prices setting file {read} is {x} e = go (read_month (prices_asked prices) file) (sym is ∙ ap told e)
  where
    go : (a : R.Answer MonthFile) → read_answer a ≡ told (Err x) → verdict_on (asked setting) a ≡ verdict_of x
    go (R.given m) f = let z : ◌≡◌ {A = ℕ} 0 1 = cc in absurd (omega arith)
    go (R.refusal r q) f = cc

-- the file is read
pub is_read :
    (prices : Prices) (file : List ℕ) {read : Result Sections Refused} → Promised prices file read → {s : Sections} → read ≡ Ok s → Read (prices_asked prices) file s
is_read prices file {read} is {s} e = accepted_so prices file s (sym (ap told e) ∙ is)
