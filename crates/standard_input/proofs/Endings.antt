-- What is printed of an input, by how its reading ended: of one that is too long its refusal line. That this is its report is one law for every program whose report
-- of an input that is too long is that line.
use mathlib.Core.List.{List}
use mathlib.Core.Path.{◌≡◌, refl, sym, ◌∙◌, ap, subst}
use Prim.Native.Nat.{ℕ, ◌<◌}
use native.Mathlib.Omega.{arith}
use lib.ListN.{length}
use Rattle.std.specs.Prelude.{None, Some, IfSome, Option}
use Rattle.std.specs.Io.KnownBytes.{Appends}
use Rattle.rules.specs.Limits.{longest_file}
use Rattle.rules.specs.Refusals.{file_fault}
use Rattle.rules.specs.Statement.{refusal_line}
use Rattle.standard_input.specs.Known.{InputRead, Writes, Answered}
use Rattle.standard_input.specs.Reading.{FullyRead, ended, ended_text, TextOf}
use Rattle.standard_input.specs.declared.Ending.{Ending}
use Rattle.standard_input.specs.declared.Ending.TheVariants.{Whole, TooLong, Failed}

module _ (report : List ℕ → List ℕ) (bytes : List ℕ) {ending : Ending} {printed : List ℕ} where
  -- read whole: the report of the bytes
  pub whole_text : ending ≡ Whole → printed ≡ report bytes → TextOf report ending bytes printed
  whole_text e is = rw e (λ input same. is ∙ ap report (sym same))

  -- TOO LONG: the line is the report of any input that long
  pub too_long_text :
      ((input : List ℕ) → longest_file < length input → report input ≡ refusal_line file_fault 0)
      → FullyRead ending bytes
      → ending ≡ TooLong
      → printed ≡ ended_text (ended ending)
      → TextOf report ending bytes printed
  too_long_text line full e is =
      let most : length bytes ≡ longest_file = subst (λ (x : Ending). FullyRead x bytes) e full in
      rw e (λ input longer. is ∙ ap (λ (x : Ending). ended_text (ended x)) e ∙ sym (line input (omega (arith, most, longer))))

  -- it could not be read: there is no such input
  pub failed_text : ending ≡ Failed → TextOf report ending bytes printed
  failed_text e = rw e (λ input never. absurd never)

-- WHAT A PROGRAM WRITES, of a reader whose bytes are known: their report
pub known_written :
    (report : List ℕ → List ℕ) (ending : Ending) (known : Option (List ℕ)) (old new : Option (List ℕ)) {bytes taken : List ℕ}
    → (ending ≡ Failed → ⊥)
    → InputRead ending known taken
    → bytes ≡ taken
    → Writes report ending bytes old new
    → IfSome known (λ input. Appends old new (report input))
known_written report Whole None old new was_read read same writes = tt
known_written report Whole (Some input) old new was_read read same writes = writes input (read ∙ sym same)
known_written report TooLong None old new was_read read same writes = tt
known_written report TooLong (Some input) old new was_read read same writes = writes input (rw same read)
known_written report Failed known old new was_read read same writes = absurd (was_read refl)

-- a text that is the report of every input that the reading can have had, printed, is that report written
pub text_written :
    (report : List ℕ → List ℕ) (ending : Ending) (bytes text : List ℕ) (old new : Option (List ℕ))
    → TextOf report ending bytes text
    → Appends old new text
    → Writes report ending bytes old new
text_written report ending bytes text old new is printed input possible = rw (is input possible) at printed

-- and so the program has answered whatever the input was
pub answered_by :
    (report : List ℕ → List ℕ) (ending : Ending) (bytes : List ℕ) (old new : Option (List ℕ))
    → (ending ≡ Failed → ⊥)
    → FullyRead ending bytes
    → Writes report ending bytes old new
    → Answered report old new
answered_by report ending bytes old new was_read read written = record { ending = ending; bytes = bytes; was_read = was_read; read = read; written = written }
