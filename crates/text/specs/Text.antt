-- What putting a text into a lent buffer means, and the room that a number, a column and the refusal line take (01 "The statement program").
-- The texts themselves stand in the rules.
use Rattle.std.specs.Prelude.{List, [], ◌++◌, ◌≡◌, ℕ, ◌+◌, ◌*◌, ◌≤◌, length, drop}
use Rattle.std.proofs.lemmas.List.Edits.{sets}
use Rattle.rules.specs.Limits.{gln_digits}
use Rattle.rules.specs.Refusals.{Verdict, accepted, refused}
use Rattle.rules.specs.Statement.{refusal_line}

-- a text stands in a buffer from a place on, and nothing else in it was touched; the place after the text is told
pub record Put (text before : List ℕ) (place : ℕ) (after : List ℕ) (end : ℕ) : Type 0 where
  pub is : after ≡ sets before place text
  pub ends : end ≡ place + length text

-- and it is not longer than the room that is kept for it
pub record LinePut (text before : List ℕ) (place room : ℕ) (after : List ℕ) (end : ℕ) : Type 0 where
  pub put : Put text before place after end
  pub within : end ≤ place + room

-- the most digits of a number of 64 bits
abbrev pub most_digits : ℕ
most_digits = 20

-- a name before columns: a GLN at most
abbrev pub longest_name : ℕ
longest_name = gln_digits

-- a column: a space and a number
abbrev pub column_room : ℕ
column_room = 1 + most_digits

-- two columns
abbrev pub energies_room : ℕ
energies_room = 2 * column_room

-- the most bytes of a refusal line: "refused " 8, its number 2, " at " 4, the place 20 (a number of 64 bits), and the newline
abbrev pub longest_refusal_line : ℕ
longest_refusal_line = 8 + 2 + 4 + most_digits + 1

-- "On refusal it prints one line, `refused N at P`."; what is accepted has none
abbrev pub refusal_text : Verdict → List ℕ
refusal_text accepted = []
refusal_text (refused r place) = refusal_line r place

-- a text at the start of a lent buffer, "nothing further on touched"
unfoldable pub at_start : List ℕ → List ℕ → List ℕ
at_start text lent = text ++ drop (length text) lent
