-- Reading standard input (01 "The statement program": "Reads one month file from standard input."): what the count of one read promises, and what the end of
-- the reading says of the input, with the paper's refusal and place. Which bytes were read, no contract can say.
use Rattle.std.specs.Prelude.{List, [], ◌≡◌, ℕ, ◌≤◌, ◌<◌, length, Result, Ok, Err, ⊤}
use Rattle.std.proofs.Math.Option.{Option, none, some}
use Rattle.rules.specs.Limits.{longest_file}
use Rattle.rules.specs.Refusals.{file_fault, Verdict, accepted, refused}
use Rattle.standard_input.specs.declared.Ending.{Ending}
use Rattle.standard_input.specs.declared.Ending.TheVariants.{Whole, TooLong, Failed}
use Rattle.standard_input.specs.declared.Fault.{Fault}
use Rattle.standard_input.specs.declared.Piece.{Piece}
use Rattle.standard_input.specs.declared.Piece.TheVariants as P
use Rattle.text.specs.Text.{refusal_text}

-- a read that gives bytes gives at least one, and no more than the part that it was lent holds
abbrev pub PieceWithin : Piece → ℕ → Type 0
PieceWithin (P.Bytes n) most = (0 < n) × (n ≤ most)
PieceWithin P.End most = Unit
PieceWithin P.Failed most = Unit

-- an input is too long only where it fills the buffer
abbrev pub Full : Ending → ℕ → ℕ → Type 0
Full Whole filled most = Unit
Full TooLong filled most = filled ≡ most
Full Failed filled most = Unit

-- WHAT THE END OF THE READING SAYS, for each case in the words of the rules. An input that was read whole has no refusal of its own: its bytes are judged.
-- "An empty or too long file is refused before all else, place 0". One that could not be read has no answer at all.
abbrev pub ended : Ending → Option Verdict
ended Whole = some accepted
ended TooLong = some (refused file_fault 0)
ended Failed = none

-- and what is printed of that alone: the refusal line
abbrev pub ended_text : Option Verdict → List ℕ
ended_text none = []
ended_text (some v) = refusal_text v

-- the inputs that a reading can have had which ended so, with these bytes read: the bytes themselves; every input that is longer than they are; and none,
-- where it could not be read
abbrev pub InputOf : Ending → List ℕ → List ℕ → Type 0
InputOf Whole bytes input = input ≡ bytes
InputOf TooLong bytes input = length bytes < length input
InputOf Failed bytes input = ⊥

-- "At most 65,536 bytes": an input is told as too long only where so many of it were read
abbrev pub FullyRead : Ending → List ℕ → Type 0
FullyRead ending bytes = Full ending (length bytes) longest_file

-- THE TEXT OF THE INPUT: of every input that the reading can have had, what is printed is its report
abbrev pub TextOf : (List ℕ → List ℕ) → Ending → List ℕ → List ℕ → Type 0
TextOf report ending bytes printed = (input : List ℕ) → InputOf ending bytes input → printed ≡ report input

-- how a program ends: with status 0, or with 1 where a stream failed it
abbrev pub status_of : Result ⊤ Fault → ℕ
status_of (Ok _) = 0
status_of (Err fault) = 1
