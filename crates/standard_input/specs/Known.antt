-- Reading from a reader whose bytes are known, as those of a slice are: which of them a read gave, and which input a whole reading had. Of a file or a pipe nothing is
-- known (`None`), and nothing is said.
use Rattle.std.specs.Prelude.{List, ℕ, ◌≡◌, ◌<◌, length, take, IfSome, Option}
use Rattle.std.specs.Io.KnownBytes.{Appends, Consumes, IsAtEnd}
use Rattle.standard_input.specs.Reading.{InputOf, FullyRead}
use Rattle.standard_input.specs.declared.Ending.{Ending}
use Rattle.standard_input.specs.declared.Ending.TheVariants.{Whole, TooLong, Failed}
use Rattle.standard_input.specs.declared.Piece.{Piece}
use Rattle.standard_input.specs.declared.Piece.TheVariants as P

-- one read into a part that is not empty takes the bytes that it gives, and tells the end only where there is none
abbrev pub PieceOf : Piece → Option (List ℕ) → Option (List ℕ) → List ℕ → Type 0
PieceOf (P.Bytes n) old new part = Consumes old new (take n part)
PieceOf P.End old new part = 0 < length part → IsAtEnd old
PieceOf P.Failed old new part = Unit

-- what is read past a full buffer: a byte more, or the end
abbrev pub PastOf : Ending → Option (List ℕ) → Type 0
PastOf Whole old = IsAtEnd old
PastOf TooLong old = IfSome old (λ more. 0 < length more)
PastOf Failed old = Unit

-- a reading that did not fail: the known input is one that it can have had
abbrev pub InputRead : Ending → Option (List ℕ) → List ℕ → Type 0
InputRead Whole known bytes = IfSome known (InputOf Whole bytes)
InputRead TooLong known bytes = IfSome known (InputOf TooLong bytes)
InputRead Failed known bytes = Unit

-- WHAT A PROGRAM WRITES: to a writer whose bytes are known it adds the report of every input that the reading can have had, and nothing else
abbrev pub Writes : (List ℕ → List ℕ) → Ending → List ℕ → Option (List ℕ) → Option (List ℕ) → Type 0
Writes report ending bytes old new = (input : List ℕ) → InputOf ending bytes input → Appends old new (report input)

-- and of whatever the input was: some ending of the reading, which is no failure (of one nothing could be said), some bytes that fit it, and the report of those
-- bytes. Of a reader whose bytes are not known no clause can say which they are.
pub record Answered (report : List ℕ → List ℕ) (old new : Option (List ℕ)) : Type 0 where
  pub ending : Ending
  pub bytes : List ℕ
  pub was_read : ending ≡ Failed → ⊥
  pub read : FullyRead ending bytes
  pub written : Writes report ending bytes old new
