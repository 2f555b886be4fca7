-- What the two functions of `gln` answer, in the words of the rules (01 "The month file").
use Rattle.std.specs.Prelude.{cond, List, [], ℕ, ◌+◌, leb, length, take, drop, Option, Some, None}
use Rattle.rules.specs.Gln.{valid_gln, digits_onto}
use Rattle.rules.specs.Limits.{gln_digits}

-- a GLN's number where the bytes are one, and else none
unfoldable pub gln_answer : List ℕ → Option ℕ
gln_answer bytes = cond (valid_gln bytes) (Some (digits_onto 0 bytes)) None

-- the thirteen bytes from a place on, or none where they run past the end
unfoldable pub gln_part : List ℕ → ℕ → List ℕ
gln_part file at = cond (leb (at + gln_digits) (length file)) (take gln_digits (drop at file)) []
