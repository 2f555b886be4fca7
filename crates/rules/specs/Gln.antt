-- The GLN (01 "The month file"; the check digit is GS1's).
use Rattle.std.specs.Prelude.{Bool, true, cond, ◌&&◌, List, [], ◌∷◌, ℕ, ◌+◌, ◌-◌, ◌*◌, ◌%◌, eqb, ltb, length}
use Rattle.rules.specs.Limits.{gln_digits}
use Rattle.rules.specs.Words.{sum_from1, at, within}

-- "13 ASCII digits": every byte is one of 0 .. 9, which are 48 .. 57
unfoldable pub all_digits : List ℕ → Bool
all_digits [] = true
all_digits (byte ∷ rest) = within 48 57 byte && all_digits rest

-- W4: "weights follow the position from the right as the rule states". GS1's rule counts the positions of the digits from the right, from 1: position 1 is
-- the check digit. The digit there, 48 being the byte of 0:
unfoldable pub digit_at_position : List ℕ → ℕ → ℕ
digit_at_position gln position = at gln (length gln - position) - 48

-- "weighted 1, 3, 1, 3 .. from the right": an odd position weighs 1, an even one 3
unfoldable pub weight_of_position : ℕ → ℕ
weight_of_position position = cond (eqb (position % 2) 1) 1 3

-- a digit, weighted: the product of its position's weight and itself
unfoldable pub weighted_digit : List ℕ → ℕ → ℕ
weighted_digit gln position = weight_of_position position * digit_at_position gln position

-- "the sum of all digits, weighted": of positions 1, 2, .. to the last. GS1's worked example, product by product, is in
-- `worked_cases/specs/WorkedServices`.
unfoldable pub weighted_sum : List ℕ → ℕ
weighted_sum gln = sum_from1 (length gln) (weighted_digit gln)

-- "The GLN's last digit makes the sum of all digits, weighted 1, 3, 1, 3 .. from the right, a multiple of 10."
unfoldable pub valid_gln : List ℕ → Bool
valid_gln gln = eqb (length gln) gln_digits && all_digits gln && eqb (weighted_sum gln % 10) 0

-- the digits read as one number
unfoldable pub digits_onto : ℕ → List ℕ → ℕ
digits_onto before [] = before
digits_onto before (byte ∷ rest) = digits_onto (before * 10 + (byte - 48)) rest

-- "GLNs rise strictly."
unfoldable pub rises : List ℕ → List ℕ → Bool
rises earlier later = ltb (digits_onto 0 earlier) (digits_onto 0 later)
