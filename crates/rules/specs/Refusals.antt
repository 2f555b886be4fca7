-- "Refusal numbers" (01, and the requests of 02): each refusal by name, its number, and the one rule of their order: the first that refuses wins.
use Rattle.std.specs.Prelude.{Bool, cond, List, [], ◌∷◌, ℕ}
use Rattle.rules.specs.Words.{figures}

-- The table's rows, in its order, and then those that came with the requests.
pub data Refusal : Type 0 where
  -- "file empty or too long; a body cut short; no end record; bytes after it"
  file_fault : Refusal
  -- "unknown kind"
  unknown_kind : Refusal
  -- "kind or hour field out of order"
  out_of_order : Refusal
  -- "another field outside its range"
  out_of_range : Refusal
  -- "GLN not digits, wrong check digit, not rising"
  gln_fault : Refusal
  -- "W is 0 or too large"
  w_out_of_range : Refusal
  -- "missing hour"
  missing_hour : Refusal
  -- "residual negative"
  residual_negative : Refusal
  -- "residual too large"
  residual_too_large : Refusal
  -- "curve number too large"
  curve_too_large : Refusal
  -- "a not below b, b above H; curve of 0 or over 8,784 hours"
  span_fault : Refusal
  -- "E too large"
  energy_too_large : Refusal
  -- "E positive and S zero"
  nothing_to_follow : Refusal
  -- "too much periodised in an hour"
  periodised_too_large : Refusal
  -- "wrong count in the end record"
  wrong_count : Refusal
  -- "a lent output is not of the needed length (record writer: too short)"
  wrong_length : Refusal
  -- W1: "no refixed series in a final run"
  not_refixed : Refusal
  -- W3: "weight before plus the month's own weight exceeds the whole, or the whole is over 8,784,000,000,000"
  whole_exceeded : Refusal
  -- W6: "a difference beyond 2,000,000,001 Wh of either sign"
  difference_too_large : Refusal

abbrev pub number_of : Refusal → ℕ
number_of file_fault = 1
number_of unknown_kind = 2
number_of out_of_order = 3
number_of out_of_range = 4
number_of gln_fault = 5
number_of w_out_of_range = 6
number_of missing_hour = 7
number_of residual_negative = 8
number_of residual_too_large = 9
number_of curve_too_large = 10
number_of span_fault = 11
number_of energy_too_large = 12
number_of nothing_to_follow = 13
number_of periodised_too_large = 14
number_of wrong_count = 15
number_of wrong_length = 16
number_of not_refixed = 17
number_of whole_exceeded = 18
number_of difference_too_large = 19

-- "A refusal returns its number and a place, and the call has written nothing." "Places count from 0"
pub data Verdict : Type 0 where
  accepted : Verdict
  refused : Refusal → ℕ → Verdict

-- what a call gives: a value, or the refusal
pub data Answer (A : Type 0) : Type 0 where
  given : A → Answer A
  refusal : Refusal → ℕ → Answer A

-- accepted where the test holds, and else refused with this refusal at this place
unfoldable pub unless : Bool → Refusal → ℕ → Verdict
unless test r place = cond test accepted (refused r place)

-- the first of two judgements counts; the second only where the first accepts
unfoldable pub and_then : Verdict → Verdict → Verdict
and_then accepted later = later
and_then (refused r place) later = refused r place

-- THE ORDER OF REFUSALS: of a list of checks, the first that refuses wins. Every order of 01 is such a list.
unfoldable pub first : List Verdict → Verdict
first [] = accepted
first (check ∷ later) = and_then check (first later)

-- one check for each of the places 0, 1, .. n - 1, in turn
unfoldable pub in_turn : ℕ → (ℕ → Verdict) → Verdict
in_turn n check = first (figures n check)

-- an accepted call gives its value, a refused one its refusal
unfoldable pub answer : {A : Type 0} → Verdict → A → Answer A
answer accepted a = given a
answer (refused r place) a = refusal r place

-- and back: the verdict that an answer tells
abbrev pub verdict_told : {A : Type 0} → Answer A → Verdict
verdict_told (given a) = accepted
verdict_told (refusal r place) = refused r place

-- "A refused call writes nothing into any buffer it was lent." (00, demand 1): what a lent buffer holds once the call has answered
unfoldable pub afterwards : {A : Type 0} → Verdict → List A → List A → List A
afterwards accepted new old = new
afterwards (refused r place) new old = old
