-- The refusal line: how long its parts are, and its text from the texts put one after the other.
use mathlib.Core.List.{List, ◌++◌, append_assoc}
use mathlib.Core.Path.{◌≡◌}
use Prim.Native.Nat.{ℕ, ◌≤◌, ◌<◌}
use native.Mathlib.Omega.{arith}
use lib.ListN.{length, length-append}
use Rattle.rules.specs.Refusals.{Refusal, file_fault, unknown_kind, out_of_order, out_of_range, gln_fault, w_out_of_range, missing_hour, residual_negative}
use Rattle.rules.specs.Refusals.{residual_too_large, curve_too_large, span_fault, energy_too_large, nothing_to_follow, periodised_too_large, wrong_count, wrong_length, not_refixed, whole_exceeded, difference_too_large}
use Rattle.rules.specs.Refusals.{number_of}
use Rattle.rules.specs.Statement.{decimal, newline, refusal_line}
use Rattle.rules.specs.Words.{ascii}
use Rattle.text.specs.Text.{Put}
use Rattle.text.proofs.Digits.{decimal_at_most}
use Rattle.text.proofs.Puts.{put_then, put_as}

two_digits : (r : Refusal) → number_of r < 100
two_digits file_fault = omega arith
two_digits unknown_kind = omega arith
two_digits out_of_order = omega arith
two_digits out_of_range = omega arith
two_digits gln_fault = omega arith
two_digits w_out_of_range = omega arith
two_digits missing_hour = omega arith
two_digits residual_negative = omega arith
two_digits residual_too_large = omega arith
two_digits curve_too_large = omega arith
two_digits span_fault = omega arith
two_digits energy_too_large = omega arith
two_digits nothing_to_follow = omega arith
two_digits periodised_too_large = omega arith
two_digits wrong_count = omega arith
two_digits wrong_length = omega arith
two_digits not_refixed = omega arith
two_digits whole_exceeded = omega arith
two_digits difference_too_large = omega arith

module _ (r : Refusal) {n : ℕ} (number : n ≡ number_of r) {b m : List ℕ} {q : ℕ} (h : Put (ascii "refused " ++ decimal n) b 0 m q) where
  pub number_ends : q ≤ 10
  unfolding ascii
  number_ends =
      let two : length (decimal n) ≤ 2 = decimal_at_most 1 n (omega (arith, two_digits r)) in
      omega (arith, h.ends, length-append (ascii "refused ") (decimal n))

  pub refusal_text_lem : (place : ℕ) {m' a : List ℕ} {q' e : ℕ} → Put (ascii " at " ++ decimal place) m q m' q' → Put newline m' q' a e
      → Put (refusal_line r place) b 0 a e
  unfolding refusal_line
  refusal_text_lem place k l = put_as (rw number (simp append_assoc)) (put_then (put_then h k) l)
