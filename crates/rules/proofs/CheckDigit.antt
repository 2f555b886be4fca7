-- The check digit as GS1 publishes it: the weighted sum of the other digits, subtracted from the nearest equal or higher multiple of ten. 01 says it of all
-- thirteen ("makes the sum of all digits .. a multiple of 10"): of ten last digits both take the same one, and no other.
use mathlib.Core.Bool.{true}
use mathlib.Core.List.{List, [], ◌∷◌, ◌++◌}
use mathlib.Core.Logic.{◌↔◌}
use mathlib.Core.Path.{◌≡◌, sym, ◌∙◌, ap}
use Prim.Native.Nat.{ℕ, suc, ◌+◌, ◌-◌, ◌*◌, ◌/◌, ◌%◌, ◌<◌, ◌≤◌}
use native.Mathlib.Omega.{arith}
use borrow.Author.Tests.{eqb-true, eq-eqb, le-leb}
use lib.Dec.{eqb}
use lib.ListN.{length, get_or, length-append, get_or-append}
use lib.Seq.{get_or-append_seam}
use Rattle.rules.specs.Gln.{all_digits, digit_at_position, weight_of_position, weighted_digit, weighted_sum, valid_gln}
use Rattle.rules.specs.Limits.{gln_digits}
use Rattle.rules.specs.Words.{sum, sum_from1, at, within}
use Rattle.rules.proofs.Sums.{sum_cong, sum_split}
use Rattle.rules.proofs.Whole.{both_pass}

-- the digits before the last one, weighted: they stand at positions 2, 3 and so on
others_weighted : List ℕ → ℕ
others_weighted others = sum (length others) (λ k. weight_of_position (suc (1 + k)) * (at others (length others - suc k) - 48))

module _ (others : List ℕ) (x : ℕ) where
  one_more : length (others ++ (x ∷ [])) ≡ 1 + length others
  one_more = omega (arith, length-append others (x ∷ []))

  last_weighted : weighted_digit (others ++ (x ∷ [])) 1 ≡ x - 48
  unfolding weighted_digit weight_of_position digit_at_position at
  last_weighted =
      let e : length (others ++ (x ∷ [])) - 1 ≡ length others = omega (arith, one_more) in
      omega (arith, ap (λ (k : ℕ). get_or (others ++ (x ∷ [])) k 0 - 48) e, ap (λ (y : ℕ). y - 48) (get_or-append_seam others x [] 0))

  other_weighted : (k : ℕ) → k < length others
      → weighted_digit (others ++ (x ∷ [])) (suc (1 + k)) ≡ weight_of_position (suc (1 + k)) * (at others (length others - suc k) - 48)
  unfolding weighted_digit digit_at_position at
  other_weighted k b =
      let e : length (others ++ (x ∷ [])) - suc (1 + k) ≡ length others - suc k = omega (arith, one_more) in
      let before : length others - suc k < length others = omega arith in
      ap (λ (y : ℕ). weight_of_position (suc (1 + k)) * (y - 48))
      (ap (λ (i : ℕ). get_or (others ++ (x ∷ [])) i 0) e ∙ get_or-append others (x ∷ []) 0 (length others - suc k) before)

  last_and_others : weighted_sum (others ++ (x ∷ [])) ≡ x - 48 + others_weighted others
  unfolding weighted_sum sum_from1 sum others_weighted
  last_and_others =
      let f : ℕ → ℕ = λ k. weighted_digit (others ++ (x ∷ [])) (suc k) in
      let others_same : sum (length others) (λ k. f (1 + k)) ≡ others_weighted others = sum_cong (length others) other_weighted in
      ap (λ (n : ℕ). sum n f) one_more ∙ sum_split 1 (length others) f ∙ omega (arith, last_weighted, others_same)

-- digits with one more are digits, and of thirteen the sum decides
digits_too : (others : List ℕ) {x : ℕ} → all_digits others ≡ true → 48 ≤ x → x ≤ 57 → all_digits (others ++ (x ∷ [])) ≡ true
unfolding all_digits within
digits_too [] {x} h low high = rw (le-leb 48 x low, le-leb x 57 high)
digits_too (y ∷ others) {x} h low high =
    let parts : (within 48 57 y ≡ true) × (all_digits others ≡ true) = both_pass (within 48 57 y) (all_digits others) h in
    rw parts.0 (digits_too others parts.1 low high)

by_sum : (others : List ℕ) {x : ℕ} → 1 + length others ≡ gln_digits → all_digits others ≡ true → 48 ≤ x → x ≤ 57
    → valid_gln (others ++ (x ∷ [])) ≡ eqb (weighted_sum (others ++ (x ∷ [])) % 10) 0
unfolding valid_gln
by_sum others {x} size digits low high = rw (eq-eqb _ _ (one_more others x ∙ size), digits_too others digits low high)

-- "the nearest equal or higher multiple of ten"
abbrev pub next_ten : ℕ → ℕ
next_ten n = (n + 9) / 10 * 10

-- The sum of the others is the sum with a last digit of 0.
pub check_digit : (others : List ℕ) (d : ℕ) → 1 + length others ≡ gln_digits → all_digits others ≡ true → d < 10
    → (valid_gln (others ++ ((48 + d) ∷ [])) ≡ true) ↔ (d ≡ next_ten (weighted_sum (others ++ (48 ∷ []))) - weighted_sum (others ++ (48 ∷ [])))
check_digit others d size digits b =
    let s : ℕ = weighted_sum (others ++ ((48 + d) ∷ [])) in
    let valid = by_sum others {x = 48 + d} size digits (omega arith) (omega arith) in
    let all = last_and_others others (48 + d) in
    let rest = last_and_others others 48 in
    (λ v. omega (arith, all, rest, eqb-true (s % 10) 0 (sym valid ∙ v)), λ e. valid ∙ eq-eqb (s % 10) 0 (omega (arith, e, all, rest)))
