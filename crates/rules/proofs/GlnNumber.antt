-- A GLN is its number: so many digits read as one number are that number's digits again, leading zeros and all. So a GLN is printed from its number as it stands
-- in the file, and two GLNs of one number are the same.
use mathlib.Core.Bool.{true, ◌&&◌}
use mathlib.Core.List.{List, [], ◌∷◌, ◌++◌}
use mathlib.Core.Path.{◌≡◌, refl, sym, ◌∙◌, ap, ap₂}
use Prim.Native.Nat.{ℕ, zero, suc, ◌+◌, ◌-◌, ◌*◌, ◌/◌, ◌%◌, ◌^◌, ◌≤◌, ◌<◌}
use native.Mathlib.Nat.{pow-suc}
use native.Mathlib.Omega.{arith}
use borrow.Author.Tests.{eqb-true}
use lib.Dec.{eqb}
use lib.ListN.{length, get_or, take}
use lib.Seq.{take-suc, take_all, length-take-le}
use Rattle.rules.specs.Gln.{all_digits, weighted_sum, valid_gln, digits_onto}
use Rattle.rules.specs.Limits.{gln_digits}
use Rattle.rules.specs.Statement.{digits_of_width}
use Rattle.rules.specs.Words.{within}
use Rattle.rules.proofs.Whole.{both_pass, within_is}

-- the last of some digits: it counts once, those before it ten times; and all are digits
number_last : (before : ℕ) (xs : List ℕ) (x : ℕ) → digits_onto before (xs ++ (x ∷ [])) ≡ digits_onto before xs * 10 + (x - 48)
unfolding digits_onto
number_last before [] x = refl
number_last before (y ∷ xs) x = number_last (before * 10 + (y - 48)) xs x

digits_apart : (xs : List ℕ) (x : ℕ) → all_digits (xs ++ (x ∷ [])) ≡ true → (all_digits xs ≡ true) × (48 ≤ x) × (x ≤ 57)
unfolding all_digits
digits_apart [] x h = let is = within_is 48 57 x (both_pass (within 48 57 x) true h).0 in (refl, is.0, is.1)
digits_apart (y ∷ xs) x h =
    let parts = both_pass (within 48 57 y) (all_digits (xs ++ (x ∷ []))) h in
    let more = digits_apart xs x parts.1 in
    (rw parts.0 more.0, more.1, more.2)

module _ (width : ℕ) (l : List ℕ) (e : length l ≡ suc width) where
  split : l ≡ take width l ++ (get_or l width 0 ∷ [])
  split = sym (take_all (suc width) l (omega arith)) ∙ take-suc l width 0 (omega arith)

  before_last : length (take width l) ≡ width
  before_last = length-take-le width l (omega arith)

  last_counts : digits_onto 0 l ≡ digits_onto 0 (take width l) * 10 + (get_or l width 0 - 48)
  last_counts = ap (digits_onto 0) split ∙ number_last 0 (take width l) (get_or l width 0)

  all_are : all_digits l ≡ true → (all_digits (take width l) ≡ true) × (48 ≤ get_or l width 0) × (get_or l width 0 ≤ 57)
  all_are h = digits_apart (take width l) (get_or l width 0) (ap all_digits (sym split) ∙ h)

-- the number of so many digits has no more of them, and in so many digits it is these
digits_small : (width : ℕ) (l : List ℕ) → length l ≡ width → all_digits l ≡ true → digits_onto 0 l < 10 ^ width
unfolding digits_onto
digits_small zero [] e h = omega arith
digits_small zero (x ∷ l) e h = absurd (omega arith)
digits_small (suc width) l e h =
    let are = all_are width l e h in
    omega (arith, last_counts width l e, are.1, are.2, digits_small width (take width l) (before_last width l e) are.0, pow-suc 10 width)

digits_again : (width : ℕ) (l : List ℕ) → length l ≡ width → all_digits l ≡ true → digits_of_width width (digits_onto 0 l) ≡ l
unfolding digits_of_width
digits_again zero [] e h = refl
digits_again zero (x ∷ l) e h = absurd (omega arith)
digits_again (suc width) l e h =
    let are = all_are width l e h in
    let low : 48 ≤ get_or l width 0 = are.1 in
    let high : get_or l width 0 ≤ 57 = are.2 in
    let tens : digits_onto 0 l / 10 ≡ digits_onto 0 (take width l) = omega (arith, last_counts width l e) in
    let last : 48 + digits_onto 0 l % 10 ≡ get_or l width 0 = omega (arith, last_counts width l e) in
    ap₂ (λ (a b : ℕ). digits_of_width width a ++ (b ∷ [])) tens last
    ∙ ap (λ (m : List ℕ). m ++ (get_or l width 0 ∷ [])) (digits_again width (take width l) (before_last width l e) are.0)
    ∙ sym (split width l e)

-- OF A GLN
module _ (gln : List ℕ) (valid : valid_gln gln ≡ true) where
  thirteen_digits : (length gln ≡ gln_digits) × (all_digits gln ≡ true)
  unfolding valid_gln
  thirteen_digits =
      let both = both_pass (eqb (length gln) gln_digits) (all_digits gln) (both_pass (eqb (length gln) gln_digits && all_digits gln) (eqb (weighted_sum gln % 10) 0) valid).0 in
      (eqb-true (length gln) gln_digits both.0, both.1)

  pub gln_number : digits_of_width gln_digits (digits_onto 0 gln) ≡ gln
  gln_number = digits_again gln_digits gln thirteen_digits.0 thirteen_digits.1

  pub gln_number_small : digits_onto 0 gln < 10 ^ gln_digits
  gln_number_small = digits_small gln_digits gln thirteen_digits.0 thirteen_digits.1

pub gln_number_same : (a b : List ℕ) → valid_gln a ≡ true → valid_gln b ≡ true → digits_onto 0 a ≡ digits_onto 0 b → a ≡ b
gln_number_same a b va vb e = sym (gln_number a va) ∙ ap (digits_of_width gln_digits) e ∙ gln_number b vb
