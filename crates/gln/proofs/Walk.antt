-- The pass over a GLN's digits keeps what is left of the rule: the digits still to be tested, the number still to be read and the weighted sum still to
-- be added say together what the whole says.
use mathlib.Core.Bool.{Bool, true, false, cond, ◌&&◌}
use mathlib.Core.List.{List, [], ◌∷◌}
use mathlib.Core.Path.{◌≡◌, refl, sym, ◌∙◌, ap}
use Prim.Native.Nat.{ℕ, suc, ◌+◌, ◌-◌, ◌*◌, ◌%◌, ◌^◌, ◌≤◌, ◌<◌, zero-le}
use native.Mathlib.Nat.{pow-le-pow_right, pow-suc, mul-le-mul}
use native.Mathlib.Omega.{arith}
use borrow.Author.Tests.{le-leb, lt-leb, eq-eqb, ne_eqb}
use lib.Dec.{eqb, leb}
use lib.ListN.{length, get_or, take, drop, drop_of_length-le}
use lib.Seq.{drop-cons}
use Rattle.gln.specs.Gln.{gln_answer, gln_part}
use Rattle.std.specs.Prelude.{Some, None}
use Rattle.rules.specs.Gln.{all_digits, digit_at_position, weight_of_position, weighted_digit, weighted_sum, valid_gln, digits_onto}
use Rattle.rules.specs.Limits.{gln_digits}
use Rattle.rules.specs.Words.{sum, sum_from1, at, within}
use Rattle.rules.proofs.Sums.{sum_from_1}

-- the byte at a position, and the bytes from it on to the last: the first byte stands at position 13
abbrev byte_at : List ℕ → ℕ → ℕ
byte_at l position = get_or l (gln_digits - position) 0

abbrev bytes_from : List ℕ → ℕ → List ℕ
bytes_from l position = drop (gln_digits - position) l

-- Before the digit at a position: the number and the weighted sum of the digits that were passed, which stand at the positions above it.
pub record Walking (l : List ℕ) (number weighted position : ℕ) : Type 0 where
  pub bound : position ≤ gln_digits
  pub size : length l ≡ gln_digits
  pub digits : all_digits (bytes_from l position) ≡ all_digits l
  pub value : digits_onto number (bytes_from l position) ≡ digits_onto 0 l
  pub small : number < 10 ^ (gln_digits - position)
  pub weighed : weighted + sum_from1 position (weighted_digit l) ≡ weighted_sum l
  pub light : weighted ≤ 27 * (gln_digits - position)

pub walk_start : {l : List ℕ} → length l ≡ gln_digits → Walking l 0 0 gln_digits
unfolding weighted_sum
walk_start {l} e =
    record {
      bound = omega arith;
      size = e;
      digits = refl;
      value = refl;
      small = omega arith;
      weighed = omega (arith, ap (λ (n : ℕ). sum_from1 n (weighted_digit l)) e);
      light = zero-le;
    }

pub number_fits : {l : List ℕ} {n w p : ℕ} → Walking l n w p → 0 < p → n < 10 ^ 12
number_fits {l} {n} {w} {p} h b =
    let q : gln_digits - p ≤ 12 = omega arith in
    let most : 10 ^ (gln_digits - p) ≤ 10 ^ 12 = pow-le-pow_right {n = 10} (omega arith) q in
    omega (arith, h.small)

module _ {l : List ℕ} {n w p : ℕ} (h : Walking l n w p) (b : 0 < p) where
  further : suc (gln_digits - p) ≡ gln_digits - (p - 1)
  further = omega (arith, h.bound)

  here : bytes_from l p ≡ byte_at l p ∷ bytes_from l (p - 1)
  here = drop-cons l (gln_digits - p) 0 (omega (arith, h.size)) ∙ ap (λ (k : ℕ). byte_at l p ∷ drop k l) further

  digits_here : within 48 57 (byte_at l p) && all_digits (bytes_from l (p - 1)) ≡ all_digits l
  unfolding all_digits
  digits_here = ap all_digits (sym here) ∙ h.digits

  value_here : digits_onto (n * 10 + (byte_at l p - 48)) (bytes_from l (p - 1)) ≡ digits_onto 0 l
  unfolding digits_onto
  value_here = ap (digits_onto n) (sym here) ∙ h.value

  weighed_here : w + weight_of_position p * (byte_at l p - 48) + sum_from1 (p - 1) (weighted_digit l) ≡ weighted_sum l
  unfolding weighted_digit digit_at_position at
  weighed_here =
      let its_own : weighted_digit l p ≡ weight_of_position p * (byte_at l p - 48) = ap (λ (k : ℕ). weight_of_position p * (get_or l (k - p) 0 - 48)) h.size in
      omega (arith, h.weighed, sum_from_1 p (weighted_digit l) b, its_own)

weight_most : (p : ℕ) → weight_of_position p ≤ 3
unfolding weight_of_position
weight_most p = either (eqb (p % 2) 1)
  where
    either : (t : Bool) → cond t 1 3 ≤ 3
    either true = omega arith
    either false = omega arith

pub weighs_at_most : (p : ℕ) {v x : ℕ} → v ≡ weight_of_position p → x ≤ 57 → v * (x - 48) ≤ 27
weighs_at_most p {v} {x} e h = let d : x - 48 ≤ 9 = omega arith in rw e (mul-le-mul (weight_most p) d)

digit : {x : ℕ} → 48 ≤ x → x ≤ 57 → within 48 57 x ≡ true
unfolding within
digit {x} p q = rw (le-leb 48 x p, le-leb x 57 q)

below_digits : {x : ℕ} → x < 48 → within 48 57 x ≡ false
unfolding within
below_digits {x} p = rw (lt-leb 48 x p)

above_digits : {x : ℕ} → 57 < x → within 48 57 x ≡ false
unfolding within
above_digits {x} p = rw (lt-leb x 57 p) (never (leb 48 x))
  where
    never : (t : Bool) → t && false ≡ false
    never true = refl
    never false = refl

pub walk_next : {l : List ℕ} {n w p v : ℕ} → Walking l n w p → 0 < p → 48 ≤ byte_at l p → byte_at l p ≤ 57 → v ≡ weight_of_position p
    → Walking l (n * 10 + (byte_at l p - 48)) (w + v * (byte_at l p - 48)) (p - 1)
walk_next {l} {n} {w} {p} {v} h b low high e =
    rw e
    (record {
      bound = omega (arith, h.bound);
      size = h.size;
      digits = ap (λ (t : Bool). t && all_digits (bytes_from l (p - 1))) (sym (digit low high)) ∙ digits_here h b;
      value = value_here h b;
      small = omega (arith, h.small, pow-suc 10 (gln_digits - p), ap (λ (k : ℕ). 10 ^ k) (further h b));
      weighed = weighed_here h b;
      light = omega (arith, h.light, further h b, weighs_at_most p refl high);
    })

-- Bytes of another length, or with one that is no digit, or with a weighted sum that is no multiple of 10, are no GLN; all others are.
pub other_length : (l : List ℕ) → (length l ≡ gln_digits → ⊥) → None ≡ gln_answer l
unfolding gln_answer valid_gln
other_length l h = rw (ne_eqb (length l) gln_digits h)

no_digit : (l : List ℕ) → length l ≡ gln_digits → all_digits l ≡ false → None ≡ gln_answer l
unfolding gln_answer valid_gln
no_digit l e d = rw (eq-eqb (length l) gln_digits e, d)

stop : {l : List ℕ} {n w p : ℕ} → Walking l n w p → 0 < p → within 48 57 (byte_at l p) ≡ false → None ≡ gln_answer l
stop {l} {n} {w} {p} h b e = no_digit l h.size (sym (digits_here h b) ∙ ap (λ (t : Bool). t && all_digits (bytes_from l (p - 1))) e)

pub stop_below : {l : List ℕ} {n w p : ℕ} → Walking l n w p → 0 < p → byte_at l p < 48 → None ≡ gln_answer l
stop_below h b low = stop h b (below_digits low)

pub stop_above : {l : List ℕ} {n w p : ℕ} → Walking l n w p → 0 < p → 57 < byte_at l p → None ≡ gln_answer l
stop_above h b high = stop h b (above_digits high)

module _ {l : List ℕ} {n w p : ℕ} (h : Walking l n w p) (b : p ≡ 0) where
  nothing_left : bytes_from l p ≡ []
  nothing_left = let e : length l ≤ gln_digits - p = omega (arith, h.size) in drop_of_length-le l e

  all_digits_lem : true ≡ all_digits l
  unfolding all_digits
  all_digits_lem = ap all_digits (sym nothing_left) ∙ h.digits

  all_weighed : w ≡ weighted_sum l
  unfolding sum sum_from1
  all_weighed = omega (arith, ap (λ (k : ℕ). w + sum_from1 k (weighted_digit l)) b, h.weighed)

  pub end_other : (w % 10 ≡ 0 → ⊥) → None ≡ gln_answer l
  unfolding gln_answer valid_gln
  end_other e = rw (eq-eqb (length l) gln_digits h.size, ← all_digits_lem, ← all_weighed, ne_eqb (w % 10) 0 e)

  pub end_valid : w % 10 ≡ 0 → Some n ≡ gln_answer l
  unfolding gln_answer valid_gln digits_onto
  end_valid e = rw (eq-eqb (length l) gln_digits h.size, ← all_digits_lem, ← all_weighed, eq-eqb (w % 10) 0 e) (ap Some (ap (digits_onto n) (sym nothing_left) ∙ h.value))

-- The part: thirteen bytes from a place on, or none.
pub part_there : (file : List ℕ) (p : ℕ) → p + gln_digits ≤ length file → take (p + gln_digits - p) (drop p file) ≡ gln_part file p
unfolding gln_part
part_there file p h = let e : p + gln_digits - p ≡ gln_digits = omega arith in rw (le-leb (p + gln_digits) (length file) h, e)

pub part_past : (file : List ℕ) (p : ℕ) → length file < p + gln_digits → [] ≡ gln_part file p
unfolding gln_part
part_past file p h = rw (lt-leb (p + gln_digits) (length file) h)
