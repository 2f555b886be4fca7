-- The digits of a number: the number divided by ten and then the last digit, and how many there are.
use mathlib.Core.Logic.{◌⊎◌, inl, inr, ⊎_elim}
use mathlib.Core.List.{List, [], ◌∷◌, ◌++◌}
use mathlib.Core.Path.{◌≡◌, refl, sym, ◌∙◌, ap}
use Prim.Native.Nat.{ℕ, zero, suc, ◌+◌, ◌-◌, ◌/◌, ◌%◌, ◌^◌, ◌≤◌, ◌<◌}
use native.Mathlib.Nat.{pow-suc, eq-zero-or-pos}
use native.Mathlib.Omega.{arith}
use borrow.Author.Tests.{lt-ltb, le-ltb}
use lib.ListN.{length, length-append}
use Rattle.rules.specs.Statement.{digits_in, decimal, digits_of_width}

-- the last digit after those of the rest
abbrev last : ℕ → List ℕ
last n = (48 + n % 10) ∷ []

one_digit : (most n : ℕ) → n < 10 → digits_in (suc most) n ≡ last n
unfolding digits_in
one_digit most n h = let e : 48 + n ≡ 48 + n % 10 = omega arith in rw (lt-ltb n 10 h, e)

more_digits : (most n : ℕ) → 10 ≤ n → digits_in (suc most) n ≡ digits_in most (n / 10) ++ last n
unfolding digits_in
more_digits most n h = rw (le-ltb n 10 h)

tens : (n : ℕ) → (n < 10) ⊎ (10 ≤ n)
tens n = ⊎_elim (λ (none : n / 10 ≡ 0). inl (omega arith)) (λ (some : 0 < n / 10). inr (omega arith)) (eq-zero-or-pos (n / 10))

-- any number above n bounds its digits: the first argument of `digits_in` changes nothing
enough : (a b n : ℕ) → n < a → n < b → digits_in a n ≡ digits_in b n
enough zero b n h k = absurd (omega arith)
enough (suc a) zero n h k = absurd (omega arith)
enough (suc a) (suc b) n h k =
    ⊎_elim
    (λ (one : n < 10). one_digit a n one ∙ sym (one_digit b n one))
    (λ (more : 10 ≤ n).
    more_digits a n more ∙ ap (λ (s : List ℕ). s ++ last n) (enough a b (n / 10) (omega arith) (omega arith)) ∙ sym (more_digits b n more))
    (tens n)

pub decimal_one : (n : ℕ) → n < 10 → last n ≡ decimal n
unfolding decimal
decimal_one n h = sym (one_digit n n h)

pub decimal_more : (n : ℕ) → 10 ≤ n → decimal (n / 10) ++ last n ≡ decimal n
unfolding decimal
decimal_more n h =
    ap (λ (s : List ℕ). s ++ last n) (enough (suc (n / 10)) n (n / 10) (omega arith) (omega arith)) ∙ sym (more_digits n n h)

pub one_size : (n : ℕ) → n < 10 → length (decimal n) ≡ 1
one_size n h = sym (ap length (decimal_one n h))

pub more_size : (n : ℕ) → 10 ≤ n → length (decimal n) ≡ length (decimal (n / 10)) + 1
more_size n h = sym (ap length (decimal_more n h)) ∙ length-append (decimal (n / 10)) (last n)

-- HOW MANY: a number below the k-th power of ten has at most k digits
digits_at_most : (most k n : ℕ) → n < 10 ^ suc k → length (digits_in most n) ≤ suc k
unfolding digits_in
digits_at_most zero k n h = omega arith
digits_at_most (suc most) zero n h = rw (one_digit most n (omega arith)) (omega arith)
digits_at_most (suc most) (suc k) n h =
    ⊎_elim
    (λ (one : n < 10). rw (one_digit most n one) (omega arith))
    (λ (more : 10 ≤ n).
    let rest : length (digits_in most (n / 10)) ≤ suc k = digits_at_most most k (n / 10) (omega (arith, pow-suc 10 (suc k))) in
    rw (more_digits most n more, length-append) (omega arith))
    (tens n)

pub decimal_at_most : (k n : ℕ) → n < 10 ^ suc k → length (decimal n) ≤ suc k
unfolding decimal
decimal_at_most k n h = digits_at_most (suc n) k n h

-- a number of 64 bits
pub number_size : (n : ℕ) → n < 2 ^ 64 → length (decimal n) ≤ 20
number_size n h = decimal_at_most 19 n (omega arith)

-- a number with its digits
pub width_size : (width n : ℕ) → length (digits_of_width width n) ≡ width
unfolding digits_of_width
width_size zero n = refl
width_size (suc width) n = length-append (digits_of_width width (n / 10)) (last n) ∙ omega (arith, width_size width (n / 10))

pub width_none : (width n : ℕ) → width < 1 → [] ≡ digits_of_width width n
unfolding digits_of_width
width_none width n h = let e : width ≡ 0 = omega arith in rw e

pub width_more : (width n : ℕ) → 1 ≤ width → digits_of_width (width - 1) (n / 10) ++ last n ≡ digits_of_width width n
unfolding digits_of_width
width_more width n h =
    let e : width ≡ suc (width - 1) = omega arith in
    ap (λ (k : ℕ). digits_of_width k n) (sym e)
