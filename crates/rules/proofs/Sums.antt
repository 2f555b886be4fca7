-- Laws of `sum` and `sum_from1`: each by one induction on how many figures are added; and what a loop that adds up has.
use mathlib.Core.Path.{◌≡◌, refl, sym, ◌∙◌, ap}
use Prim.Native.Nat.{ℕ, zero, suc, ◌+◌, ◌-◌, ◌*◌, ◌≤◌, ◌<◌, zero-le}
use mathlib.Core.Logic.{⊎_elim}
use native.Mathlib.Nat.{le_refl, le_antisymm, zero-mul, add-suc, add-zero, eq-or-lt_of_le, le_of_suc-le-suc}
use native.Mathlib.Numerals.{add-one}
use native.Mathlib.Omega.{arith}
use Rattle.rules.specs.Words.{sum, sum_from1}

-- only the figures below n count
pub sum_cong : (n : ℕ) {f g : ℕ → ℕ} → ((i : ℕ) → i < n → f i ≡ g i) → sum n f ≡ sum n g
unfolding sum
sum_cong zero h = refl
sum_cong (suc n) {f} {g} h = omega (arith, sum_cong n {f = f} {g = g} (λ i b. h i (omega arith)), h n (omega arith))

pub sum_add : (n : ℕ) (f g : ℕ → ℕ) → sum n (λ i. f i + g i) ≡ sum n f + sum n g
unfolding sum
sum_add zero f g = refl
sum_add (suc n) f g = omega (arith, sum_add n f g)

pub sum_scale : (n : ℕ) (f : ℕ → ℕ) (c : ℕ) → sum n (λ i. f i * c) ≡ sum n f * c
unfolding sum
sum_scale zero f c = sym (zero-mul c)
sum_scale (suc n) f c = omega (arith, sum_scale n f c)

pub sum_le : (n : ℕ) {f g : ℕ → ℕ} → ((i : ℕ) → i < n → f i ≤ g i) → sum n f ≤ sum n g
unfolding sum
sum_le zero h = le_refl 0
sum_le (suc n) {f} {g} h = omega (arith, sum_le n {f = f} {g = g} (λ i b. h i (omega arith)), h n (omega arith))

pub sum_zero : (n : ℕ) {f : ℕ → ℕ} → ((i : ℕ) → i < n → f i ≡ 0) → sum n f ≡ 0
unfolding sum
sum_zero zero h = refl
sum_zero (suc n) {f} h = omega (arith, sum_zero n {f = f} (λ i b. h i (omega arith)), h n (omega arith))

-- n figures that are each at most so much
pub sum_at_most : (n : ℕ) (f : ℕ → ℕ) (most : ℕ) → ((i : ℕ) → i < n → f i ≤ most) → sum n f ≤ n * most
unfolding sum
sum_at_most zero f most h = zero-le
sum_at_most (suc n) f most h = omega (arith, sum_at_most n f most (λ i b. h i (omega arith)), h n (omega arith))

-- and where one figure is less, the sum is less
pub sum_lt : (n : ℕ) {f g : ℕ → ℕ} → ((i : ℕ) → i < n → f i ≤ g i) → {k : ℕ} → k < n → f k < g k → sum n f < sum n g
unfolding sum
sum_lt zero h b l = omega arith
sum_lt (suc n) {f} {g} h {k} b l =
    ⊎_elim
    (λ (e : k ≡ n).
    let l' : f n < g n = rw e at l in
    omega (arith, sum_le n {f = f} {g = g} (λ i b. h i (omega arith))))
    (λ (b' : k < n). omega (arith, sum_lt n {f = f} {g = g} (λ i b. h i (omega arith)) b' l, h n (omega arith)))
    (eq-or-lt_of_le (le_of_suc-le-suc b))

-- a figure is at most the sum that it is part of
pub sum_member : (n : ℕ) (f : ℕ → ℕ) {i : ℕ} → i < n → f i ≤ sum n f
unfolding sum
sum_member zero f b = omega arith
sum_member (suc n) f {i} b = ⊎_elim (λ (e : i ≡ n). rw e (omega arith)) (λ (l : i < n). omega (arith, sum_member n f l)) (eq-or-lt_of_le (le_of_suc-le-suc b))

-- a sum over a + b figures is that over the first a, and that over the b after them
pub sum_split : (a b : ℕ) (f : ℕ → ℕ) → sum (a + b) f ≡ sum a f + sum b (λ k. f (a + k))
unfolding sum
sum_split a zero f = rw (add-zero a) (omega arith)
sum_split a (suc b) f = rw add-suc (omega (arith, sum_split a b f))

-- counted from 1: the last figure, and the sum of those before it
pub sum_from_1 : (n : ℕ) (f : ℕ → ℕ) → 0 < n → sum_from1 n f ≡ sum_from1 (n - 1) f + f n
unfolding sum sum_from1
sum_from_1 n f b = let e : n ≡ suc (n - 1) = omega arith in ap (λ (k : ℕ). sum_from1 k f) e ∙ ap (λ (k : ℕ). sum_from1 (n - 1) f + f k) (sym e)

-- a sum does not fall as more is added
pub sum_rises : (f : ℕ → ℕ) {k n : ℕ} → k ≤ n → sum k f ≤ sum n f
sum_rises f {k} {n} b =
    let e : n ≡ k + (n - k) = omega arith in
    let s : sum n f ≡ sum (k + (n - k)) f = ap (λ (m : ℕ). sum m f) e in
    omega (arith, sum_split k (n - k) f)

-- by hour and then by party is by party and then by hour
pub sum_swap : (n h : ℕ) (f : ℕ → ℕ → ℕ) → sum n (λ i. sum h (λ t. f t i)) ≡ sum h (λ t. sum n (f t))
unfolding sum
sum_swap zero h f = sym (sum_zero h (λ t b. refl))
sum_swap (suc n) h f = ap (λ (k : ℕ). k + sum h (λ t. f t n)) (sum_swap n h f) ∙ sym (sum_add h (λ t. sum n (f t)) (λ t. f t n))

-- A LOOP THAT ADDS UP THE FIRST n OF A SERIES: after i of them it has their sum
pub record Adding (f : ℕ → ℕ) (n all i : ℕ) : Type 0 where
  pub bound : i ≤ n
  pub so_far : all ≡ sum i f

pub add_start : (f : ℕ → ℕ) (n : ℕ) → Adding f n 0 0
unfolding sum
add_start f n = record { bound = zero-le; so_far = refl }

module _ {f : ℕ → ℕ} {n all i : ℕ} (a : Adding f n all i) where
  pub add_next : i < n → {v : ℕ} → v ≡ f i → Adding f n (all + v) (i + 1)
  unfolding sum
  add_next b {v} e = record { bound = omega arith; so_far = rw (add-one i) (omega (arith, a.so_far, e)) }

  -- the next sum is no more than the whole
  pub add_room : i < n → {v : ℕ} → v ≡ f i → all + v ≤ sum n f
  unfolding sum
  add_room b {v} e =
      let whole : suc i + (n - suc i) ≡ n = omega arith in
      let split : sum (suc i + (n - suc i)) f ≡ sum (suc i) f + sum (n - suc i) (λ k. f (suc i + k)) = sum_split (suc i) (n - suc i) f in
      omega (arith, split, a.so_far, e, ap (λ (k : ℕ). sum k f) whole)

  pub add_end : n ≤ i → all ≡ sum n f
  add_end b = a.so_far ∙ ap (λ (k : ℕ). sum k f) (le_antisymm a.bound b)
