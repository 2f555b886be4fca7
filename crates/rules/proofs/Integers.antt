-- Laws of whole numbers of either sign that the library has not: differences of two naturals, one law for all; the product over a sum; sums.
use mathlib.Core.Bool.{Bool, true, false}
use mathlib.Core.Path.{◌≡◌, refl, sym, ◌∙◌, ap, ap₂}
use Prim.Native.Nat.{ℕ, zero, suc, ◌+◌, ◌-◌, ◌*◌, ◌≤◌, ◌<◌, ◌^◌, zero-le}
use native.Mathlib.Nat.{add-zero, add-suc, le_antisymm}
use native.Mathlib.Numerals.{add-one}
use native.Mathlib.Omega.{arith}
use borrow.Author.Tests.{ltb-true, ltb-false, lt-ltb, le-ltb}
use lib.Dec.{ltb, le→leb}
use lib.Signed.{◌≤ℤ◌}
use lib.IntN.{ℤ, pos, negsuc, neg_ℤ, nat_abs, sub_ℕ, ◌+ℤ◌, ◌-ℤ◌, ◌*ℤ◌, +ℤ_assoc, +ℤ_comm, +ℤ_idr, +ℤ_invr, neg_ℤ-+ℤ, neg_ℤ-neg_ℤ, *ℤ_comm, suc_ℤ-*ℤ, *ℤ-negsuc, zero-*ℤ, *ℤ-zero}
use Rattle.rules.specs.Words.{sum, sum_ℤ}

-- (a + b) + (c + d) = (a + c) + (b + d)
pub interchange : (a b c d : ℤ) → (a +ℤ b) +ℤ (c +ℤ d) ≡ (a +ℤ c) +ℤ (b +ℤ d)
interchange a b c d =
    +ℤ_assoc a b (c +ℤ d)
    ∙ ap (λ (x : ℤ). a +ℤ x) (sym (+ℤ_assoc b c d) ∙ ap (λ (x : ℤ). x +ℤ d) (+ℤ_comm b c) ∙ +ℤ_assoc c b d)
    ∙ sym (+ℤ_assoc a c (b +ℤ d))

minus_is : (a b : ℕ) → pos a -ℤ pos b ≡ sub_ℕ a b
minus_is a zero = rw (le-ltb a 0 (zero-le {n = a})) (ap pos (omega arith))
minus_is a (suc b) = refl

sub_cong : (a b c d : ℕ) → a + d ≡ c + b → sub_ℕ a b ≡ sub_ℕ c d
sub_cong a b c d h = go (ltb a b) refl
  where
    go : (t : Bool) → ltb a b ≡ t → sub_ℕ a b ≡ sub_ℕ c d
    go true e =
        let l : a < b = ltb-true a b e in
        rw (e, lt-ltb c d (omega arith)) (ap negsuc (omega arith))
    go false e =
        let l : b ≤ a = ltb-false a b e in
        rw (e, le-ltb c d (omega arith)) (ap pos (omega arith))

-- THE ONE LAW OF DIFFERENCES: a - b and c - d are equal where a + d and c + b are
pub minus_cong : (a b c d : ℕ) → a + d ≡ c + b → pos a -ℤ pos b ≡ pos c -ℤ pos d
minus_cong a b c d h = minus_is a b ∙ sub_cong a b c d h ∙ sym (minus_is c d)

pub minus_add : (a b c d : ℕ) → (pos a -ℤ pos b) +ℤ (pos c -ℤ pos d) ≡ pos (a + c) -ℤ pos (b + d)
minus_add a b c d = interchange (pos a) (neg_ℤ (pos b)) (pos c) (neg_ℤ (pos d)) ∙ ap (λ (x : ℤ). pos (a + c) +ℤ x) (sym (neg_ℤ-+ℤ (pos b) (pos d)))

pub minus_chain : (a b c : ℕ) → (pos b -ℤ pos a) +ℤ (pos c -ℤ pos b) ≡ pos c -ℤ pos a
minus_chain a b c = minus_add b a c b ∙ minus_cong (b + c) (a + b) c a (omega arith)

pub opposite : (a b : ℕ) → neg_ℤ (pos a -ℤ pos b) ≡ pos b -ℤ pos a
opposite a b =
    neg_ℤ-+ℤ (pos a) (neg_ℤ (pos b)) ∙ ap (λ (x : ℤ). neg_ℤ (pos a) +ℤ x) (neg_ℤ-neg_ℤ (pos b))
    ∙ +ℤ_comm (neg_ℤ (pos a)) (pos b)

pub pos_minus_zero : (a : ℕ) → pos a -ℤ pos 0 ≡ pos a
pos_minus_zero a = +ℤ_idr (pos a)

-- the distance of a and b is below k
pub minus_near : (a b k : ℕ) → a < b + k → b < a + k → nat_abs (pos a -ℤ pos b) < k
minus_near a b k l r = rw (minus_is a b) (go (ltb a b) refl)
  where
    go : (t : Bool) → ltb a b ≡ t → nat_abs (sub_ℕ a b) < k
    go true e = let less : a < b = ltb-true a b e in rw e (omega arith)
    go false e = let more : b ≤ a = ltb-false a b e in rw e (omega arith)

-- a - b is at least -(k + 1), and at most k
pub minus_at_least : (a b k : ℕ) → b ≤ a + suc k → negsuc k ≤ℤ (pos a -ℤ pos b)
minus_at_least a b k h = rw (minus_is a b) (go (ltb a b) refl)
  where
    go : (t : Bool) → ltb a b ≡ t → negsuc k ≤ℤ sub_ℕ a b
    go true e = let less : a < b = ltb-true a b e in rw e (record { le = le→leb (b - suc a) k (omega arith) })
    go false e = rw e (record { le = tt })

pub minus_at_most : (a b k : ℕ) → a ≤ b + k → (pos a -ℤ pos b) ≤ℤ pos k
minus_at_most a b k h = rw (minus_is a b) (go (ltb a b) refl)
  where
    go : (t : Bool) → ltb a b ≡ t → sub_ℕ a b ≤ℤ pos k
    go true e = rw e (record { le = tt })
    go false e = let more : b ≤ a = ltb-false a b e in rw e (record { le = le→leb (a - b) k (omega arith) })

-- sizes
size_of_sub : (a b : ℕ) → nat_abs (sub_ℕ a b) ≤ a + b
size_of_sub a b = go (ltb a b) refl
  where
    go : (t : Bool) → ltb a b ≡ t → nat_abs (sub_ℕ a b) ≤ a + b
    go true e = let less : a < b = ltb-true a b e in rw e (omega arith)
    go false e = rw e (omega arith)

pub size_of_opposite : (z : ℤ) → nat_abs (neg_ℤ z) ≡ nat_abs z
size_of_opposite (pos zero) = refl
size_of_opposite (pos (suc n)) = refl
size_of_opposite (negsuc n) = refl

pub size_of_sum : (a b : ℤ) → nat_abs (a +ℤ b) ≤ nat_abs a + nat_abs b
size_of_sum (pos a) (pos b) = omega arith
size_of_sum (pos a) (negsuc b) = size_of_sub a (suc b)
size_of_sum (negsuc a) (pos b) = omega (arith, size_of_sub b (suc a))
size_of_sum (negsuc a) (negsuc b) = omega arith

pub size_of_product : (a b : ℤ) → nat_abs (a *ℤ b) ≡ nat_abs a * nat_abs b
size_of_product (pos a) (pos b) = refl
size_of_product (pos a) (negsuc b) = size_of_opposite (pos (a * suc b))
size_of_product (negsuc a) (pos b) = size_of_opposite (pos (suc a * b))
size_of_product (negsuc a) (negsuc b) = refl

pub size_of_sums : (n : ℕ) (f : ℕ → ℤ) (most : ℕ) → ((i : ℕ) → i < n → nat_abs (f i) ≤ most) → nat_abs (sum_ℤ n f) ≤ n * most
unfolding sum_ℤ
size_of_sums zero f most h = omega arith
size_of_sums (suc n) f most h =
    omega (arith, size_of_sum (sum_ℤ n f) (f n), size_of_sums n f most (λ i b. h i (omega arith)), h n (omega arith))

-- The product over a sum.
times_suc : (m : ℤ) (n : ℕ) → m *ℤ pos (suc n) ≡ m *ℤ pos n +ℤ m
times_suc m n = *ℤ_comm m (pos (suc n)) ∙ suc_ℤ-*ℤ (pos n) m ∙ ap (λ (x : ℤ). x +ℤ m) (*ℤ_comm (pos n) m)

times_pos : (a b : ℤ) (n : ℕ) → (a +ℤ b) *ℤ pos n ≡ a *ℤ pos n +ℤ b *ℤ pos n
times_pos a b zero = *ℤ-zero (a +ℤ b) ∙ sym (ap₂ (λ (x y : ℤ). x +ℤ y) (*ℤ-zero a) (*ℤ-zero b))
times_pos a b (suc n) =
    times_suc (a +ℤ b) n ∙ ap (λ (x : ℤ). x +ℤ (a +ℤ b)) (times_pos a b n) ∙ interchange (a *ℤ pos n) (b *ℤ pos n) a b
    ∙ sym (ap₂ (λ (x y : ℤ). x +ℤ y) (times_suc a n) (times_suc b n))

pub times_sum : (a b c : ℤ) → (a +ℤ b) *ℤ c ≡ a *ℤ c +ℤ b *ℤ c
times_sum a b (pos n) = times_pos a b n
times_sum a b (negsuc n) =
    *ℤ-negsuc (a +ℤ b) n ∙ ap neg_ℤ (times_pos a b (suc n)) ∙ neg_ℤ-+ℤ (a *ℤ pos (suc n)) (b *ℤ pos (suc n))
    ∙ sym (ap₂ (λ (x y : ℤ). x +ℤ y) (*ℤ-negsuc a n) (*ℤ-negsuc b n))

neg_times : (m : ℤ) (n : ℕ) → neg_ℤ m *ℤ pos n ≡ neg_ℤ (m *ℤ pos n)
neg_times m zero = *ℤ-zero (neg_ℤ m) ∙ sym (ap neg_ℤ (*ℤ-zero m))
neg_times m (suc n) =
    times_suc (neg_ℤ m) n ∙ ap (λ (x : ℤ). x +ℤ neg_ℤ m) (neg_times m n) ∙ sym (neg_ℤ-+ℤ (m *ℤ pos n) m)
    ∙ sym (ap neg_ℤ (times_suc m n))

pub minus_scale : (a b w : ℕ) → (pos a -ℤ pos b) *ℤ pos w ≡ pos (a * w) -ℤ pos (b * w)
minus_scale a b w = times_pos (pos a) (neg_ℤ (pos b)) w ∙ ap (λ (x : ℤ). pos (a * w) +ℤ x) (neg_times (pos b) w)

pub minus_minus : (a b c : ℕ) → pos a -ℤ pos b -ℤ pos c ≡ pos a -ℤ pos (b + c)
minus_minus a b c = +ℤ_assoc (pos a) (neg_ℤ (pos b)) (neg_ℤ (pos c)) ∙ ap (λ (x : ℤ). pos a +ℤ x) (sym (neg_ℤ-+ℤ (pos b) (pos c)))

-- Sums of figures of either sign.
pub sum_ℤ_cong : (n : ℕ) {f g : ℕ → ℤ} → ((i : ℕ) → i < n → f i ≡ g i) → sum_ℤ n f ≡ sum_ℤ n g
unfolding sum_ℤ
sum_ℤ_cong zero h = refl
sum_ℤ_cong (suc n) {f} {g} h = ap₂ (λ (x y : ℤ). x +ℤ y) (sum_ℤ_cong n (λ i b. h i (omega arith))) (h n (omega arith))

pub sum_ℤ_add : (n : ℕ) (f g : ℕ → ℤ) → sum_ℤ n (λ i. f i +ℤ g i) ≡ sum_ℤ n f +ℤ sum_ℤ n g
unfolding sum_ℤ
sum_ℤ_add zero f g = refl
sum_ℤ_add (suc n) f g = ap (λ (x : ℤ). x +ℤ (f n +ℤ g n)) (sum_ℤ_add n f g) ∙ interchange (sum_ℤ n f) (sum_ℤ n g) (f n) (g n)

pub sum_ℤ_neg : (n : ℕ) (f : ℕ → ℤ) → sum_ℤ n (λ i. neg_ℤ (f i)) ≡ neg_ℤ (sum_ℤ n f)
unfolding sum_ℤ
sum_ℤ_neg zero f = refl
sum_ℤ_neg (suc n) f = ap (λ (x : ℤ). x +ℤ neg_ℤ (f n)) (sum_ℤ_neg n f) ∙ sym (neg_ℤ-+ℤ (sum_ℤ n f) (f n))

pub sum_ℤ_pos : (n : ℕ) (f : ℕ → ℕ) → sum_ℤ n (λ i. pos (f i)) ≡ pos (sum n f)
unfolding sum_ℤ sum
sum_ℤ_pos zero f = refl
sum_ℤ_pos (suc n) f = ap (λ (x : ℤ). x +ℤ pos (f n)) (sum_ℤ_pos n f)

pub sum_ℤ_minus : (n : ℕ) (f g : ℕ → ℕ) → sum_ℤ n (λ i. pos (f i) -ℤ pos (g i)) ≡ pos (sum n f) -ℤ pos (sum n g)
sum_ℤ_minus n f g =
    sum_ℤ_add n (λ i. pos (f i)) (λ i. neg_ℤ (pos (g i)))
    ∙ ap₂ (λ (x y : ℤ). x +ℤ y) (sum_ℤ_pos n f) (sum_ℤ_neg n (λ i. pos (g i)) ∙ ap neg_ℤ (sum_ℤ_pos n g))

pub sum_ℤ_scale : (n : ℕ) (f : ℕ → ℤ) (c : ℤ) → sum_ℤ n (λ i. f i *ℤ c) ≡ sum_ℤ n f *ℤ c
unfolding sum_ℤ
sum_ℤ_scale zero f c = sym (zero-*ℤ c)
sum_ℤ_scale (suc n) f c = ap (λ (x : ℤ). x +ℤ f n *ℤ c) (sum_ℤ_scale n f c) ∙ sym (times_sum (sum_ℤ n f) (f n) c)

pub sum_ℤ_zero : (n : ℕ) {f : ℕ → ℤ} → ((i : ℕ) → i < n → f i ≡ pos 0) → sum_ℤ n f ≡ pos 0
unfolding sum_ℤ
sum_ℤ_zero zero h = refl
sum_ℤ_zero (suc n) {f} h = ap₂ (λ (x y : ℤ). x +ℤ y) (sum_ℤ_zero n (λ i b. h i (omega arith))) (h n (omega arith))

-- by hour and then by party is by party and then by hour
pub sum_ℤ_swap : (n h : ℕ) (f : ℕ → ℕ → ℤ) → sum_ℤ n (λ i. sum_ℤ h (λ t. f t i)) ≡ sum_ℤ h (λ t. sum_ℤ n (f t))
unfolding sum_ℤ
sum_ℤ_swap zero h f = sym (sum_ℤ_zero h (λ t b. refl))
sum_ℤ_swap (suc n) h f = ap (λ (x : ℤ). x +ℤ sum_ℤ h (λ t. f t n)) (sum_ℤ_swap n h f) ∙ sym (sum_ℤ_add h (λ t. sum_ℤ n (f t)) (λ t. f t n))

-- the figures from one hour on are growths, so they add up to the last standing less the first
pub growths_add_up :
    (standing : ℕ → ℕ) (start hours : ℕ)
    → sum_ℤ hours (λ t. pos (standing (suc (start + t))) -ℤ pos (standing (start + t))) ≡ pos (standing (start + hours)) -ℤ pos (standing start)
unfolding sum_ℤ
growths_add_up standing start zero = rw add-zero (sym (+ℤ_invr (pos (standing start))))
growths_add_up standing start (suc hours) =
    rw (add-suc start hours)
    (ap (λ (x : ℤ). x +ℤ (pos (standing (suc (start + hours))) -ℤ pos (standing (start + hours)))) (growths_add_up standing start hours)
    ∙ minus_chain (standing start) (standing (start + hours)) (standing (suc (start + hours))))

-- A LOOP THAT ADDS UP THE FIRST n FIGURES OF EITHER SIGN: after i of them it has their sum
pub record Addingℤ (f : ℕ → ℤ) (n : ℕ) (all : ℤ) (i : ℕ) : Type 0 where
  pub bound : i ≤ n
  pub so_far : all ≡ sum_ℤ i f

pub add_start_ℤ : (f : ℕ → ℤ) (n : ℕ) → Addingℤ f n (pos 0) 0
unfolding sum_ℤ
add_start_ℤ f n = record { bound = zero-le; so_far = refl }

module _ {f : ℕ → ℤ} {n : ℕ} {all : ℤ} {i : ℕ} (a : Addingℤ f n all i) where
  pub add_fits_ℤ : {v : ℤ} → v ≡ f i → nat_abs (sum_ℤ (suc i) f) < 2 ^ 63 → nat_abs (all +ℤ v) < 2 ^ 63
  unfolding sum_ℤ
  add_fits_ℤ e fits = rw (e, a.so_far) fits

  pub add_next_ℤ : i < n → {v r : ℤ} → v ≡ f i → r ≡ all +ℤ v → Addingℤ f n r (i + 1)
  unfolding sum_ℤ
  add_next_ℤ b e s = record { bound = omega arith; so_far = rw (add-one i) (s ∙ ap₂ (λ (x y : ℤ). x +ℤ y) a.so_far e) }

  pub add_end_ℤ : n ≤ i → all ≡ sum_ℤ n f
  add_end_ℤ b = a.so_far ∙ ap (λ (k : ℕ). sum_ℤ k f) (le_antisymm a.bound b)
