-- A reading's figures are the growths of E x (weights so far) / whole rounded down, which never falls: so the figures of some hours add up to what the sum so
-- far has grown by over them, to all of E where nothing lies before them and they weigh the whole.
use mathlib.Core.Logic.{◌⊎◌, ⊎_elim}
use mathlib.Core.Path.{◌≡◌, sym, ◌∙◌, ap, ap₂}
use Prim.Native.Nat.{ℕ, zero, suc, ◌+◌, ◌-◌, ◌*◌, ◌/◌, ◌%◌, ◌≤◌, ◌<◌, zero-le}
use native.Mathlib.Nat.{le_trans, le_refl, le_of_eq, sub-le, zero-mul, zero-div, div-zero, mul-div_cancel, mul-le-mul_left, div-mul-le_self, le-div_iff_mul-le, eq-zero-or-pos}
use native.Mathlib.Nat.{mul-zero, div-add-mod', mul-add-div_right, add_assoc, add-suc, add-zero, zero-add}
use native.Mathlib.Omega.{arith}
use Rattle.rules.specs.Periodised.{sum_so_far, periodised_figure, part_of_e}
use Rattle.rules.specs.Words.{sum}
use Rattle.rules.proofs.Sums.{sum_cong, sum_split}

-- a quotient never falls as the number divided grows
pub quotient_rises : (s : ℕ) {a b : ℕ} → a ≤ b → a / s ≤ b / s
quotient_rises s {a} {b} h =
    ⊎_elim (λ (z : s ≡ 0). rw (z, div-zero a, div-zero b) (le_refl 0))
    (λ (p : 0 < s). (le-div_iff_mul-le p).1 (le_trans (div-mul-le_self a s) h))
    (eq-zero-or-pos s)

-- THE CARRY: what a quotient grows by is the quotient of the kept remainder and what is added
pub carry : (a b : ℕ) {s : ℕ} → 0 < s → (a + b) / s ≡ a / s + (a % s + b) / s
carry a b {s} p =
    let e : a + b ≡ a / s * s + (a % s + b) = omega (arith, div-add-mod' a s) in
    rw e (mul-add-div_right p (a / s) (a % s + b))

pub sum_so_far_rises : (e s : ℕ) {a b : ℕ} → a ≤ b → sum_so_far e a s ≤ sum_so_far e b s
unfolding sum_so_far
sum_so_far_rises e s h = quotient_rises s (mul-le-mul_left e h)

-- before the first weight nothing has come, after the last all of E
pub nothing_so_far : (e whole : ℕ) → sum_so_far e 0 whole ≡ 0
unfolding sum_so_far
nothing_so_far e whole = ap (λ (x : ℕ). x / whole) (mul-zero e) ∙ zero-div whole

pub all_so_far : (e whole : ℕ) → (e ≡ 0) ⊎ (0 < whole) → sum_so_far e whole whole ≡ e
unfolding sum_so_far
all_so_far e whole c =
    ⊎_elim (λ (z : e ≡ 0). rw (z, zero-mul whole) (zero-div whole)) (λ (p : 0 < whole). mul-div_cancel e p) c

module _ (e before whole : ℕ) (weight : ℕ → ℕ) where
  -- EACH FIGURE IS THE GROWTH of the reading's sum so far
  pub figure_is_growth : (k : ℕ) → sum_so_far e (before + sum k weight) whole + periodised_figure e before whole weight k ≡ sum_so_far e (before + sum (suc k) weight) whole
  unfolding periodised_figure sum
  figure_is_growth k = omega (arith, sum_so_far_rises e whole {a = before + sum k weight} {b = before + (sum k weight + weight k)} (omega arith))

  -- after k hours the figures have added up to the growth from what was before
  pub figures_so_far : (k : ℕ) → sum_so_far e before whole + sum k (periodised_figure e before whole weight) ≡ sum_so_far e (before + sum k weight) whole
  unfolding sum
  figures_so_far zero = rw (add-zero before) (add-zero (sum_so_far e before whole))
  figures_so_far (suc k) = omega (arith, figures_so_far k, figure_is_growth k)

  -- THE FIGURES OF SOME HOURS ADD UP TO THEIR PART OF E
  pub figures_add_up : (k : ℕ) → sum k (periodised_figure e before whole weight) ≡ part_of_e e before (sum k weight) whole
  unfolding part_of_e
  figures_add_up k = omega (arith, figures_so_far k)

  -- no figure is above E
  pub figure_at_most : (k : ℕ) → before + sum (suc k) weight ≤ whole → periodised_figure e before whole weight k ≤ e
  unfolding sum_so_far periodised_figure
  figure_at_most k b =
      ⊎_elim
      (λ (z : whole ≡ 0). rw (z, div-zero, div-zero) (zero-le))
      (λ (p : 0 < whole).
      le_trans (sub-le (sum_so_far e (before + sum (suc k) weight) whole) (sum_so_far e (before + sum k weight) whole))
      (le_trans (sum_so_far_rises e whole b) (le_of_eq (mul-div_cancel e p))))
      (eq-zero-or-pos whole)

  -- "With E = 0 and S = 0 every figure is 0": with E = 0 whatever the whole is, and with a whole of 0 whatever E is
  pub nothing_over_nothing : (k : ℕ) → (e ≡ 0) ⊎ (whole ≡ 0) → periodised_figure e before whole weight k ≡ 0
  unfolding periodised_figure sum_so_far
  nothing_over_nothing k c = ⊎_elim (λ (z : e ≡ 0). simp (z, zero-mul, zero-div)) (λ (z : whole ≡ 0). simp (z, div-zero)) c

-- only the weights up to the hour count
pub figure_cong : (e before whole : ℕ) {f g : ℕ → ℕ} (k : ℕ) → ((i : ℕ) → i ≤ k → f i ≡ g i) → periodised_figure e before whole f k ≡ periodised_figure e before whole g k
unfolding periodised_figure
figure_cong e before whole k same =
    ap₂ (λ (x y : ℕ). sum_so_far e (before + x) whole - sum_so_far e (before + y) whole) (sum_cong (suc k) (λ i b. same i (omega arith)))
    (sum_cong k (λ i b. same i (omega arith)))

-- ALL OF E comes out where nothing lies before and the hours weigh the whole
pub part_is_all : (e whole : ℕ) → (e ≡ 0) ⊎ (0 < whole) → part_of_e e 0 whole whole ≡ e
unfolding part_of_e
part_is_all e whole c = omega (arith, ap (λ (x : ℕ). sum_so_far e x whole) (zero-add whole), all_so_far e whole c, nothing_so_far e whole)

-- and nothing of it where they weigh nothing
pub no_part : (e whole : ℕ) → part_of_e e 0 0 whole ≡ 0
unfolding part_of_e
no_part e whole = omega (arith, nothing_so_far e whole)

-- THE FIGURES ADD UP TO E where nothing lies before and the weights are the whole
pub figures_add_up_to_E : (e hours : ℕ) (weight : ℕ → ℕ) → (e ≡ 0) ⊎ (0 < sum hours weight) → sum hours (periodised_figure e 0 (sum hours weight) weight) ≡ e
figures_add_up_to_E e hours weight c = figures_add_up e 0 (sum hours weight) weight hours ∙ part_is_all e (sum hours weight) c

-- THE PARTS MAKE THE WHOLE: some of the hours, with the weight in front of them added to what was before, have the figures that the whole has there
pub part_of_whole : (e before whole : ℕ) (weight : ℕ → ℕ) (a k : ℕ)
    → periodised_figure e (before + sum a weight) whole (λ i. weight (a + i)) k ≡ periodised_figure e before whole weight (a + k)
unfolding periodised_figure
part_of_whole e before whole weight a k =
    ap₂ (λ (x y : ℕ). sum_so_far e x whole - sum_so_far e y whole)
    (add_assoc before (sum a weight) (sum (suc k) (λ i. weight (a + i)))
    ∙ ap (λ (x : ℕ). before + x) (sym (sum_split a (suc k) weight) ∙ ap (λ (x : ℕ). sum x weight) (add-suc a k)))
    (add_assoc before (sum a weight) (sum k (λ i. weight (a + i)))
    ∙ ap (λ (x : ℕ). before + x) (sym (sum_split a k weight)))

-- and their parts of E add up: what has come after two runs of hours is what came after the first and the part of the second
pub parts_add_up : (e before own more whole : ℕ) → part_of_e e before own whole + part_of_e e (before + own) more whole ≡ part_of_e e before (own + more) whole
unfolding part_of_e
parts_add_up e before own more whole =
    omega (
      arith,
      ap (λ (x : ℕ). sum_so_far e x whole) (add_assoc before own more),
      sum_so_far_rises e whole {a = before} {b = before + own} (omega arith),
      sum_so_far_rises e whole {a = before + own} {b = before + own + more} (omega arith),
    )
