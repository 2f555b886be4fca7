-- The laws of the BRPs (specs/Brp): the figures by BRP add up to the figures of all, and a BRP's month sums are the sums of its suppliers' month sums.
use mathlib.Core.Bool.{Bool, true, false, cond}
use mathlib.Core.List.{List, [], ◌∷◌}
use mathlib.Core.Logic.{⊎_elim}
use mathlib.Core.Path.{◌≡◌, refl, sym, ◌∙◌, ap, ap₂, fun_ext}
use Prim.Native.Nat.{ℕ, zero, suc, ◌<◌}
use native.Mathlib.Nat.{le_refl}
use native.Mathlib.Omega.{arith}
use borrow.Author.Tests.{eqb-true, eq-eqb, ne_eqb}
use lib.Dec.{eqb}
use lib.IntN.{ℤ, pos, nat_abs, ◌+ℤ◌, +ℤ_idl, +ℤ_idr}
use Rattle.rules.specs.Brp.{different_ones, supplies_for, only_of, only_of_ℤ, sum_of_brp, sum_of_brp_ℤ, brp_distributed, brp_periodised, brp_loss, brp_difference}
use Rattle.rules.specs.Brp.{brp_month_distributed, brp_month_periodised, brp_month_loss, brp_month_difference}
use Rattle.rules.specs.BrpDemands.{RisingNumbers, InList, sum_for_each, sum_for_each_ℤ}
use Rattle.rules.specs.Month.{distributed, periodised, loss, difference, month_distributed, month_periodised, month_loss, month_difference}
use Rattle.rules.specs.MonthFile.{MonthFile, H, P}
use Rattle.rules.specs.Reconciliation.{loss_of}
use Rattle.rules.specs.WellFormed.{Every}
use Rattle.rules.specs.Words.{sum, sum_ℤ}
use Rattle.rules.proofs.DifferentOnes.{every_weaker, every_number, every_in, ones_rise, each_is_in}
use Rattle.rules.proofs.Integers.{interchange, sum_ℤ_cong, sum_ℤ_pos, sum_ℤ_zero, sum_ℤ_swap}
use Rattle.rules.proofs.Reconciliation.{one_carries_the_loss}
use Rattle.rules.proofs.Sums.{sum_zero, sum_swap}

-- THE FIGURES BY NUMBER ADD UP TO THE FIGURES OF ALL: each figure is counted at its own number, and at no other. First, sums over the numbers of a list: of nothing,
-- and of two figures at each.
each_none_ℤ : (f : ℕ → ℤ) (l : List ℕ) → Every (λ (k : ℕ). f k ≡ pos 0) l → sum_for_each_ℤ f l ≡ pos 0
unfolding sum_for_each_ℤ
each_none_ℤ f [] h = refl
each_none_ℤ f (n ∷ more) h = ap₂ (λ (x y : ℤ). x +ℤ y) h.0 (each_none_ℤ f more h.1)

each_add_ℤ : (l : List ℕ) (f g : ℕ → ℤ) → sum_for_each_ℤ (λ k. f k +ℤ g k) l ≡ sum_for_each_ℤ f l +ℤ sum_for_each_ℤ g l
unfolding sum_for_each_ℤ
each_add_ℤ [] f g = refl
each_add_ℤ (n ∷ more) f g =
    ap (λ (x : ℤ). (f n +ℤ g n) +ℤ x) (each_add_ℤ more f g) ∙ interchange (f n) (g n) (sum_for_each_ℤ f more) (sum_for_each_ℤ g more)

-- of a rising list that has n, the figure at n alone
at_its_own : (n : ℕ) (x : ℤ) (l : List ℕ) → RisingNumbers l → InList n l → sum_for_each_ℤ (λ k. cond (eqb n k) x (pos 0)) l ≡ x
unfolding sum_for_each_ℤ
at_its_own n x [] h i = absurd i
at_its_own n x (first ∷ later) h i =
    ⊎_elim
    (λ (e : n ≡ first).
    rw (eq-eqb n first e)
    (ap (λ (y : ℤ). x +ℤ y) (each_none_ℤ (λ k. cond (eqb n k) x (pos 0)) later (every_weaker later (λ k (b : first < k). rw (ne_eqb n k (λ d. omega arith))) h.0))
    ∙ +ℤ_idr x))
    (λ (j : InList n later).
    let b : first < n = every_in (λ (k : ℕ). first < k) later h.0 j in
    rw (ne_eqb n first (λ d. omega arith)) (+ℤ_idl _ ∙ at_its_own n x later h.1 j))
    i

-- a figure from 0 up is one of either sign: so are sums over the numbers of a list, and sums of some of a series
each_pos : (f : ℕ → ℕ) (l : List ℕ) → sum_for_each_ℤ (λ k. pos (f k)) l ≡ pos (sum_for_each f l)
unfolding sum_for_each_ℤ sum_for_each
each_pos f [] = refl
each_pos f (n ∷ more) = ap (λ (x : ℤ). pos (f n) +ℤ x) (each_pos f more)

pub some_pos : (n : ℕ) (some : ℕ → Bool) (figure : ℕ → ℕ) → sum_ℤ n (only_of_ℤ some (λ i. pos (figure i))) ≡ pos (sum n (only_of some figure))
unfolding only_of_ℤ only_of
some_pos n some figure = ap (sum_ℤ n) (fun_ext (λ i. of_one i (some i))) ∙ sum_ℤ_pos n (only_of some figure)
  where
    of_one : (i : ℕ) (one : Bool) → cond one (pos (figure i)) (pos 0) ≡ pos (cond one (figure i) 0)
    of_one i true = refl
    of_one i false = refl

-- over any rising list that has all the numbers
module _ (of : ℕ → ℕ) (l : List ℕ) (rising : RisingNumbers l) where
  by_number_ℤ : (n : ℕ) (figure : ℕ → ℤ) → ((i : ℕ) → i < n → InList (of i) l)
      → sum_for_each_ℤ (λ k. sum_ℤ n (only_of_ℤ (λ i. eqb (of i) k) figure)) l ≡ sum_ℤ n figure
  unfolding sum_ℤ only_of_ℤ
  by_number_ℤ zero figure has = each_none_ℤ (λ k. pos 0) l (every_number l (λ k. refl))
  by_number_ℤ (suc n) figure has =
      each_add_ℤ l (λ k. sum_ℤ n (only_of_ℤ (λ i. eqb (of i) k) figure)) (λ k. cond (eqb (of n) k) (figure n) (pos 0))
      ∙ ap₂ (λ (x y : ℤ). x +ℤ y) (by_number_ℤ n figure (λ i b. has i (omega arith))) (at_its_own (of n) (figure n) l rising (has n (le_refl (suc n))))

  -- the same for figures from 0 up, which are such figures
  by_number : (n : ℕ) (figure : ℕ → ℕ) → ((i : ℕ) → i < n → InList (of i) l) → sum_for_each (λ k. sum n (only_of (λ i. eqb (of i) k) figure)) l ≡ sum n figure
  by_number n figure has =
      ap nat_abs
      (sym (each_pos (λ k. sum n (only_of (λ i. eqb (of i) k) figure)) l)
      ∙ ap (λ (f : ℕ → ℤ). sum_for_each_ℤ f l) (fun_ext (λ k. sym (some_pos n (λ i. eqb (of i) k) figure)))
      ∙ by_number_ℤ n (λ i. pos (figure i)) has
      ∙ sum_ℤ_pos n figure)

-- over the different ones
module _ (n : ℕ) (of : ℕ → ℕ) where
  pub adds_up_by_number_ℤ : (figure : ℕ → ℤ) → sum_for_each_ℤ (λ k. sum_ℤ n (only_of_ℤ (λ i. eqb (of i) k) figure)) (different_ones n of) ≡ sum_ℤ n figure
  adds_up_by_number_ℤ figure = by_number_ℤ of (different_ones n of) (ones_rise of n) n figure (each_is_in of n)

  pub adds_up_by_number : (figure : ℕ → ℕ) → sum_for_each (λ k. sum n (only_of (λ i. eqb (of i) k) figure)) (different_ones n of) ≡ sum n figure
  adds_up_by_number figure = by_number of (different_ones n of) (ones_rise of n) n figure (each_is_in of n)

-- A SUM OVER HOURS OF SUMS OVER SOME SUPPLIERS is the sum over these suppliers of their sums over hours
module _ (h n : ℕ) (some : ℕ → Bool) where
  pub hours_of_some_ℤ : (figure : ℕ → ℕ → ℤ) → sum_ℤ h (λ t. sum_ℤ n (only_of_ℤ some (figure t))) ≡ sum_ℤ n (only_of_ℤ some (λ i. sum_ℤ h (λ t. figure t i)))
  unfolding only_of_ℤ
  hours_of_some_ℤ figure = sym (sum_ℤ_swap n h (λ t. only_of_ℤ some (figure t))) ∙ ap (sum_ℤ n) (fun_ext (λ i. of_one i (some i)))
    where
      of_one : (i : ℕ) (one : Bool) → sum_ℤ h (λ t. cond one (figure t i) (pos 0)) ≡ cond one (sum_ℤ h (λ t. figure t i)) (pos 0)
      of_one i true = refl
      of_one i false = sum_ℤ_zero h (λ t b. refl)

  pub hours_of_some : (figure : ℕ → ℕ → ℕ) → sum h (λ t. sum n (only_of some (figure t))) ≡ sum n (only_of some (λ i. sum h (λ t. figure t i)))
  unfolding only_of
  hours_of_some figure = sym (sum_swap n h (λ t. only_of some (figure t))) ∙ ap (sum n) (fun_ext (λ i. of_one i (some i)))
    where
      of_one : (i : ℕ) (one : Bool) → sum h (λ t. cond one (figure t i) 0) ≡ cond one (sum h (λ t. figure t i)) 0
      of_one i true = refl
      of_one i false = sum_zero h (λ t b. refl)

-- A BRP'S MONTH SUMS are the sums of its suppliers' month sums
module _ (m : MonthFile) (brp : ℕ) where
  pub brp_month_distributed_lem : brp_month_distributed m brp ≡ sum_of_brp_ℤ m brp (month_distributed m)
  unfolding brp_month_distributed brp_distributed sum_of_brp_ℤ month_distributed
  brp_month_distributed_lem = hours_of_some_ℤ (H m) (P m) (supplies_for m brp) (distributed m)

  pub brp_month_periodised_lem : brp_month_periodised m brp ≡ sum_of_brp m brp (month_periodised m)
  unfolding brp_month_periodised brp_periodised sum_of_brp month_periodised
  brp_month_periodised_lem = hours_of_some (H m) (P m) (supplies_for m brp) (periodised m)

  pub brp_month_loss_lem : brp_month_loss m brp ≡ sum_of_brp_ℤ m brp (month_loss m)
  unfolding brp_month_loss brp_loss sum_of_brp_ℤ month_loss
  brp_month_loss_lem = hours_of_some_ℤ (H m) (P m) (supplies_for m brp) (λ t. loss_of m.heading.carrier (loss m t))

  pub brp_month_difference_lem : brp_month_difference m brp ≡ sum_of_brp_ℤ m brp (month_difference m)
  unfolding brp_month_difference brp_difference sum_of_brp_ℤ month_difference
  brp_month_difference_lem = hours_of_some_ℤ (H m) (P m) (supplies_for m brp) (difference m)

-- THE BRP OF THE CARRIER HAS THE LOSS, and no other
pub brp_has_the_loss : (n carrier : ℕ) (some : ℕ → Bool) (loss : ℤ) → carrier < n → sum_ℤ n (only_of_ℤ some (loss_of carrier loss)) ≡ cond (some carrier) loss (pos 0)
unfolding only_of_ℤ loss_of
brp_has_the_loss n carrier some loss b =
    sum_ℤ_cong n (λ i c. of_one i) ∙ one_carries_the_loss n carrier (cond (some carrier) loss (pos 0)) b
  where
    nothing : (t : Bool) → cond t (pos 0) (pos 0) ≡ pos 0
    nothing true = refl
    nothing false = refl

    of_one : (i : ℕ) → cond (some i) (cond (eqb i carrier) loss (pos 0)) (pos 0) ≡ cond (eqb i carrier) (cond (some carrier) loss (pos 0)) (pos 0)
    of_one i = go (eqb i carrier) refl
      where
        go : (t : Bool) → eqb i carrier ≡ t → cond (some i) (cond t loss (pos 0)) (pos 0) ≡ cond t (cond (some carrier) loss (pos 0)) (pos 0)
        go true e = ap (λ (k : ℕ). cond (some k) loss (pos 0)) (eqb-true i carrier e)
        go false e = nothing (some i)
