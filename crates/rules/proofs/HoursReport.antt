-- The laws of the reviewer's report: what a distance is by the carries; that it is less than a Wh; that the smallest and the largest are one of the distances,
-- and none lies outside them.
use mathlib.Core.Bool.{Bool, true, false, not, cond}
use mathlib.Core.Logic.{⊎_elim}
use mathlib.Core.Path.{◌≡◌, refl, sym, ◌∙◌, ap, subst}
use Prim.Native.Nat.{ℕ, zero, suc, ◌+◌, ◌*◌, ◌≤◌, ◌<◌, zero-le}
use native.Mathlib.Nat.{le_trans, le_of_lt, le_refl, le_antisymm, eq-or-lt_of_le, le_of_suc-le-suc, zero-add}
use native.Mathlib.Omega.{arith}
use lib.Dec.{T, leb→le, le→leb, ltb→lt}
use lib.IntN.{ℤ, pos, negsuc, nat_abs, ◌-ℤ◌, ◌*ℤ◌}
use lib.Signed.{lt_z, le_z, ◌≤ℤ◌, lt_z_no, ≤ℤ_refl}
use Rattle.rules.specs.Demands.{sum_over, sum_since_first, exact_share}
use Rattle.rules.specs.Distributed.{remainder, left_over, rounded_down, running_sum, running_after, distributed_figure}
use Rattle.rules.specs.LargestRemainder.{one_each}
use Rattle.rules.specs.Flows.{W}
use Rattle.rules.specs.HoursReport.{distance_after, smaller, larger, smallest, largest}
use Rattle.rules.specs.Month.{share_of, month_w, applied_wh, distributed}
use Rattle.rules.specs.MonthFile.{MonthFile, P}
use Rattle.rules.specs.Words.{sum, sum_ℤ}
use Rattle.rules.proofs.Demand3.{divided, sum_since_first_is, running_below, running_above}
use Rattle.rules.proofs.Integers.{minus_cong, minus_near, sum_ℤ_cong}

-- A RUNNING SUM LESS THE EXACT SHARE, in W-ths of a Wh, is what the party has of the Wh left over, less its remainder
pub by_carries :
    (n : ℕ) (share : ℕ → ℕ)
    → 0 < W n share → (r i : ℕ)
    → pos (running_sum n share r i * W n share) -ℤ pos (share i * r) ≡ pos (one_each n (remainder n share r) (left_over n share r) i * W n share) -ℤ pos (remainder n share r i)
unfolding running_sum
by_carries n share some r i =
    let extra : ℕ = one_each n (remainder n share r) (left_over n share r) i in
    minus_cong ((rounded_down n share r i + extra) * W n share) (share i * r) (extra * W n share) (remainder n share r i)
    (omega (arith, divided n share some r i))

module _ (m : MonthFile) (some : 0 < month_w m) (i hours : ℕ) where
  -- the residuals so far, and the party's running sum
  so_far : ℕ
  so_far = sum hours (applied_wh m)

  running : ℕ
  running = running_sum (P m) (share_of m) so_far i

  figures_make_it : sum_ℤ hours (λ t. distributed m t i) ≡ pos running
  unfolding distributed sum_since_first sum_over running_after running so_far month_w
  figures_make_it =
      sum_ℤ_cong hours (λ t b. ap (λ (u : ℕ). distributed_figure (P m) (share_of m) (applied_wh m) u i) (sym (zero-add t)))
      ∙ sum_since_first_is (P m) (share_of m) some (applied_wh m) hours i

  by_running : distance_after m i hours ≡ pos (running * month_w m) -ℤ pos (share_of m i * so_far)
  unfolding distance_after exact_share so_far
  by_running = ap (λ (z : ℤ). z *ℤ pos (month_w m) -ℤ pos (share_of m i * so_far)) figures_make_it

  -- A DISTANCE BY THE CARRIES: the left-over Wh that the party has, less its remainder
  pub distance_is :
      distance_after m i hours ≡ pos (one_each (P m) (remainder (P m) (share_of m) (sum hours (applied_wh m))) (left_over (P m) (share_of m) (sum hours (applied_wh m))) i * month_w m) -ℤ pos (remainder (P m) (share_of m) (sum hours (applied_wh m)) i)
  unfolding running so_far month_w
  distance_is = by_running ∙ by_carries (P m) (share_of m) some (sum hours (applied_wh m)) i

  -- A DISTANCE IS LESS THAN A WH
  pub less_than_a_wh : nat_abs (distance_after m i hours) < month_w m
  unfolding running so_far month_w
  less_than_a_wh =
      rw by_running
      (minus_near (running_sum (P m) (share_of m) (sum hours (applied_wh m)) i * W (P m) (share_of m)) (share_of m i * sum hours (applied_wh m)) (W (P m) (share_of m))
      (running_below (P m) (share_of m) some (sum hours (applied_wh m)) i)
      (running_above (P m) (share_of m) some (sum hours (applied_wh m)) i))

at_most_trans' : (a b c : ℤ) → T (le_z a b) → T (le_z b c) → T (le_z a c)
at_most_trans' (pos a) (pos b) (pos c) h k = le→leb a c (le_trans (leb→le a b h) (leb→le b c k))
at_most_trans' (pos a) (pos b) (negsuc c) h k = k
at_most_trans' (pos a) (negsuc b) c h k = absurd h
at_most_trans' (negsuc a) (pos b) (pos c) h k = tt
at_most_trans' (negsuc a) (pos b) (negsuc c) h k = absurd k
at_most_trans' (negsuc a) (negsuc b) (pos c) h k = tt
at_most_trans' (negsuc a) (negsuc b) (negsuc c) h k = le→leb c a (le_trans (leb→le c b k) (leb→le b a h))

at_most_trans : {a b c : ℤ} → a ≤ℤ b → b ≤ℤ c → a ≤ℤ c
at_most_trans {a} {b} {c} h k = record { le = at_most_trans' a b c h.le k.le }

below_at_most : (a b : ℤ) → T (lt_z a b) → T (le_z a b)
below_at_most (pos a) (pos b) h = le→leb a b (le_of_lt (ltb→lt a b h))
below_at_most (pos a) (negsuc b) h = h
below_at_most (negsuc a) (pos b) h = tt
below_at_most (negsuc a) (negsuc b) h = le→leb b a (le_of_lt (ltb→lt b a h))

-- a test that passed, and one that failed
passed : (a b : ℤ) → lt_z a b ≡ true → a ≤ℤ b
passed a b e = record { le = below_at_most a b (subst T (sym e) tt) }

failed : (a b : ℤ) → lt_z a b ≡ false → b ≤ℤ a
failed a b e = lt_z_no (subst (λ (t : Bool). T (not t)) (sym e) tt)

below_both : (a b : ℤ) → (smaller a b ≤ℤ a) × (smaller a b ≤ℤ b)
unfolding smaller
below_both a b = by_test (lt_z b a) refl
  where
    by_test : (t : Bool) → lt_z b a ≡ t → (cond t b a ≤ℤ a) × (cond t b a ≤ℤ b)
    by_test true e = (passed b a e, ≤ℤ_refl b)
    by_test false e = (≤ℤ_refl a, failed b a e)

above_both : (a b : ℤ) → (a ≤ℤ larger a b) × (b ≤ℤ larger a b)
unfolding larger
above_both a b = by_test (lt_z a b) refl
  where
    by_test : (t : Bool) → lt_z a b ≡ t → (a ≤ℤ cond t b a) × (b ≤ℤ cond t b a)
    by_test true e = (passed a b e, ≤ℤ_refl b)
    by_test false e = (≤ℤ_refl a, failed a b e)

le_zero : {t : ℕ} → t ≤ 0 → t ≡ 0
le_zero b = le_antisymm b zero-le

-- THE SMALLEST AND THE LARGEST: none of f 0 .. f last lies outside them, and each is one of these.
pub none_below : (last : ℕ) (f : ℕ → ℤ) (t : ℕ) → t ≤ last → smallest last f ≤ℤ f t
unfolding smallest
none_below zero f t b = rw (le_zero b) (≤ℤ_refl (f 0))
none_below (suc last) f t b =
    ⊎_elim (λ (e : t ≡ suc last). rw e (below_both (smallest last f) (f (suc last))).1)
    (λ (l : t < suc last).
    at_most_trans (below_both (smallest last f) (f (suc last))).0 (none_below last f t (le_of_suc-le-suc l)))
    (eq-or-lt_of_le b)

pub none_above : (last : ℕ) (f : ℕ → ℤ) (t : ℕ) → t ≤ last → f t ≤ℤ largest last f
unfolding largest
none_above zero f t b = rw (le_zero b) (≤ℤ_refl (f 0))
none_above (suc last) f t b =
    ⊎_elim (λ (e : t ≡ suc last). rw e (above_both (largest last f) (f (suc last))).1)
    (λ (l : t < suc last).
    at_most_trans (none_above last f t (le_of_suc-le-suc l)) (above_both (largest last f) (f (suc last))).0)
    (eq-or-lt_of_le b)

pub record OneOf (last : ℕ) (f : ℕ → ℤ) (z : ℤ) : Type 0 where
  pub place : ℕ
  pub there : place ≤ last
  pub is : z ≡ f place

one_more : {last : ℕ} {f : ℕ → ℤ} {z : ℤ} → OneOf last f z → OneOf (suc last) f z
one_more o = record { place = o.place; there = omega (arith, o.there); is = o.is }

one_of_two : (last : ℕ) (f : ℕ → ℤ) (z : ℤ) (t : Bool) → OneOf last f z → OneOf (suc last) f (cond t (f (suc last)) z)
one_of_two last f z true o = record { place = suc last; there = le_refl (suc last); is = refl }
one_of_two last f z false o = one_more o

pub smallest_is_one : (last : ℕ) (f : ℕ → ℤ) → OneOf last f (smallest last f)
unfolding smallest smaller
smallest_is_one zero f = record { place = 0; there = zero-le; is = refl }
smallest_is_one (suc last) f = one_of_two last f (smallest last f) (lt_z (f (suc last)) (smallest last f)) (smallest_is_one last f)

pub largest_is_one : (last : ℕ) (f : ℕ → ℤ) → OneOf last f (largest last f)
unfolding largest larger
largest_is_one zero f = record { place = 0; there = zero-le; is = refl }
largest_is_one (suc last) f = one_of_two last f (largest last f) (lt_z (largest last f) (f (suc last))) (largest_is_one last f)
