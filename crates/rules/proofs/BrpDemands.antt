-- WHAT THE BRPS OF A MONTH COME TO (02, W5) holds: one line for each and none left out; their figures, their columns and their load shares add up to those of the
-- suppliers; and a BRP of n suppliers is less than n Wh from its exact share since the first hour, less than 2n Wh over a run, each supplier being less than 1 and 2.
use mathlib.Core.Bool.{Bool, true, false, cond}
use mathlib.Core.Path.{◌≡◌, refl, sym, ◌∙◌, ap, ap₂, fun_ext}
use Prim.Native.Nat.{ℕ, zero, suc, ◌+◌, ◌*◌, ◌≤◌, ◌<◌}
use native.Mathlib.Nat.{zero-mul}
use native.Mathlib.Omega.{arith}
use lib.IntN.{ℤ, pos, nat_abs, neg_ℤ, ◌+ℤ◌, ◌-ℤ◌, ◌*ℤ◌}
use Rattle.rules.specs.Brp.{brp_of, brps, supplies_for, suppliers_of, only_of, only_of_ℤ, sum_of_brp, sum_of_brp_ℤ, brp_distributed, brp_periodised, brp_loss, brp_difference}
use Rattle.rules.specs.Brp.{brp_invoice, brp_share}
use Rattle.rules.specs.BrpDemands.{sum_for_each, sum_for_each_ℤ, BrpDemands}
use Rattle.rules.specs.Demands.{sum_over, exact_share, distance}
use Rattle.rules.specs.Flows.{W}
use Rattle.rules.specs.HoursReport.{distance_after}
use Rattle.rules.specs.Month.{share_of, distributed, periodised, loss, difference, applied_wh, month_w, month_distributed, month_periodised, month_loss, month_difference, invoice}
use Rattle.rules.specs.MonthFile.{MonthFile, P}
use Rattle.rules.specs.Reconciliation.{loss_of}
use Rattle.rules.specs.Words.{sum, sum_ℤ, count}
use Rattle.rules.proofs.Brp.{adds_up_by_number_ℤ, adds_up_by_number, hours_of_some_ℤ, brp_month_distributed_lem, brp_month_periodised_lem, brp_month_loss_lem, brp_month_difference_lem}
use Rattle.rules.proofs.Demand3.{demand_3}
use Rattle.rules.proofs.DifferentOnes.{ones_rise, few_ones, each_is_in, ones_are_theirs}
use Rattle.rules.proofs.HoursReport.{less_than_a_wh}
use Rattle.rules.proofs.Integers.{size_of_sum, sum_ℤ_add, sum_ℤ_neg, sum_ℤ_pos, sum_ℤ_scale}
use Rattle.rules.proofs.Sums.{sum_scale}

-- SOME FIGURES, each less than so much: their sum is at least as many less than so many times so much
some_below : (n : ℕ) (some : ℕ → Bool) (f : ℕ → ℤ) (k : ℕ) → ((i : ℕ) → nat_abs (f i) < k)
    → nat_abs (sum_ℤ n (only_of_ℤ some f)) + count n some ≤ count n some * k
unfolding sum_ℤ sum count only_of_ℤ
some_below zero some f k below = omega arith
some_below (suc n) some f k below = by_test (some n) (some_below n some f k below)
  where
    by_test : (one : Bool) → nat_abs (sum_ℤ n (only_of_ℤ some f)) + count n some ≤ count n some * k
        → nat_abs (sum_ℤ n (only_of_ℤ some f) +ℤ cond one (f n) (pos 0)) + (count n some + cond one 1 0) ≤ (count n some + cond one 1 0) * k
    by_test true so_far = omega (arith, below n, size_of_sum (sum_ℤ n (only_of_ℤ some f)) (f n))
    by_test false so_far = omega (arith, size_of_sum (sum_ℤ n (only_of_ℤ some f)) (pos 0))

-- HOW FAR THE SUM OF SOME IS from what they should be together: their distances added up
module _ (n : ℕ) (some : ℕ → Bool) (w r : ℕ) (f : ℕ → ℤ) (share : ℕ → ℕ) where
  some_apart : sum_ℤ n (only_of_ℤ some f) *ℤ pos w -ℤ pos (sum n (only_of some share) * r) ≡ sum_ℤ n (only_of_ℤ some (λ i. f i *ℤ pos w -ℤ pos (share i * r)))
  unfolding only_of_ℤ only_of
  some_apart =
      ap₂ (λ (x y : ℤ). x +ℤ y)
      (sym (sum_ℤ_scale n (only_of_ℤ some f) (pos w)))
      (ap neg_ℤ (ap pos (sym (sum_scale n (only_of some share) r)) ∙ sym (sum_ℤ_pos n (λ i. only_of some share i * r)))
      ∙ sym (sum_ℤ_neg n (λ i. pos (only_of some share i * r))))
      ∙ sym (sum_ℤ_add n (λ i. only_of_ℤ some f i *ℤ pos w) (λ i. neg_ℤ (pos (only_of some share i * r))))
      ∙ ap (sum_ℤ n) (fun_ext (λ i. of_one i (some i)))
    where
      of_one : (i : ℕ) (one : Bool) → cond one (f i) (pos 0) *ℤ pos w -ℤ pos (cond one (share i) 0 * r) ≡ cond one (f i *ℤ pos w -ℤ pos (share i * r)) (pos 0)
      of_one i true = refl
      of_one i false = rw (zero-mul w, zero-mul r)

  some_near : (k : ℕ) → 0 < count n some → ((i : ℕ) → distance w (f i) (share i * r) < k)
      → distance w (sum_ℤ n (only_of_ℤ some f)) (sum n (only_of some share) * r) < count n some * k
  unfolding distance
  some_near k b near = rw some_apart (omega (arith, some_below n some (λ i. f i *ℤ pos w -ℤ pos (share i * r)) k near))

module _ (m : MonthFile) where
  -- BY BRP: any figures of the suppliers
  by_brp_ℤ : (figure : ℕ → ℤ) → sum_for_each_ℤ (λ brp. sum_of_brp_ℤ m brp figure) (brps m) ≡ sum_ℤ (P m) figure
  unfolding sum_of_brp_ℤ supplies_for brps
  by_brp_ℤ figure = adds_up_by_number_ℤ (P m) (brp_of m) figure

  by_brp : (figure : ℕ → ℕ) → sum_for_each (λ brp. sum_of_brp m brp figure) (brps m) ≡ sum (P m) figure
  unfolding sum_of_brp supplies_for brps
  by_brp figure = adds_up_by_number (P m) (brp_of m) figure

  -- a month's column
  column : {f : ℕ → ℤ} (figure : ℕ → ℤ) → ((brp : ℕ) → f brp ≡ sum_of_brp_ℤ m brp figure) → sum_for_each_ℤ f (brps m) ≡ sum_ℤ (P m) figure
  column figure same = ap (λ (g : ℕ → ℤ). sum_for_each_ℤ g (brps m)) (fun_ext same) ∙ by_brp_ℤ figure

  -- THE DISTANCE OF A BRP, over any hours: its suppliers' distances together
  brp_near :
      (hour : ℕ → ℕ) (hours brp r k : ℕ) → 0 < suppliers_of m brp
      → ((i : ℕ) → distance (month_w m) (sum_ℤ hours (λ t. distributed m (hour t) i)) (share_of m i * r) < k)
      → distance (month_w m) (sum_ℤ hours (λ t. brp_distributed m (hour t) brp)) (brp_share m brp * r) < suppliers_of m brp * k
  unfolding brp_distributed sum_of_brp_ℤ brp_share sum_of_brp suppliers_of
  brp_near hour hours brp r k b near =
      rw (hours_of_some_ℤ hours (P m) (supplies_for m brp) (λ t. distributed m (hour t)))
      (some_near (P m) (supplies_for m brp) (month_w m) r (λ i. sum_ℤ hours (λ t. distributed m (hour t) i)) (share_of m) k b near)

  module _ (some : 0 < month_w m) where
    near_since_first :
        (hours brp : ℕ) → 0 < suppliers_of m brp
        → distance (month_w m) (sum_ℤ hours (λ t. brp_distributed m t brp)) (brp_share m brp * sum hours (applied_wh m)) < suppliers_of m brp * month_w m
    unfolding distance distance_after exact_share
    near_since_first hours brp b = brp_near (λ t. t) hours brp (sum hours (applied_wh m)) (month_w m) b (λ i. less_than_a_wh m some i hours)

    near :
        (start hours brp : ℕ) → 0 < suppliers_of m brp
        → distance (month_w m) (sum_ℤ hours (λ t. brp_distributed m (start + t) brp)) (brp_share m brp * sum hours (λ t. applied_wh m (start + t)))
        < 2 * (suppliers_of m brp * month_w m)
    unfolding sum_over exact_share month_w distributed
    near start hours brp b =
        let each = (demand_3 (P m) (share_of m) some (applied_wh m)).near start hours in
        omega (arith, brp_near (λ t. start + t) hours brp (sum hours (λ t. applied_wh m (start + t))) (2 * month_w m) b each)

    -- WHAT W5 SAYS OF THE BRPS OF A MONTH
    pub brp_demands : BrpDemands m
    unfolding brps brp_distributed brp_periodised brp_loss brp_difference brp_invoice brp_share month_w W
    brp_demands =
        record {
          rising = ones_rise (brp_of m) (P m);
          at_most_one_each = few_ones (brp_of m) (P m);
          has_a_line = each_is_in (brp_of m) (P m);
          has_a_supplier = ones_are_theirs (brp_of m) (P m);
          shares_add_up = by_brp (share_of m);
          hour_distributed = λ t. by_brp_ℤ (distributed m t);
          hour_periodised = λ t. by_brp (periodised m t);
          hour_loss = λ t. by_brp_ℤ (loss_of m.heading.carrier (loss m t));
          hour_difference = λ t. by_brp_ℤ (difference m t);
          distributed_adds_up = column (month_distributed m) (brp_month_distributed_lem m);
          periodised_adds_up = ap (λ (g : ℕ → ℕ). sum_for_each g (brps m)) (fun_ext (brp_month_periodised_lem m)) ∙ by_brp (month_periodised m);
          loss_adds_up = column (month_loss m) (brp_month_loss_lem m);
          difference_adds_up = column (month_difference m) (brp_month_difference_lem m);
          invoice_adds_up = by_brp_ℤ (invoice m);
          near_since_first = near_since_first;
          near = near;
        }
