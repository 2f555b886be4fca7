-- A distance by the carries of an hour, and the smallest and the largest with an hour more.
use mathlib.Core.Bool.{Bool, true, false}
use mathlib.Core.List.{List}
use mathlib.Core.Path.{◌≡◌, sym, ◌∙◌, ap, ap₂}
use Prim.Native.Nat.{ℕ, ◌<◌}
use native.Mathlib.Omega.{arith}
use lib.IntN.{ℤ, pos, ◌-ℤ◌, ◌*ℤ◌}
use Rattle.apportion.specs.Filled.{Filled}
use Rattle.distribute.specs.Good.{Good, share_in, extra_after}
use Rattle.distribute.specs.declared.Carries.{Carries}
use Rattle.apportion.proofs.Arrays.{filled_as}
use Rattle.report_distances.specs.declared.Distances.{Distances}
use Rattle.report_distances.specs.Extremes.{distance_in, distance_of, distance_by, Near, smaller_in, larger_in, Widened, smallest_with, largest_with, With}
use Rattle.rules.specs.Demands.{exact_share}
use Rattle.rules.specs.Distributed.{remainder, left_over, running_sum}
use Rattle.rules.specs.Flows.{W}
use Rattle.rules.specs.HoursReport.{smaller, larger}
use Rattle.rules.specs.Services.{at_ℤ}
use Rattle.rules.specs.Words.{at}
use Rattle.rules.proofs.Demand3.{remainder_below}
use Rattle.rules.proofs.HoursReport.{by_carries}
use Rattle.rules.proofs.LargestRemainder.{one_at_most}

module _ {c : Carries} (good : Good c) where
  abbrev n : ℕ
  n = c.parties

  some : 0 < W n (share_in c)
  some = omega (arith, good.some, good.w_is)

  extra_at : (k : ℕ) → k < n → at c.extra k ≡ extra_after n (share_in c) c.sum_wh k
  unfolding at
  extra_at k b = good.extras.below k b

  remainder_at : (k : ℕ) → k < n → at c.remainder k ≡ remainder n (share_in c) c.sum_wh k
  unfolding at
  remainder_at k b = good.remainders.below k b

  pub near : (k : ℕ) → k < n → Near (at c.extra k) (at c.remainder k) c.w
  near k b =
      record {
        one = omega (arith, extra_at k b, one_at_most n (remainder n (share_in c) c.sum_wh) (left_over n (share_in c) c.sum_wh) k);
        rest = omega (arith, remainder_at k b, remainder_below n (share_in c) some c.sum_wh k, good.w_is);
        w_fits = good.w_fits;
      }

  is_distance : (k : ℕ) → k < n → distance_by c.extra c.remainder c.w k ≡ distance_in c k
  unfolding distance_by distance_in exact_share
  is_distance k b =
      ap₂ (λ (e r : ℕ). distance_of e r c.w) (extra_at k b) (remainder_at k b)
      ∙ ap (λ (w : ℕ). distance_of (extra_after n (share_in c) c.sum_wh k) (remainder n (share_in c) c.sum_wh k) w) good.w_is
      ∙ sym (by_carries n (share_in c) some c.sum_wh k)
      ∙ ap (λ (w : ℕ). pos (running_sum n (share_in c) c.sum_wh k) *ℤ pos w -ℤ pos (exact_share (share_in c) c.sum_wh k)) (sym good.w_is)

  module _ {here : List ℤ} (distances : Filled (pos 0) (distance_by c.extra c.remainder c.w) n here) where
    here_at : (k : ℕ) → k < n → at_ℤ here k ≡ distance_in c k
    unfolding at_ℤ
    here_at k b = distances.below k b ∙ is_distance k b

    -- of the first hour its own
    pub with_first : (kept : Distances) {first : Bool} → first ≡ true → With kept c first (record { smallest = here; largest = here })
    unfolding smallest_with largest_with
    with_first kept e = rw e (record { smallest = filled_as distances is_distance; largest = filled_as distances is_distance })

    pub with_more :
        (kept : Distances) {first : Bool}
        → first ≡ false
        → {r : Distances}
        → Widened kept.smallest kept.largest here n r
        → With kept c first r
    unfolding smaller_in larger_in smallest_with largest_with
    with_more kept e r =
        rw e
        (record {
          smallest = filled_as r.smallest (λ k b. ap (smaller (at_ℤ kept.smallest k)) (here_at k b));
          largest = filled_as r.largest (λ k b. ap (larger (at_ℤ kept.largest k)) (here_at k b));
        })
