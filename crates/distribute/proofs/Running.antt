-- The running sums depend on the shares of the n parties alone: a list of 64 places serves for one of n.
use mathlib.Core.Path.{◌≡◌, ◌∙◌, ap, ap₂}
use Prim.Native.Nat.{ℕ, ◌+◌, ◌-◌, ◌*◌, ◌/◌, ◌%◌, ◌<◌}
use Rattle.rules.specs.Distributed.{rounded_down, remainder, left_over, running_sum}
use Rattle.rules.specs.LargestRemainder.{one_each}
use Rattle.rules.specs.Flows.{W}
use Rattle.rules.proofs.Sums.{sum_cong}
use Rattle.rules.proofs.LargestRemainder.{one_each_cong}

module _ (n : ℕ) (f g : ℕ → ℕ) (same : (k : ℕ) → k < n → f k ≡ g k) where
  w_same : W n f ≡ W n g
  unfolding W
  w_same = sum_cong n same

  floor_same : (r k : ℕ) → k < n → rounded_down n f r k ≡ rounded_down n g r k
  unfolding rounded_down
  floor_same r k b = ap₂ (λ (s w : ℕ). s * r / w) (same k b) w_same

  remainder_same : (r k : ℕ) → k < n → remainder n f r k ≡ remainder n g r k
  unfolding remainder
  remainder_same r k b = ap₂ (λ (s w : ℕ). s * r % w) (same k b) w_same

  left_same : (r : ℕ) → left_over n f r ≡ left_over n g r
  unfolding left_over
  left_same r = ap (λ (s : ℕ). r - s) (sum_cong n (floor_same r))

  pub running_same : (r i : ℕ) → i < n → running_sum n f r i ≡ running_sum n g r i
  unfolding running_sum
  running_same r i b =
      ap₂ (λ (x y : ℕ). x + y) (floor_same r i b)
      (one_each_cong n (left_over n f r) i (remainder_same r) b
      ∙ ap (λ (l : ℕ). one_each n (remainder n g r) l i) (left_same r))
