-- A loop that has the smaller and the larger of the first i of n parties.
use mathlib.Core.List.{List}
use mathlib.Core.Path.{◌≡◌, ◌∙◌}
use Prim.Native.Nat.{ℕ, ◌+◌, ◌≤◌, ◌<◌}
use native.Mathlib.Omega.{arith}
use lib.IntN.{ℤ, pos}
use lib.ListN.{get_or, set, replicate}
use Rattle.std.specs.Int.{int_min, int_max}
use Rattle.std.proofs.lemmas.Int.{ints}
use Rattle.apportion.proofs.Arrays.{Upto, upto_start, upto_next, upto_end}
use Rattle.report_distances.specs.Extremes.{smaller_in, larger_in, Widened}
use Rattle.rules.specs.HoursReport.{smaller, larger}
use Rattle.rules.specs.Limits.{most_parties}
use Rattle.rules.specs.Services.{at_ℤ}

pub record Widening (least most here : List ℤ) (n i : ℕ) (smallest largest : List ℤ) : Type 0 where
  pub small : Upto (pos 0) (smaller_in least here) n i smallest
  pub large : Upto (pos 0) (larger_in most here) n i largest

pub widen_start : (least most here : List ℤ) (n : ℕ) → Widening least most here n 0 (replicate most_parties (pos 0)) (replicate most_parties (pos 0))
widen_start least most here n = record { small = upto_start (pos 0) _ n; large = upto_start (pos 0) _ n }

-- of equal ones it does not matter which
larger_is : (kept here : ℤ) → int_max kept here ≡ larger kept here
unfolding larger
larger_is kept here = grind (arith, ints)

module _ {least most here : List ℤ} {n i : ℕ} {smallest largest : List ℤ} (w : Widening least most here n i smallest largest) where
  pub widen_next :
      i < n
      → n ≤ most_parties
      → {s l : ℤ}
      → s ≡ int_min (get_or least i (pos 0)) (get_or here i (pos 0))
      → l ≡ int_max (get_or most i (pos 0)) (get_or here i (pos 0))
      → Widening least most here n (i + 1) (set smallest i s) (set largest i l)
  unfolding smaller_in larger_in at_ℤ smaller
  widen_next b few s l = record { small = upto_next w.small b few s; large = upto_next w.large b few (l ∙ larger_is _ _) }

  pub widen_end : n ≤ i → Widened least most here n (record { smallest = smallest; largest = largest })
  widen_end b = record { smallest = upto_end w.small b; largest = upto_end w.large b }
