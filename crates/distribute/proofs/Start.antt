-- Before the first hour nothing is carried: the remainder of share x 0 / W is 0, and nothing is left over.
use mathlib.Core.Bool.{cond}
use mathlib.Core.List.{List}
use mathlib.Core.Path.{◌≡◌, refl, sym, ◌∙◌, ap}
use Prim.Native.Nat.{ℕ, ◌%◌, ◌<◌, zero-le}
use native.Mathlib.Nat.{mul-zero, zero-mod, zero-sub}
use native.Mathlib.Omega.{arith}
use borrow.Author.Tests.{le-ltb}
use lib.IntN.{pos}
use lib.ListN.{length, replicate, length-replicate}
use Rattle.apportion.specs.Filled.{Filled}
use Rattle.distribute.specs.Good.{Startable, Started, extra_after}
use Rattle.apportion.proofs.Arrays.{filled_as, all_nothing}
use Rattle.rules.specs.Distributed.{remainder, left_over}
use Rattle.rules.specs.LargestRemainder.{one_each, rank}
use Rattle.rules.specs.Flows.{W}
use Rattle.rules.specs.Limits.{most_parties}
use Rattle.rules.specs.Words.{sum, at}
use Rattle.rules.proofs.Sums.{sum_cong}

filled_nothing : {A : Type 0} (nothing : A) (n : ℕ) → Filled nothing (λ k. nothing) n (replicate most_parties nothing)
filled_nothing nothing n =
    record { size = length-replicate most_parties nothing; below = λ k b. all_nothing nothing most_parties k; past = λ k b. all_nothing nothing most_parties k }

no_remainder : (n : ℕ) (share : ℕ → ℕ) (k : ℕ) → 0 ≡ remainder n share 0 k
unfolding remainder
no_remainder n share k = sym (ap (λ (x : ℕ). x % W n share) (mul-zero (share k)) ∙ zero-mod (W n share))

none_left : (n : ℕ) (share : ℕ → ℕ) → 0 ≡ left_over n share 0
unfolding left_over
none_left n share = sym (zero-sub _)

no_extra : (n : ℕ) (share : ℕ → ℕ) (k : ℕ) → 0 ≡ extra_after n share 0 k
unfolding one_each
no_extra n share k =
    sym
    (ap (λ (l : ℕ). one_each n (remainder n share 0) l k) (sym (none_left n share))
    ∙ ap (λ t. cond t 1 0) (le-ltb (rank n (remainder n share 0) k) 0 zero-le))

module _ (shares : List ℕ) (startable : Startable shares) (share : List ℕ) (filled : Filled 0 (at shares) (length shares) share) where
  same_share : (k : ℕ) → k < length shares → at share k ≡ at shares k
  unfolding at
  same_share k b = filled.below k b

  same_sum : sum (length shares) (at share) ≡ W (length shares) (at shares)
  unfolding W
  same_sum = sum_cong (length shares) same_share

  pub sum_fits : sum (length shares) (at share) < 18446744073709551616
  sum_fits = omega (arith, same_sum, startable.w_fits)

  pub started :
      (w : ℕ)
      → w ≡ sum (length shares) (at share)
      → Started shares
      (record {
        parties = length shares;
        w = w;
        sum_wh = 0;
        left = 0;
        share = share;
        remainder = replicate most_parties 0;
        extra = replicate most_parties 0;
        figures = replicate most_parties (pos 0);
      })
  unfolding W at
  started w e =
      record {
        good = record {
          few = startable.few;
          some = omega (arith, same_sum, startable.some);
          w_is = e;
          w_fits = omega (arith, same_sum, startable.w_fits);
          shares = record { size = filled.size; below = λ k b. refl; past = filled.past };
          remainders = filled_as (filled_nothing 0 (length shares)) (λ k b. no_remainder (length shares) (at share) k);
          extras = filled_as (filled_nothing 0 (length shares)) (λ k b. no_extra (length shares) (at share) k);
          left = none_left (length shares) (at share);
        };
        parties = refl;
        share = filled;
        sum = refl;
        figures = filled_nothing (pos 0) (length shares);
      }
