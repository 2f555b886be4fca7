-- W of the shares of a span: at most 64 shares within their limit can be added up, and their sum is tested against its limits.
use mathlib.Core.List.{List}
use mathlib.Core.Bool.{◌&&◌}
use mathlib.Core.Path.{◌≡◌, ◌∙◌}
use Prim.Native.Nat.{ℕ, ◌*◌, ◌≤◌, ◌<◌}
use native.Mathlib.Omega.{arith}
use lib.Dec.{leb}
use lib.ListN.{length}
use Rattle.apportion.specs.Filled.{Filled}
use Rattle.distribute.specs.Shares.{FewShares}
use Rattle.rules.specs.Flows.{W}
use Rattle.rules.specs.Limits.{most_parties, greatest_share, greatest_w}
use Rattle.rules.specs.Words.{sum, at, within}
use Rattle.rules.proofs.Sums.{sum_cong, sum_at_most}

module _ {shares : List ℕ} (few : FewShares shares) {share : List ℕ} (filled : Filled 0 (at shares) (length shares) share) where
  same_sum : sum (length shares) (at share) ≡ W (length shares) (at shares)
  unfolding W at
  same_sum = sum_cong (length shares) (λ k b. filled.below k b)

  w_at_most : W (length shares) (at shares) ≤ most_parties * greatest_share
  unfolding W
  w_at_most = omega (arith, sum_at_most (length shares) (at shares) greatest_share few.fit, few.few)

  pub shares_add_up : sum (length shares) (at share) < 18446744073709551616
  shares_add_up = omega (arith, same_sum, w_at_most)

  -- the test of their sum is that of W
  pub w_tested :
      {w : ℕ}
      → w ≡ sum (length shares) (at share)
      → (leb 1 w && leb w greatest_w) ≡ within 1 greatest_w (W (length shares) (at shares))
  unfolding within
  w_tested is-w = rw (is-w ∙ same_sum)
