-- What a state of the carries means: the shares of a span and the residuals so far, and of each party the remainder of share x R / W and whether it has
-- one of the Wh left over. "The carry is handed on from hour to hour." (01, Distributed consumption)
use Rattle.std.specs.Prelude.{List, ◌≡◌, ℕ, ◌+◌, ◌≤◌, ◌<◌, ℤ, pos, ◌-ℤ◌, length}
use Rattle.distribute.specs.declared.Carries.{Carries}
use Rattle.apportion.specs.Filled.{Filled}
use Rattle.rules.specs.Distributed.{remainder, left_over, running_sum}
use Rattle.rules.specs.LargestRemainder.{one_each}
use Rattle.rules.specs.Flows.{W}
use Rattle.rules.specs.Limits.{most_parties, greatest_w, greatest_residual}
use Rattle.rules.specs.Words.{at}

-- the party's share, as a series
abbrev pub share_in : Carries → ℕ → ℕ
share_in c = at c.share

-- the left-over Wh that each party has after a residual of r in all
abbrev pub extra_after : ℕ → (ℕ → ℕ) → ℕ → ℕ → ℕ
extra_after n share r = one_each n (remainder n share r) (left_over n share r)

-- a party's figure, where the residual so far grew from r by x
unfoldable pub figure_after : ℕ → (ℕ → ℕ) → ℕ → ℕ → ℕ → ℤ
figure_after n share r x k = pos (running_sum n share (r + x) k) -ℤ pos (running_sum n share r k)

-- the state after residuals that add up to `sum_wh`
pub record Good (c : Carries) : Type 0 where
  pub few : c.parties ≤ most_parties
  pub some : 0 < c.w
  pub w_is : c.w ≡ W c.parties (share_in c)
  pub w_fits : c.w ≤ greatest_w
  pub shares : Filled 0 (share_in c) c.parties c.share
  pub remainders : Filled 0 (remainder c.parties (share_in c) c.sum_wh) c.parties c.remainder
  pub extras : Filled 0 (extra_after c.parties (share_in c) c.sum_wh) c.parties c.extra
  pub left : c.left ≡ left_over c.parties (share_in c) c.sum_wh

-- the next state: of the same shares, one residual further on, with the hour's figures
pub record Next (c : Carries) (residual : ℕ) (d : Carries) : Type 0 where
  pub good : Good d
  pub parties : d.parties ≡ c.parties
  pub share : d.share ≡ c.share
  pub sum : d.sum_wh ≡ c.sum_wh + residual
  pub figures : Filled (pos 0) (figure_after c.parties (share_in c) c.sum_wh residual) c.parties d.figures

-- shares that a span can have: at most 64, and W from 1 to its limit
pub record Startable (shares : List ℕ) : Type 0 where
  pub few : length shares ≤ most_parties
  pub some : 0 < W (length shares) (at shares)
  pub w_fits : W (length shares) (at shares) ≤ greatest_w

-- the state before the first hour of a span
pub record Started (shares : List ℕ) (c : Carries) : Type 0 where
  pub good : Good c
  pub parties : c.parties ≡ length shares
  pub share : Filled 0 (at shares) (length shares) c.share
  pub sum : c.sum_wh ≡ 0
  pub figures : Filled (pos 0) (λ k. pos 0) (length shares) c.figures

-- one residual more can be taken: it is within its limit, and the residuals so far are few enough to be added up
pub record Ready (c : Carries) (residual : ℕ) : Type 0 where
  pub good : Good c
  pub at_most : residual ≤ greatest_residual
  pub sum_fits : c.sum_wh + residual < 4611686018427387904
