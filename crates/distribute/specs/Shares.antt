-- The shares of a span: "W 1..4,000,000,000.", and what must be known of them to add them up.
use Rattle.std.specs.Prelude.{List, ℕ, ◌≤◌, ◌<◌, length}
use Rattle.rules.specs.Flows.{W}
use Rattle.rules.specs.Limits.{most_parties, greatest_share, greatest_w}
use Rattle.rules.specs.Refusals.{w_out_of_range, Verdict, unless}
use Rattle.rules.specs.Words.{at, within}

-- 6
unfoldable pub w_verdict : List ℕ → Verdict
w_verdict shares = unless (within 1 greatest_w (W (length shares) (at shares))) w_out_of_range 0

-- shares that can be added up
pub record FewShares (shares : List ℕ) : Type 0 where
  pub few : length shares ≤ most_parties
  pub fit : (k : ℕ) → k < length shares → at shares k ≤ greatest_share
