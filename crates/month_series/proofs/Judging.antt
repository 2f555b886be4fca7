-- 18 and 13 of a reading as it is spread: the code compares the month's own weight with what the weight before leaves of the whole, which says of the true sum
-- what the rules say.
use mathlib.Core.Bool.{Bool, true, false, ◌&&◌}
use mathlib.Core.Path.{◌≡◌, refl, sym, ◌∙◌, ap}
use Prim.Native.Nat.{ℕ, ◌+◌, ◌-◌, ◌≤◌, ◌<◌}
use native.Mathlib.Omega.{arith}
use borrow.Author.Tests.{le-leb, lt-leb, leb-true, leb-false}
use lib.Dec.{leb}
use Rattle.answer.proofs.Checks.{test_refuses, test_passes, none_left}
use Rattle.month_series.specs.Series.{spread_checks}
use Rattle.periodise.specs.declared.Spread.{Spread}
use Rattle.rules.specs.Limits.{greatest_whole}
use Rattle.rules.specs.Month.{weights_fit, follows_whole}
use Rattle.rules.specs.Refusals.{whole_exceeded, nothing_to_follow, accepted, refused, first}

module _ (before own whole : ℕ) where
  pub before_exceeds : whole < before → false ≡ weights_fit before own whole
  unfolding weights_fit
  before_exceeds h = rw (lt-leb (before + own) whole (omega arith))

  left_of_the_whole : before ≤ whole → leb own (whole - before) ≡ leb (before + own) whole
  left_of_the_whole h = go (leb own (whole - before)) refl
    where
      go : (t : Bool) → leb own (whole - before) ≡ t → leb own (whole - before) ≡ leb (before + own) whole
      go true e = e ∙ sym (le-leb (before + own) whole (omega (arith, leb-true own (whole - before) e)))
      go false e = e ∙ sym (lt-leb (before + own) whole (omega (arith, leb-false own (whole - before) e)))

  pub own_left : before ≤ whole → leb own (whole - before) && leb whole greatest_whole ≡ weights_fit before own whole
  unfolding weights_fit
  own_left h = ap (λ (t : Bool). t && leb whole greatest_whole) (left_of_the_whole h)

-- 18, then 13
module _ (s : Spread) (own j : ℕ) {fits : Bool} (fits-is : fits ≡ weights_fit s.before own s.whole) where
  pub exceeded : fits ≡ false → refused whole_exceeded j ≡ first (spread_checks s own j)
  unfolding spread_checks
  exceeded e = test_refuses _ (sym fits-is ∙ e)

  module _ (passed : fits ≡ true) {follows : Bool} (follows_is : follows ≡ follows_whole s.e_wh s.whole) where
    pub nothing_there : follows ≡ false → refused nothing_to_follow j ≡ first (spread_checks s own j)
    unfolding spread_checks
    nothing_there e = test_passes whole_exceeded j _ (sym fits-is ∙ passed) (test_refuses _ (sym follows_is ∙ e))

    pub both_hold : follows ≡ true → accepted ≡ first (spread_checks s own j)
    unfolding spread_checks
    both_hold e =
        test_passes whole_exceeded j _ (sym fits-is ∙ passed)
        (test_passes nothing_to_follow j _ (sym follows_is ∙ e) none_left)
