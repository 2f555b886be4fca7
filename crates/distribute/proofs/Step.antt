-- One hour on: why the carries are the definition's. The floor of share x (R + r) / W is that of share x R / W and what the kept remainder and share x r
-- divide to; so remainders, what is left over and who gets it follow, and the figure is the growth of the running sum.
use mathlib.Core.List.{List}
use mathlib.Core.Path.{◌≡◌, refl, sym, ◌∙◌, ap, ap₂}
use Prim.Native.Nat.{ℕ, ◌+◌, ◌-◌, ◌*◌, ◌/◌, ◌%◌, ◌≤◌, ◌<◌}
use native.Mathlib.Nat.{le_trans, mod-lt, mul-add, mul-le-mul, mod-add-mod}
use native.Mathlib.Omega.{arith}
use lib.IntN.{ℤ, pos}
use Rattle.distribute.specs.declared.Carries.{Carries}
use Rattle.distribute.specs.declared.Divided.{Divided}
use Rattle.apportion.specs.Filled.{Filled}
use Rattle.distribute.specs.Good.{Ready, Next, share_in, extra_after, figure_after}
use Rattle.distribute.specs.Parts.{grown_by, quotient_by, rest_by, DividedBy, figure_by, SmallParts}
use Rattle.apportion.proofs.Arrays.{filled_as}
use Rattle.rules.specs.Distributed.{rounded_down, remainder, left_over, running_sum}
use Rattle.rules.specs.LargestRemainder.{one_each}
use Rattle.rules.specs.Flows.{W}
use Rattle.rules.specs.Limits.{greatest_w}
use Rattle.rules.specs.Words.{sum, at}
use Rattle.rules.proofs.Demand3.{running_adds_up}
use Rattle.rules.proofs.Integers.{minus_cong}
use Rattle.rules.proofs.LargestRemainder.{one_at_most, one_each_cong}
use Rattle.rules.proofs.Periodised.{carry}
use Rattle.rules.proofs.Sums.{sum_add, sum_cong, sum_le, sum_member}

module _ (n : ℕ) (share : ℕ → ℕ) (some : 0 < W n share) where
  floors_at_most : (r : ℕ) → sum n (rounded_down n share r) ≤ r
  unfolding running_sum
  floors_at_most r =
      let parts : sum n (rounded_down n share r) ≤ sum n (running_sum n share r) = sum_le n (λ k b. omega arith) in
      omega (arith, running_adds_up n share some r)

  -- one division more, from r by x
  floor_grows : (r x k : ℕ) → rounded_down n share (r + x) k ≡ rounded_down n share r k + (remainder n share r k + share k * x) / W n share
  unfolding rounded_down remainder
  floor_grows r x k = rw (mul-add (share k) r x) (carry (share k * r) (share k * x) some)

  remainder_moves : (r x k : ℕ) → (remainder n share r k + share k * x) % W n share ≡ remainder n share (r + x) k
  unfolding remainder
  remainder_moves r x k = rw (mul-add (share k) r x) (mod-add-mod (share k * r) (W n share) (share k * x))

-- Everything that the step of a state c by a residual x asks and gives, from what its parts give.
module _ {c : Carries} {x : ℕ} (ready : Ready c x) where
  abbrev n : ℕ
  n = c.parties

  abbrev share : ℕ → ℕ
  share = share_in c

  abbrev r : ℕ
  r = c.sum_wh

  some : 0 < W n share
  some = let e = ready.good.w_is in omega (arith, e, ready.good.some)

  w_fits : W n share ≤ greatest_w
  w_fits = omega (arith, ready.good.w_is, ready.good.w_fits)

  share_fits : (k : ℕ) → k < n → share k ≤ greatest_w
  unfolding W
  share_fits k b = le_trans (sum_member n share b) w_fits

  remainder_fits : (k : ℕ) → remainder n share r k < W n share
  unfolding remainder
  remainder_fits k = mod-lt (share k * r) some

  kept : (k : ℕ) → k < n → at c.remainder k ≡ remainder n share r k
  unfolding at
  kept k b = ready.good.remainders.below k b

  pub grown_fits : (k : ℕ) → k < n → grown_by c.remainder c.share x k < 18446744073709551616
  unfolding grown_by
  grown_fits k b =
      omega (arith, kept k b, remainder_fits k, w_fits, mul-le-mul (share_fits k b) ready.at_most)

  module _ {grown : List ℕ} (grown-filled : Filled 0 (grown_by c.remainder c.share x) n grown) where
    grown_is : (k : ℕ) → k < n → at grown k ≡ remainder n share r k + share k * x
    unfolding at grown_by
    grown_is k b = grown-filled.below k b ∙ ap (λ (y : ℕ). y + share k * x) (kept k b)

    module _ {d : Divided} (divided : DividedBy grown c.w n d) where
      abbrev quotient : List ℕ
      quotient = d.quotient

      quotient_is : (k : ℕ) → k < n → at quotient k ≡ at grown k / c.w
      unfolding at quotient_by
      quotient_is k b = divided.quotients.below k b

      floor_is : (k : ℕ) → k < n → rounded_down n share (r + x) k ≡ rounded_down n share r k + at quotient k
      floor_is k b =
          floor_grows n share some r x k
          ∙ ap (λ (y : ℕ). rounded_down n share r k + y)
          (sym (quotient_is k b ∙ ap₂ (λ (a w : ℕ). a / w) (grown_is k b) ready.good.w_is))

      floors_are : sum n (rounded_down n share (r + x)) ≡ sum n (rounded_down n share r) + sum n (at quotient)
      floors_are = sum_cong n floor_is ∙ sum_add n (rounded_down n share r) (at quotient)

      pub quotients_few : sum n (at quotient) ≤ c.left + x
      unfolding left_over
      quotients_few =
          omega (arith, ready.good.left, floors_are, floors_at_most n share some r, floors_at_most n share some (r + x))

      pub left_few : c.left ≤ r
      unfolding left_over
      left_few = omega (arith, ready.good.left)

      -- what is left over once a total, that of the quotients, is taken away
      pub left_is : {total : ℕ} → total ≡ sum n (at quotient) → c.left + x - total ≡ left_over n share (r + x)
      unfolding left_over
      left_is e =
          omega (arith, e, ready.good.left, floors_are, floors_at_most n share some r, floors_at_most n share some (r + x))

      rest_is : (k : ℕ) → k < n → rest_by grown c.w k ≡ remainder n share (r + x) k
      unfolding rest_by
      rest_is k b = ap₂ (λ (a w : ℕ). a % w) (grown_is k b) ready.good.w_is ∙ remainder_moves n share some r x k

      pub rests_filled : Filled 0 (remainder n share (r + x)) n d.rest
      rests_filled = filled_as divided.rests rest_is

      module _ {left : ℕ} (left-now : left ≡ left_over n share (r + x)) {extra : List ℕ} (extra-filled : Filled 0 (one_each n (at d.rest) left) n extra) where
        pub extras_filled : Filled 0 (extra_after n share (r + x)) n extra
        unfolding at
        extras_filled =
            filled_as extra-filled
            (λ k b.
            one_each_cong n left k (λ j d. rests_filled.below j d) b
            ∙ ap (λ (l : ℕ). one_each n (remainder n share (r + x)) l k) left-now)

        extra_at : (k : ℕ) → k < n → at extra k ≡ extra_after n share (r + x) k
        unfolding at
        extra_at k b = extras_filled.below k b

        had_at : (k : ℕ) → k < n → at c.extra k ≡ extra_after n share r k
        unfolding at
        had_at k b = ready.good.extras.below k b

        pub parts_small : (k : ℕ) → k < n → SmallParts quotient extra c.extra k
        parts_small k b =
            let one = one_at_most n (remainder n share (r + x)) (left_over n share (r + x)) k in
            record {
              grown = omega (arith, sum_member n (at quotient) b, quotients_few, left_few, ready.sum_fits, extra_at k b, one);
              had = omega (arith, had_at k b, one_at_most n (remainder n share r) (left_over n share r) k);
            }

        figure_is : (k : ℕ) → k < n → figure_by quotient extra c.extra k ≡ figure_after n share r x k
        unfolding figure_by figure_after running_sum
        figure_is k b =
            minus_cong (at quotient k + at extra k) (at c.extra k) (running_sum n share (r + x) k) (running_sum n share r k)
            (omega (arith, floor_is k b, extra_at k b, had_at k b))

        module _ {figures : List ℤ} (figures-filled : Filled (pos 0) (figure_by quotient extra c.extra) n figures) where
          pub next :
              Next c x
              (record { parties = n; w = c.w; sum_wh = r + x; left = left; share = c.share; remainder = d.rest; extra = extra; figures = figures })
          next =
              record {
                good = record {
                  few = ready.good.few;
                  some = ready.good.some;
                  w_is = ready.good.w_is;
                  w_fits = ready.good.w_fits;
                  shares = ready.good.shares;
                  remainders = rests_filled;
                  extras = extras_filled;
                  left = left-now;
                };
                parties = refl;
                share = refl;
                sum = refl;
                figures = filled_as figures-filled figure_is;
              }
