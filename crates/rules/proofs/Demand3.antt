-- DEMAND 3. The floors of share x R / W and what is left over add up to R, and no one without a remainder gets one of the left-over Wh.
-- So a running sum is the exact share rounded down or up; an hour's figures, being growths, add up to the hour's residual; over a run two such
-- roundings meet; and of two shares the larger has the larger floor or, the floors being equal, the larger remainder.
use mathlib.Core.Logic.{◌⊎◌, inl, inr, ⊎_elim}
use mathlib.Core.Path.{◌≡◌, sym, ◌∙◌, ap, ap₂}
use Prim.Native.Nat.{ℕ, suc, ◌+◌, ◌*◌, ◌/◌, ◌≤◌, ◌<◌}
use native.Mathlib.Nat.{div-add-mod', mod-lt, le_of_mul-le-mul_right, lt_of_mul-lt-mul_right, le_of_lt, eq-zero-or-pos, eq-or-lt_of_le}
use native.Mathlib.Nat.{mul-le-mul_right, mul-add, mul-zero, div-eq_of_lt-le, add-zero, zero-add, zero-mul}
use native.Mathlib.Omega.{arith}
use lib.Dec.{le→leb}
use lib.IntN.{pos, negsuc, ◌-ℤ◌}
use lib.Signed.{◌≤ℤ◌}
use Rattle.rules.specs.Demands.{sum_over, sum_since_first, exact_share, down, up, distance, Demand3}
use Rattle.rules.specs.Distributed.{rounded_down, remainder, left_over, running_sum, running_after, distributed_figure}
use Rattle.rules.specs.LargestRemainder.{one_each}
use Rattle.rules.specs.Flows.{W}
use Rattle.rules.specs.Words.{sum, sum_ℤ}
use Rattle.rules.proofs.Integers.{minus_cong, minus_near, minus_at_least, minus_at_most, minus_scale, minus_minus, pos_minus_zero, growths_add_up, sum_ℤ_minus}
use Rattle.rules.proofs.LargestRemainder.{LeftOver, all_handed_out, none_for_none, gets, larger_gets_too, one_at_most}
use Rattle.rules.proofs.Sums.{sum_add, sum_scale, sum_cong, sum_member, sum_split}

module _ (n : ℕ) (share : ℕ → ℕ) (some : 0 < W n share) where
  -- One division, for each r: share x r is floor x W and the remainder.
  pub divided : (r i : ℕ) → share i * r ≡ rounded_down n share r i * W n share + remainder n share r i
  unfolding rounded_down remainder
  divided r i = sym (div-add-mod' (share i * r) (W n share))

  pub remainder_below : (r i : ℕ) → remainder n share r i < W n share
  unfolding remainder
  remainder_below r i = mod-lt (share i * r) some

  floors : ℕ → ℕ
  floors r = sum n (rounded_down n share r)

  remainders : ℕ → ℕ
  remainders r = sum n (remainder n share r)

  -- all floors and all remainders make the whole
  whole : (r : ℕ) → r * W n share ≡ floors r * W n share + remainders r
  unfolding floors remainders W
  whole r =
      let products : sum n (λ i. share i * r) ≡ sum n share * r = sum_scale n share r in
      let parts : sum n (λ i. share i * r) ≡ sum n (λ i. rounded_down n share r i * sum n share + remainder n share r i) = sum_cong n (λ i b. divided r i) in
      let split : sum n (λ i. rounded_down n share r i * sum n share + remainder n share r i) ≡ sum n (λ i. rounded_down n share r i * sum n share) + sum n (remainder n share r) =
      sum_add n (λ i. rounded_down n share r i * sum n share) (remainder n share r) in
      omega (arith, sum_scale n (rounded_down n share r) (sum n share))

  floors_at_most : (r : ℕ) → floors r ≤ r
  floors_at_most r = le_of_mul-le-mul_right (omega (arith, whole r)) some

  left_is : (r : ℕ) → left_over n share r * W n share ≡ remainders r
  unfolding left_over floors
  left_is r =
      let fewer : floors r ≤ r = floors_at_most r in
      let back : left_over n share r + floors r ≡ r = omega arith in
      omega (arith, whole r, ap (λ (x : ℕ). x * W n share) back)

  -- what the rule hands out by
  left_over_lem : (r : ℕ) → LeftOver n (W n share) (remainder n share r) (left_over n share r)
  unfolding remainders
  left_over_lem r = record { some = some; below = remainder_below r; in_all = left_is r }

  share_at_most_W : (i : ℕ) → i < n → share i ≤ W n share
  unfolding W
  share_at_most_W i b = sum_member n share b

  -- THE RUNNING SUMS ADD UP
  pub running_adds_up : (r : ℕ) → sum n (running_sum n share r) ≡ r
  unfolding running_sum left_over floors
  running_adds_up r =
      let given : sum n (one_each n (remainder n share r) (left_over n share r)) ≡ left_over n share r = all_handed_out (left_over_lem r) in
      omega
      (arith, sum_add n (rounded_down n share r) (one_each n (remainder n share r) (left_over n share r)), floors_at_most r)

  -- what a party gets of the left-over Wh: none, or one and it has a remainder
  gets_wh : (r i : ℕ) → (one_each n (remainder n share r) (left_over n share r) i ≡ 0) ⊎ ((one_each n (remainder n share r) (left_over n share r) i ≡ 1) × (0 < remainder n share r i))
  gets_wh r = gets (left_over_lem r)

  -- A RUNNING SUM IS LESS THAN 1 WH FROM THE EXACT SHARE
  pub running_below : (r i : ℕ) → running_sum n share r i * W n share < share i * r + W n share
  unfolding running_sum
  running_below r i =
      ⊎_elim
      (λ (z : one_each n (remainder n share r) (left_over n share r) i ≡ 0). rw z (omega (arith, divided r i, some)))
      (λ (o : (one_each n (remainder n share r) (left_over n share r) i ≡ 1) × (0 < remainder n share r i)).
      rw o.0 (omega (arith, divided r i, o.1)))
      (gets_wh r i)

  pub running_above : (r i : ℕ) → share i * r < running_sum n share r i * W n share + W n share
  unfolding running_sum
  running_above r i = omega (arith, divided r i, remainder_below r i)

  running_none : (r i : ℕ) → share i * r ≡ 0 → running_sum n share r i ≡ 0
  running_none r i z =
      let below : running_sum n share r i < 1 = lt_of_mul-lt-mul_right (W n share) (omega (arith, running_below r i)) in
      omega arith

  -- D2: a share of 0 always has 0.
  pub no_share_no_sum : (r i : ℕ) → share i ≡ 0 → running_sum n share r i ≡ 0
  no_share_no_sum r i z = running_none r i (rw z (zero-mul r))

  -- "(0 before hour 0)"
  pub nothing_before_hour_0 : (i : ℕ) → running_sum n share 0 i ≡ 0
  nothing_before_hour_0 i = running_none 0 i (mul-zero (share i))

  -- rounded down or up
  running_rounded : (r i : ℕ) → (running_sum n share r i ≡ down (W n share) (exact_share share r i)) ⊎ (running_sum n share r i ≡ up (W n share) (exact_share share r i))
  unfolding running_sum rounded_down down up exact_share
  running_rounded r i =
      ⊎_elim (λ (z : one_each n (remainder n share r) (left_over n share r) i ≡ 0). inl (rw z (add-zero (share i * r / W n share))))
      (λ (o : (one_each n (remainder n share r) (left_over n share r) i ≡ 1) × (0 < remainder n share r i)).
      inr
      (rw o.0
      (sym
      (div-eq_of_lt-le {k = share i * r / W n share + 1} (W n share) (omega (arith, divided r i, o.1, some)) (omega (arith, divided r i, remainder_below r i))))))
      (gets_wh r i)

  -- the floor of the larger share is not the smaller
  floors_rise : (r i j : ℕ) → share j < share i → rounded_down n share r j ≤ rounded_down n share r i
  floors_rise r i j h =
      let below : rounded_down n share r j < rounded_down n share r i + 1 =
      lt_of_mul-lt-mul_right (W n share) (omega (arith, divided r i, divided r j, remainder_below r i, mul-le-mul_right r (le_of_lt h))) in
      omega arith

  -- A LARGER SHARE NEVER HAS THE SMALLER SUM
  pub larger_never_less : (r i j : ℕ) → share j < share i → running_sum n share r j ≤ running_sum n share r i
  unfolding running_sum
  larger_never_less r i j h =
      ⊎_elim
      (λ (e : rounded_down n share r j ≡ rounded_down n share r i). omega (arith, same_floor e))
      (λ (l : rounded_down n share r j < rounded_down n share r i).
      omega (arith, one_at_most n (remainder n share r) (left_over n share r) j))
      (eq-or-lt_of_le (floors_rise r i j h))
    where
      same_floor : rounded_down n share r j ≡ rounded_down n share r i → one_each n (remainder n share r) (left_over n share r) j ≤ one_each n (remainder n share r) (left_over n share r) i
      same_floor e =
          ⊎_elim
          (λ (z : r ≡ 0).
          let none : remainder n share r j ≡ 0 = omega (arith, divided r j, ap (λ (x : ℕ). share j * x) z) in
          omega (arith, none_for_none (left_over_lem r) j none))
          (λ (p : 0 < r).
          let more : remainder n share r j < remainder n share r i = omega (arith, divided r i, divided r j, ap (λ (x : ℕ). x * W n share) e, mul-le-mul_right r h) in
          larger_gets_too n (remainder n share r) (left_over n share r) i j more)
          (eq-zero-or-pos r)

  module _ (residual : ℕ → ℕ) where
    -- the figures of a run add up to what the running sum grew by
    pub sum_over_is : (start hours i : ℕ) → sum_over n share residual start hours i ≡ pos (running_after n share residual (start + hours) i) -ℤ pos (running_after n share residual start i)
    unfolding sum_over distributed_figure
    sum_over_is start hours i = growths_add_up (λ k. running_after n share residual k i) start hours

    pub sum_since_first_is : (hours i : ℕ) → sum_since_first n share residual hours i ≡ pos (running_after n share residual hours i)
    unfolding sum_since_first running_after sum
    sum_since_first_is hours i =
        sum_over_is 0 hours i
        ∙ ap₂ (λ (k x : ℕ). pos (running_after n share residual k i) -ℤ pos x) (zero-add hours) (nothing_before_hour_0 i)
        ∙ pos_minus_zero (running_after n share residual hours i)

    hour_adds_up : (t : ℕ) → sum_ℤ n (distributed_figure n share residual t) ≡ pos (residual t)
    unfolding distributed_figure running_after sum
    hour_adds_up t =
        sum_ℤ_minus n (running_sum n share (sum t residual + residual t)) (running_sum n share (sum t residual))
        ∙ ap₂ (λ (x y : ℕ). pos x -ℤ pos y) (running_adds_up (sum t residual + residual t)) (running_adds_up (sum t residual))
        ∙ minus_cong (sum t residual + residual t) (sum t residual) (residual t) 0 (omega arith)
        ∙ pos_minus_zero (residual t)

    hours_rounded :
        (hours i : ℕ)
        → (sum_since_first n share residual hours i ≡ pos (down (W n share) (exact_share share (sum hours residual) i))) ⊎ (sum_since_first n share residual hours i ≡ pos (up (W n share) (exact_share share (sum hours residual) i)))
    unfolding running_after
    hours_rounded hours i =
        ⊎_elim (λ d. inl (sum_since_first_is hours i ∙ ap pos d)) (λ u. inr (sum_since_first_is hours i ∙ ap pos u))
        (running_rounded (sum hours residual) i)

    run_near : (start hours i : ℕ) → distance (W n share) (sum_over n share residual start hours i) (exact_share share (sum hours (λ t. residual (start + t))) i) < 2 * W n share
    unfolding distance exact_share running_after
    run_near start hours i =
        let a : ℕ = running_sum n share (sum (start + hours) residual) i in
        let b : ℕ = running_sum n share (sum start residual) i in
        let d : ℕ = sum hours (λ t. residual (start + t)) in
        let apart : sum (start + hours) residual ≡ sum start residual + d = sum_split start hours residual in
        let exact : share i * sum (start + hours) residual ≡ share i * sum start residual + share i * d = ap (λ (x : ℕ). share i * x) apart ∙ mul-add (share i) (sum start residual) d in
        rw (sum_over_is start hours i)
        (rw (minus_scale a b (W n share))
        (rw (minus_minus (a * W n share) (b * W n share) (share i * d))
        (minus_near (a * W n share) (b * W n share + share i * d) (2 * W n share)
        (omega
        (arith, exact, running_below (sum (start + hours) residual) i, running_above (sum start residual) i))
        (omega
        (arith, exact, running_above (sum (start + hours) residual) i, running_below (sum start residual) i)))))

    sum_larger : (hours i j : ℕ) → share j < share i → sum_since_first n share residual hours j ≤ℤ sum_since_first n share residual hours i
    unfolding running_after
    sum_larger hours i j h =
        rw (sum_since_first_is hours j, sum_since_first_is hours i)
        (record { le = le→leb _ _ (larger_never_less (sum hours residual) i j h) })

    -- DEMAND 3, for every number of parties, all shares with W from 1 up, all residuals.
    pub demand_3 : Demand3 n share residual
    demand_3 = record { adds_up_holds = hour_adds_up; rounded = hours_rounded; near = run_near; larger = sum_larger }

    -- from one hour to the next a running sum falls by at most 1 and grows by at most the residual and 1
    pub growth_in_range :
        (t i : ℕ)
        → i < n
        → (running_after n share residual t i ≤ running_after n share residual (suc t) i + 1) × (running_after n share residual (suc t) i ≤ running_after n share residual t i + residual t + 1)
    unfolding running_after sum
    growth_in_range t i b =
        let r : ℕ = sum t residual in
        let x : ℕ = residual t in
        let grown : share i * (r + x) ≡ share i * r + share i * x = mul-add (share i) r x in
        let at_most : share i * x ≤ W n share * x = mul-le-mul_right x (share_at_most_W i b) in
        let fall : running_sum n share r i < running_sum n share (r + x) i + 2 = lt_of_mul-lt-mul_right (W n share) (omega (arith, grown, running_below r i, running_above (r + x) i)) in
        let rise : running_sum n share (r + x) i < running_sum n share r i + x + 2 =
        lt_of_mul-lt-mul_right (W n share) (omega (arith, grown, at_most, running_above r i, running_below (r + x) i)) in
        (omega arith, omega arith)

    -- "A figure can be -1 (D3)": a figure lies in -1 .. residual + 1.
    pub figure_bounds : (t i : ℕ) → i < n → (negsuc 0 ≤ℤ distributed_figure n share residual t i) × (distributed_figure n share residual t i ≤ℤ pos (residual t + 1))
    unfolding distributed_figure
    figure_bounds t i b =
        let bounds = growth_in_range t i b in (
          minus_at_least (running_after n share residual (suc t) i) (running_after n share residual t i) 0 bounds.0,
          minus_at_most (running_after n share residual (suc t) i) (running_after n share residual t i) (residual t + 1) (omega arith),
        )
