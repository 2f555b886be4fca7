-- The largest remainders told by a threshold, and the loops that find it. A rank is how many have more and how many of the lower numbers have as much. So who
-- has more than the threshold v comes among those that have more, at most `left`; who has less comes after all that have more than its own, at least `left`;
-- and who has just v comes after those that have more and the lower numbers at v.
use mathlib.Core.List.{List}
use mathlib.Core.Logic.{◌⊎◌, inl, inr, ⊎_elim}
use mathlib.Core.Path.{◌≡◌, refl, sym, ◌∙◌, ap}
use Prim.Native.Nat.{ℕ, suc, ◌+◌, ◌-◌, ◌≤◌, ◌<◌, zero-le}
use native.Mathlib.Nat.{le_antisymm, le_trans, eq-or-lt_of_le, not-suc-le-zero}
use native.Mathlib.Numerals.{add-one}
use native.Mathlib.Omega.{arith}
use borrow.Author.Tests.{eq-eqb, ne_eqb}
use lib.Bits.{bit_and, bit_or, or_add_and, and_le_l, and_le_r}
use lib.Dec.{ltb}
use lib.ListN.{get_or}
use Rattle.apportion.specs.Tests.{below_number, same_number, before_number}
use Rattle.apportion.specs.Threshold.{how_many_above, how_many_at, Threshold, Cut}
use Rattle.rules.specs.LargestRemainder.{rank, one_each}
use Rattle.rules.specs.Words.{sum, count, at}
use Rattle.rules.proofs.LargestRemainder.{less, less_cases, less_one, less_zero, less_at_most_one, less_same, before, before_is, tie_break_orders}
use Rattle.rules.proofs.Sums.{sum_cong, sum_add, sum_le, sum_lt, sum_split}
use Rattle.apportion.proofs.Order.{larger_first, smaller_later, equal_by_number}

same_one : (a b : ℕ) → a ≡ b → same_number a b ≡ 1
same_one a b e = rw (eq-eqb a b e)

same_zero : (a b : ℕ) → (a ≡ b → ⊥) → same_number a b ≡ 0
same_zero a b e = rw (ne_eqb a b e)

-- less, equal or more
three_ways : (a b : ℕ) → (a < b) ⊎ ((a ≡ b) ⊎ (b < a))
three_ways a b =
    ⊎_elim (λ (l : (a < b) × (less a b ≡ 1)). inl l.0)
    (λ (g : (b ≤ a) × (less a b ≡ 0)). inr (⊎_elim (λ (e : b ≡ a). inl (sym e)) (λ (l : b < a). inr l) (eq-or-lt_of_le g.0)))
    (less_cases a b)

less_more : (a b c d : ℕ) → (a < b → c < d) → less a b ≤ less c d
less_more a b c d to =
    ⊎_elim (λ (l : (a < b) × (less a b ≡ 1)). omega (arith, l.1, less_one c d (to l.0)))
    (λ (g : (b ≤ a) × (less a b ≡ 0)). omega (arith, g.1))
    (less_cases a b)

alike : (a b : ℕ) → (a ≡ b) ⊎ (a ≡ b → ⊥)
alike a b =
    ⊎_elim (λ (l : a < b). inr (λ e. omega arith)) (⊎_elim (λ (e : a ≡ b). inl e) (λ (l : b < a). inr (λ e. omega arith))) (three_ways a b)

above_one_more : (n : ℕ) (rest : ℕ → ℕ) (v : ℕ) → how_many_above (suc n) rest v ≡ how_many_above n rest v + below_number v (rest n)
unfolding how_many_above count sum
above_one_more n rest v = refl

module _ (n : ℕ) (rest : ℕ → ℕ) where
  -- the higher the value, the fewer have more
  above_falls : (u v : ℕ) → u ≤ v → how_many_above n rest v ≤ how_many_above n rest u
  unfolding how_many_above count
  above_falls u v h = sum_le n (λ j b. less_more v (rest j) u (rest j) (λ l. omega arith))

  -- who has more than v has a rank among those that do
  rank_over : (v i : ℕ) → i < n → v < rest i → rank n rest i < how_many_above n rest v
  unfolding rank how_many_above count
  rank_over v i b h =
      sum_lt n
      (λ j c. rw (before_is rest j i) (less_more (rest i) (rest j + less j i) v (rest j) (λ l. omega (arith, less_at_most_one j i))))
      b
      (omega (arith, (tie_break_orders rest).self i, less_one v (rest i) h))

  -- no rank is below the number of those that have more
  rank_under : (i : ℕ) → how_many_above n rest (rest i) ≤ rank n rest i
  unfolding rank how_many_above count
  rank_under i =
      sum_le n (λ j c. rw (before_is rest j i) (less_more (rest i) (rest j) (rest i) (rest j + less j i) (λ l. omega arith)))

-- and besides these only the lower numbers that have as much come before
before_lower : (rest : ℕ → ℕ) (i j : ℕ) → j < i → before rest j i ≡ less (rest i) (rest j) + same_number (rest j) (rest i)
before_lower rest i j b =
    ⊎_elim
    (λ (l : rest i < rest j).
    omega (arith, before_is rest j i, less_one (rest i) (rest j + less j i) (omega arith), less_one (rest i) (rest j) l, same_zero (rest j) (rest i) (λ e. omega arith)))
    (⊎_elim
    (λ (e : rest i ≡ rest j).
    omega (arith, before_is rest j i, less_one (rest i) (rest j + less j i) (omega (arith, less_one j i b)), less_zero (rest i) (rest j) (omega arith), same_one (rest j) (rest i) (sym e)))
    (λ (l : rest j < rest i).
    let behind = less_zero (rest i) (rest j + less j i) (omega (arith, less_at_most_one j i)) in
    omega (arith, before_is rest j i, behind, less_zero (rest i) (rest j) (omega arith), same_zero (rest j) (rest i) (λ e. omega arith))))
    (three_ways (rest i) (rest j))

before_higher : (rest : ℕ → ℕ) (i j : ℕ) → i ≤ j → before rest j i ≡ less (rest i) (rest j)
before_higher rest i j b =
    let z : less j i ≡ 0 = less_zero j i b in
    let e : rest j + less j i ≡ rest j = omega arith in
    before_is rest j i ∙ ap (λ (x : ℕ). less (rest i) x) e

rank_is : (n : ℕ) (rest : ℕ → ℕ) (i : ℕ) → i ≤ n → rank n rest i ≡ how_many_above n rest (rest i) + how_many_at i rest (rest i)
unfolding rank how_many_above how_many_at count
rank_is n rest i b =
    let whole : i + (n - i) ≡ n = omega arith in
    let more : ℕ → ℕ = λ j. less (rest i) (rest j) in
    let lower : sum i (λ j. before rest j i) ≡ sum i (λ j. more j + same_number (rest j) (rest i)) = sum_cong i (λ j c. before_lower rest i j c) in
    let higher : sum (n - i) (λ k. before rest (i + k) i) ≡ sum (n - i) (λ k. more (i + k)) = sum_cong (n - i) (λ k c. before_higher rest i (i + k) (omega arith)) in
    omega (
      arith,
      lower,
      higher,
      sum_add i more (λ j. same_number (rest j) (rest i)),
      sum_split i (n - i) (λ j. before rest j i),
      sum_split i (n - i) more,
      ap (λ (m : ℕ). sum m (λ j. before rest j i)) whole,
      ap (λ (m : ℕ). sum m more) whole,
    )

-- the more numbers, the more that have just v
at_rises : (rest : ℕ → ℕ) (v i k : ℕ) → i ≤ k → how_many_at i rest v ≤ how_many_at k rest v
unfolding how_many_at count
at_rises rest v i k b =
    let whole : i + (k - i) ≡ k = omega arith in
    let test : ℕ → ℕ = λ j. same_number (rest j) v in
    omega (arith, sum_split i (k - i) test, ap (λ (m : ℕ). sum m test) whole)

at_one_more : (n : ℕ) (rest : ℕ → ℕ) (v : ℕ) → how_many_at (suc n) rest v ≡ how_many_at n rest v + same_number (rest n) v
unfolding how_many_at count sum
at_one_more n rest v = refl

-- WHO HAS ONE: those that come before the threshold and the cut in the order of the remainders.
pub gets :
    {n : ℕ} {rest : ℕ → ℕ} {left v over cut i : ℕ}
    → Threshold n rest left v
    → over ≡ how_many_above n rest v
    → Cut n rest v (left - over) cut
    → i < n
    → before_number (rest i) v (ltb i cut) ≡ one_each n rest left i
unfolding one_each
gets {n} {rest} {left} {v} {over} {cut} {i} threshold is c b =
    ⊎_elim
    (λ (l : rest i < v).
    smaller_later (rest i) v (ltb i cut) l
    ∙ sym (less_zero (rank n rest i) left (le_trans (threshold.enough (rest i) l) (rank_under n rest i))))
    (⊎_elim
    (λ (e : rest i ≡ v).
    let r : rank n rest i ≡ how_many_above n rest v + how_many_at i rest v = rw e at (rank_is n rest i (omega arith)) in
    equal_by_number (rest i) v (ltb i cut) (omega arith) (omega arith)
    ∙ less_same i cut (rank n rest i) left
    (λ l. omega (arith, c.within i l))
    (λ l. ⊎_elim (λ (d : (i < cut) × (less i cut ≡ 1)). d.0) (λ (d : (cut ≤ i) × (less i cut ≡ 0)). omega (arith, c.past i d.0 b)) (less_cases i cut)))
    (λ (l : v < rest i).
    larger_first (rest i) v (ltb i cut) l
    ∙ sym (less_one (rank n rest i) left (omega (arith, rank_over n rest v i b l, threshold.few)))))
    (three_ways (rest i) v)

pub bits_of_both : (a b : ℕ) → (a ≤ bit_or a b) × (b ≤ bit_or a b)
bits_of_both a b =
    let parts : bit_or a b + bit_and a b ≡ a + b = or_add_and a b in
    (omega (arith, and_le_r a b), omega (arith, and_le_l a b))

-- A loop that has a value which none of the first i of n is above.
pub record Bounded (rest : List ℕ) (n most i : ℕ) : Type 0 where
  pub bound : i ≤ n
  pub none : how_many_above i (at rest) most ≡ 0

pub bounded_start : (rest : List ℕ) (n : ℕ) → Bounded rest n 0 0
unfolding how_many_above count sum
bounded_start rest n = record { bound = zero-le; none = refl }

pub bounded_next : {rest : List ℕ} {n most i next : ℕ} → Bounded rest n most i → i < n → (most ≤ next) × (get_or rest i 0 ≤ next) → Bounded rest n next (i + 1)
unfolding at
bounded_next {rest} {n} {most} {i} {next} l b h =
    record {
      bound = omega arith;
      none = rw (add-one i) (omega (arith, above_one_more i (at rest) next, above_falls i (at rest) most next h.0, less_zero next (get_or rest i 0) h.1, l.none));
    }

pub bounded_end : {rest : List ℕ} {n most i : ℕ} → Bounded rest n most i → n ≤ i → how_many_above n (at rest) most ≡ 0
bounded_end {rest} {n} {most} {i} l b =
    let e : n ≡ i = le_antisymm b l.bound in
    ap (λ (k : ℕ). how_many_above k (at rest) most) e ∙ l.none

-- A loop that has counted from the last of n down to i.
pub record Counting (rest : List ℕ) (n v over i : ℕ) : Type 0 where
  pub small : over + i ≤ n
  pub counted : over + how_many_above i (at rest) v ≡ how_many_above n (at rest) v

pub count_start : (rest : List ℕ) (n v : ℕ) → Counting rest n v 0 n
count_start rest n v = record { small = omega arith; counted = omega arith }

pub count_next :
    {rest : List ℕ} {n v over i one : ℕ}
    → Counting rest n v over i
    → 0 < i
    → one ≡ below_number v (get_or rest (i - 1) 0)
    → Counting rest n v (over + one) (i - 1)
unfolding at
count_next {rest} {n} {v} {over} {i} {one} c b e =
    let same_place : suc (i - 1) ≡ i = omega arith in
    record {
      small = omega (arith, e, less_at_most_one v (get_or rest (i - 1) 0), c.small);
      counted = omega (arith, above_one_more (i - 1) (at rest) v, ap (λ (k : ℕ). how_many_above k (at rest) v) same_place, c.counted, e);
    }

pub count_end : {rest : List ℕ} {n v over i : ℕ} → Counting rest n v over i → i ≤ 0 → over ≡ how_many_above n (at rest) v
unfolding how_many_above count sum
count_end {rest} {n} {v} {over} {i} c b =
    let none : i ≡ 0 = omega arith in
    omega (arith, c.counted, ap (λ (k : ℕ). how_many_above k (at rest) v) none)

-- A loop that has the threshold between two values.
pub record Halving (n : ℕ) (rest : ℕ → ℕ) (left low high : ℕ) : Type 0 where
  pub order : low ≤ high
  pub fits : high < 18446744073709551616
  pub few : how_many_above n rest high ≤ left
  pub enough : (u : ℕ) → u < low → left ≤ how_many_above n rest u

pub halving_start : {n : ℕ} {rest : ℕ → ℕ} {left high : ℕ} → high < 18446744073709551616 → how_many_above n rest high ≡ 0 → Halving n rest left 0 high
halving_start f e = record { order = zero-le; fits = f; few = omega (arith, e); enough = λ u b. absurd (not-suc-le-zero b) }

module _ {n : ℕ} {rest : ℕ → ℕ} {left low high middle over : ℕ} (h : Halving n rest left low high) (is : over ≡ how_many_above n rest middle) where
  pub halving_stops : over ≡ left → Threshold n rest left middle
  halving_stops e =
      record { few = omega (arith, e, is); enough = λ u b. omega (arith, e, is, above_falls n rest u middle (omega arith)) }

  pub halving_up : middle < high → left < over → Halving n rest left (middle + 1) high
  halving_up m l =
      record { order = omega arith; fits = h.fits; few = h.few; enough = λ u b. omega (arith, l, is, above_falls n rest u middle (omega arith)) }

  pub halving_down : low ≤ middle → middle < high → over ≤ left → Halving n rest left low middle
  halving_down m f l = record { order = m; fits = omega (arith, h.fits); few = omega (arith, l, is); enough = h.enough }

pub halving_end : {n : ℕ} {rest : ℕ → ℕ} {left low high : ℕ} → Halving n rest left low high → high ≤ low → Threshold n rest left high
halving_end h b = record { few = h.few; enough = λ u l. h.enough u (omega arith) }

-- A loop that has passed the first i of n and met fewer than `spare` that have just v.
pub record Cutting (rest : List ℕ) (n v spare given i : ℕ) : Type 0 where
  pub bound : i ≤ n
  pub small : given ≤ i
  pub room : given ≤ spare
  pub so_far : given ≡ how_many_at i (at rest) v
  pub within : (k : ℕ) → k < i → how_many_at k (at rest) v < spare

pub cut_start : (rest : List ℕ) (n v spare : ℕ) → Cutting rest n v spare 0 0
unfolding how_many_at count sum
cut_start rest n v spare = record { bound = zero-le; small = zero-le; room = zero-le; so_far = refl; within = λ k b. absurd (not-suc-le-zero b) }

module _ {rest : List ℕ} {n v spare given i : ℕ} (c : Cutting rest n v spare given i) where
  pub cut_stops : given ≡ spare → Cut n (at rest) v spare i
  cut_stops e =
      record { within = c.within; past = λ k b l. omega (arith, e, c.so_far, at_rises (at rest) v i k b) }

  pub cut_end : n ≤ i → Cut n (at rest) v spare n
  cut_end b = record { within = λ k l. c.within k (omega arith); past = λ k l m. omega arith }

  module _ {one : ℕ} (b : i < n) (e : one ≡ same_number (get_or rest i 0) v) where
    cut_one : one ≤ 1
    cut_one =
        ⊎_elim
        (λ (s : get_or rest i 0 ≡ v). omega (arith, e, same_one (get_or rest i 0) v s))
        (λ (d : get_or rest i 0 ≡ v → ⊥). omega (arith, e, same_zero (get_or rest i 0) v d))
        (alike (get_or rest i 0) v)

    pub cut_next : (given ≡ spare → ⊥) → Cutting rest n v spare (given + one) (i + 1)
    unfolding at
    cut_next d =
        let more : given < spare = omega (arith, d, c.room) in
        record {
          bound = omega arith;
          small = omega (arith, cut_one, c.small);
          room = omega (arith, cut_one);
          so_far = rw (add-one i) (omega (arith, at_one_more i (at rest) v, c.so_far, e));
          within = λ k l. ⊎_elim (λ (at_i : k ≡ i). rw at_i (omega (arith, c.so_far))) (λ (below-i : k < i). c.within k below-i) (eq-or-lt_of_le (omega arith));
        }
