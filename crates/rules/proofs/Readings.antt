-- A party's month of periodised figures is the sum of what its readings say of the month: a reading's hours lie within the month, so none of its figures is
-- left out, and they add up to its E or, of one over several months, to this month's part of E.
use mathlib.Core.Bool.{Bool, true, false, cond, ◌&&◌}
use mathlib.Core.Logic.{◌⊎◌, inl, inr, ⊎_elim}
use mathlib.Core.Path.{◌≡◌, refl, sym, ◌∙◌, ap}
use Prim.Native.Nat.{ℕ, ◌+◌, ◌-◌, ◌≤◌, ◌<◌}
use native.Mathlib.Omega.{arith}
use borrow.Author.Tests.{le-leb, lt-leb, lt-ltb, le-ltb, leb-true, eqb-true}
use lib.Dec.{eqb, leb, ltb}
use lib.ListN.{length}
use Rattle.rules.specs.Limits.{greatest_whole}
use Rattle.rules.specs.Month.{reading_at, weight_of, S, weight_before, whole_weight, whole_of, reading_figure, figure_for, periodised, month_periodised, energy_of, energy_for}
use Rattle.rules.specs.Month.{read_energy, weights_fit, follows_whole, reading_checks, reading_verdict, month_checks, month_verdict}
use Rattle.rules.specs.MonthFile.{MonthFile, H, P}
use Rattle.rules.specs.Periodised.{periodised_figure, part_of_e}
use Rattle.rules.specs.Record.{Over, this_month, many_months, Reading}
use Rattle.rules.specs.Refusals.{accepted}
use Rattle.rules.specs.Setting.{Setting}
use Rattle.rules.specs.Words.{sum}
use Rattle.rules.proofs.Periodised.{figures_add_up, part_is_all}
use Rattle.rules.proofs.Refusals.{accepted_exactly, in_turn_exactly, unless_exactly}
use Rattle.rules.proofs.Sums.{sum_cong, sum_split, sum_swap, sum_zero}
use Rattle.rules.proofs.Whole.{Whole, ReadingRight, every_at, both_pass, one_passes}

-- figures that stand in the hours from a to before b, and nowhere else: over h hours they add up to what they add up to over their own
module _ (a b h : ℕ) (f : ℕ → ℕ) (rises : a ≤ b) (within : b ≤ h) where
  abbrev placed : ℕ → ℕ
  placed t = cond (leb a t && ltb t b) (f (t - a)) 0

  before : (t : ℕ) → t < a → placed t ≡ 0
  before t l = rw (lt-leb a t l)

  among : (k : ℕ) → k < b - a → placed (a + k) ≡ f k
  among k l =
      let back : a + k - a ≡ k = omega arith in
      rw (le-leb a (a + k) (omega arith), lt-ltb (a + k) b (omega arith), back)

  behind : (k : ℕ) → placed (a + (b - a + k)) ≡ 0
  behind k = rw (le-leb a (a + (b - a + k)) (omega arith), le-ltb (a + (b - a + k)) b (omega arith))

  pub sum_placed : sum h placed ≡ sum (b - a) f
  sum_placed =
      let whole : a + (b - a + (h - b)) ≡ h = omega arith in
      let first = sum_split a (b - a + (h - b)) placed in
      let second = sum_split (b - a) (h - b) (λ k. placed (a + k)) in
      let none = sum_zero a {f = placed} before in
      let own = sum_cong (b - a) {f = λ k. placed (a + k)} {g = f} among in
      let after = sum_zero (h - b) {f = λ k. placed (a + (b - a + k))} (λ k l. behind k) in
      omega (arith, ap (λ (n : ℕ). sum n placed) whole, first, second, none, own, after)

-- A READING ADDS UP to its E where it lies in this month, if it has E = 0 or S > 0 (13), and else to this month's part of E
part_is_energy : (e own : ℕ) (over : Over) → (e ≡ 0) ⊎ (0 < whole_weight over own) → part_of_e e (weight_before over) own (whole_weight over own) ≡ energy_of over e own
unfolding weight_before whole_weight energy_of
part_is_energy e own this_month c = part_is_all e own c
part_is_energy e own (many_months before whole) c = refl

module _ (m : MonthFile) (r : Reading) where
  abbrev own_figures : ℕ → ℕ
  own_figures = periodised_figure r.e (weight_before r.over) (whole_of m r) (weight_of m r)

  pub reading_adds_up : r.a < r.b → r.b ≤ H m → (r.e ≡ 0) ⊎ (0 < whole_of m r) → sum (H m) (reading_figure m r) ≡ energy_of r.over r.e (S m r)
  unfolding reading_figure S whole_of
  reading_adds_up rises within c =
      sum_placed r.a r.b (H m) own_figures (omega arith) within ∙ figures_add_up r.e (weight_before r.over) (whole_of m r) (weight_of m r) (r.b - r.a)
      ∙ part_is_energy r.e (S m r) r.over c

-- WHAT 18 AND 13 SAY OF A READING THAT THEY DO NOT REFUSE
pub weights_fit_lem : (before own whole : ℕ) → weights_fit before own whole ≡ true → (before + own ≤ whole) × (whole ≤ greatest_whole)
unfolding weights_fit
weights_fit_lem before own whole t =
    let both = both_pass (leb (before + own) whole) (leb whole greatest_whole) t in
    (leb-true (before + own) whole both.0, leb-true whole greatest_whole both.1)

pub follows_is : (e whole : ℕ) → follows_whole e whole ≡ true → (e ≡ 0) ⊎ (0 < whole)
unfolding follows_whole
follows_is e whole t =
    ⊎_elim (λ (z : eqb e 0 ≡ true). inl (eqb-true e 0 z)) (λ (p : leb 1 whole ≡ true). inr (leb-true 1 whole p)) (one_passes (eqb e 0) (leb 1 whole) t)

-- of reading j, whose checks accept
module _ (m : MonthFile) (j : ℕ) (ok : reading_verdict m j ≡ accepted) where
  pub reading_fits : weights_fit (weight_before (reading_at m j).over) (S m (reading_at m j)) (whole_of m (reading_at m j)) ≡ true
  unfolding reading_verdict reading_checks
  reading_fits = (unless_exactly _ _ _).0 ((accepted_exactly (reading_checks m (reading_at m j) j)).0 ok).0

  pub reading_follows : ((reading_at m j).e ≡ 0) ⊎ (0 < whole_of m (reading_at m j))
  unfolding reading_verdict reading_checks
  reading_follows = follows_is _ _ ((unless_exactly _ _ _).0 ((accepted_exactly (reading_checks m (reading_at m j) j)).0 ok).1.0)

-- A READING IN THIS MONTH IS ONE OVER MONTHS with nothing before this month and its own weight as the whole: 04 and 08 have one figure and one rule
pub one_for_both : (m : MonthFile) (who a b e t : ℕ)
    → reading_figure m (record { party = who; a = a; b = b; e = e; over = this_month }) t
    ≡ reading_figure m
    (record { party = who; a = a; b = b; e = e; over = many_months 0 (S m (record { party = who; a = a; b = b; e = e; over = this_month })) }) t
unfolding reading_figure weight_before whole_of whole_weight weight_of
one_for_both m who a b e t = refl

module _ (m : MonthFile) (whole : Whole m) (followed : (j : ℕ) → j < length m.readings → reading_verdict m j ≡ accepted) where
  its_span : (j : ℕ) → j < length m.readings → ReadingRight (H m) (P m) (reading_at m j)
  unfolding reading_at
  its_span j b = every_at (ReadingRight (H m) (P m)) m.readings whole.readings j _ b

  of_one : (i j : ℕ) → j < length m.readings → sum (H m) (λ t. figure_for m t i j) ≡ energy_for m i j
  unfolding figure_for energy_for
  of_one i j b = go (eqb (reading_at m j).party i)
    where
      go : (t : Bool) → sum (H m) (λ k. cond t (reading_figure m (reading_at m j) k) 0) ≡ cond t (energy_of (reading_at m j).over (reading_at m j).e (S m (reading_at m j))) 0
      go true = reading_adds_up m (reading_at m j) (its_span j b).1 (its_span j b).2 (reading_follows m j (followed j b))
      go false = sum_zero (H m) (λ k l. refl)

  -- A PARTY'S MONTH OF PERIODISED FIGURES IS THE SUM OF THE E OF ITS 04 READINGS AND OF THIS MONTH'S PARTS OF ITS 08 READINGS
  pub periodised_of_readings : (i : ℕ) → month_periodised m i ≡ read_energy m i
  unfolding month_periodised periodised read_energy
  periodised_of_readings i =
      sym (sum_swap (length m.readings) (H m) (λ t j. figure_for m t i j)) ∙ sum_cong (length m.readings) (of_one i)

-- and so it is of every accepted month
pub accepted_month_of_readings : (setting : Setting) (m : MonthFile) → Whole m → month_verdict setting m ≡ accepted → (i : ℕ) → month_periodised m i ≡ read_energy m i
unfolding month_verdict month_checks
accepted_month_of_readings setting m whole ok =
    periodised_of_readings m whole
    ((in_turn_exactly (length m.readings) (reading_verdict m)).0 ((accepted_exactly (month_checks setting m)).0 ok).1.1.1.1.1.0)
