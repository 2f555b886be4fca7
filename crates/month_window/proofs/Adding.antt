-- A reading added to a window: what the periodisation of its part asks, and what the lent places then hold. The places of one party do not meet those of
-- another, and outside the part the reading has no figure.
use mathlib.Core.Bool.{Bool, true, false}
use mathlib.Core.List.{List}
use mathlib.Core.Logic.{◌⊎◌, inl, inr, ⊎_elim}
use mathlib.Core.Path.{◌≡◌, refl, sym, ◌∙◌, ap, ap₂}
use Prim.Native.Nat.{ℕ, suc, ◌+◌, ◌-◌, ◌*◌, ◌≤◌, ◌<◌, max, min}
use native.Mathlib.Nat.{le_refl, le_trans, mul-le-mul_right, eq-or-lt_of_le}
use native.Mathlib.Omega.{arith}
use borrow.Author.Tests.{eqb-true, eqb-false, eq-eqb}
use borrow.Rule.Slice.PartMut.{mid_of, put_mid, mid_len, same_len_mid}
use lib.Dec.{eqb}
use lib.ListN.{length}
use Rattle.month_series.specs.Series.{beginning, spread_of}
use Rattle.month_window.specs.Window.{own_by, whole_by, figure_by, figure_to, Taken, Added}
use Rattle.month_window.proofs.Figures.{between, by_at_most, none_before, none_after, whole_is, part_growth}
use Rattle.month_window.proofs.Parts.{part_at, before_part, in_part, after_part}
use Rattle.periodise.specs.Growth.{grown_from, Part, Room}
use Rattle.periodise.specs.declared.Spread.{Spread}
use Rattle.rules.specs.Limits.{greatest_energy, greatest_whole}
use Rattle.rules.specs.Month.{weight_before, whole_weight}
use Rattle.rules.specs.Periodised.{periodised_figure}
use Rattle.rules.specs.Record.{Reading}
use Rattle.rules.specs.Words.{sum, at, figures}
use Rattle.rules.proofs.LargestRemainder.{less_cases}
use Rattle.rules.proofs.Loops.{figures_length, figures_at}
use Rattle.rules.proofs.Sums.{sum_cong, sum_rises}

module _ (weight : ℕ → ℕ) (r : Reading) (i t : ℕ) where
  to_its_party : i ≡ r.party → figure_to weight r i t ≡ figure_by weight r t
  unfolding figure_to
  to_its_party e = rw (eq-eqb r.party i (sym e))

  to_another : eqb r.party i ≡ false → figure_to weight r i t ≡ 0
  unfolding figure_to
  to_another e = rw e

module _ {r : Reading} {curve beginnings : List ℕ} {start hours : ℕ} {out : List ℕ} (t : Taken r curve beginnings start hours out) where
  -- the beginnings rise
  pub ordered : {a b : ℕ} → a ≤ b → b ≤ length curve → (a < length beginnings) × ((b < length beginnings) × (at beginnings a ≤ at beginnings b))
  unfolding beginning
  ordered {a} {b} h i =
      (omega (arith, t.all_begun), (omega (arith, t.all_begun), rw (t.begun a (le_trans h i), t.begun b i) (sum_rises (at curve) h)))

  weighs : {a b v : ℕ} → a ≤ b → b ≤ length curve → v ≡ at beginnings b - at beginnings a → v ≡ sum (b - a) (λ k. at curve (a + k))
  weighs {a} {b} h i e =
      e ∙ ap₂ (λ (x y : ℕ). x - y) (t.begun b i) (t.begun a (le_trans h i)) ∙ between (at curve) h

  -- the part of the reading's hours that lies in the window
  module _ {begin end : ℕ} (first : begin ≡ max r.a start) (last : end ≡ min r.b (start + hours)) where
    abbrev low : ℕ
    low = r.party * hours + (begin - start)

    abbrev high : ℕ
    high = r.party * hours + (end - start)

    -- outside it the reading has no figure
    no_figure_lem : (k : ℕ) → k < hours → (start + k < begin) ⊎ (end ≤ start + k) → figure_by (at curve) r (start + k) ≡ 0
    no_figure_lem k b out_of_lem =
        ⊎_elim (λ (l : start + k < begin). none_before (at curve) r (start + k) (omega arith))
        (λ (g : end ≤ start + k). none_after (at curve) r (start + k) (omega arith)) out_of_lem

    -- a place of the window lies outside the part, and there is no figure for it, or it is the party's own, in an hour of the part
    abbrev Outside : ℕ → ℕ → Type 0
    Outside i k = (figure_to (at curve) r i (start + k) ≡ 0) × ((i * hours + k < low) ⊎ (high ≤ i * hours + k))

    abbrev Inside : ℕ → ℕ → Type 0
    Inside i k = (i ≡ r.party) × (begin ≤ start + k) × (start + k < end)

    placed : (i k : ℕ) → k < hours → Outside i k ⊎ Inside i k
    placed i k b = go (eqb r.party i) refl
      where
        own : i ≡ r.party → Outside i k ⊎ Inside i k
        own e =
            let same : i * hours ≡ r.party * hours = ap (λ (x : ℕ). x * hours) e in
            ⊎_elim
            (λ (l : (start + k < begin) × _).
            let l' : start + k < begin = l.0 in
            inl (to_its_party (at curve) r i (start + k) e ∙ no_figure_lem k b (inl l'), inl (omega arith)))
            (λ (g : (begin ≤ start + k) × _).
            let g' : begin ≤ start + k = g.0 in
            ⊎_elim (λ (l : (start + k < end) × _). inr (e, g', l.0))
            (λ (n : (end ≤ start + k) × _).
            let n' : end ≤ start + k = n.0 in
            inl (to_its_party (at curve) r i (start + k) e ∙ no_figure_lem k b (inr n'), inr (omega arith)))
            (less_cases (start + k) end))
            (less_cases (start + k) begin)

        another : eqb r.party i ≡ false → (i * hours + k < low) ⊎ (high ≤ i * hours + k)
        another e =
            ⊎_elim
            (λ (l : (i < r.party) × _).
            inl (omega (arith, mul-le-mul_right {m = suc i} {n = r.party} hours l.0)))
            (λ (g : (r.party ≤ i) × _).
            ⊎_elim (λ (z : r.party ≡ i). absurd (eqb-false r.party i e z))
            (λ (l : r.party < i). inr (omega (arith, mul-le-mul_right {m = suc r.party} {n = i} hours l)))
            (eq-or-lt_of_le g.0))
            (less_cases i r.party)

        go : (x : Bool) → eqb r.party i ≡ x → Outside i k ⊎ Inside i k
        go true e = own (sym (eqb-true r.party i e))
        go false e = inl (to_another (at curve) r i (start + k) e, another e)

    -- NOTHING OF IT: no hour of the reading lies in the window
    pub none_added : end ≤ begin → Added r curve start hours out out
    none_added none =
        record {
          size = refl;
          each = λ i k b.
              ⊎_elim (λ (o : Outside i k). omega (arith, o.0))
              (λ (p : Inside i k). absurd (omega (arith, p.1, p.2)))
              (placed i k b);
        }

    -- SOME OF IT
    module _ (some : begin < end) {own skipped : ℕ} (own_is : own ≡ at beginnings r.b - at beginnings r.a) (skipped-is : skipped ≡ at beginnings begin - at beginnings r.a) where
      -- what lies before the part, and the weight of the whole reading
      abbrev before : ℕ
      before = weight_before r.over

      abbrev whole : ℕ
      whole = whole_weight r.over own

      -- the reading's part of the curve, and the places that are lent for the run of it in the window
      abbrev part : List ℕ
      part = mid_of r.a (r.b - r.a) curve

      abbrev skip : ℕ
      skip = begin - r.a

      abbrev lent : List ℕ
      lent = mid_of low (high - low) out

      hours_of_part : length part ≡ r.b - r.a
      hours_of_part = mid_len r.a r.b curve t.in_month_holds

      places_of_run : length lent ≡ end - begin
      places_of_run = mid_len low high out (omega (arith, t.places)) ∙ omega arith

      own_weight : (k : ℕ) → k < r.b - r.a → at part k ≡ at curve (r.a + k)
      own_weight k b = part_at r.a r.b curve k b

      own_weights : (n : ℕ) → n ≤ r.b - r.a → sum n (at part) ≡ sum n (λ k. at curve (r.a + k))
      own_weights n b =
          sum_cong n {f = at part} {g = λ k. at curve (r.a + k)} (λ k c. own_weight k (omega arith))

      own_weighs : own ≡ own_by (at curve) r
      unfolding own_by
      own_weighs = weighs t.forwards t.in_month_holds own_is

      whole_weighs : whole ≡ whole_by (at curve) r
      whole_weighs = whole_is (at curve) r own_weighs

      -- the run's growths are the reading's figures
      growths : (k : ℕ) → k < end - begin → periodised_figure r.e before whole (at part) (skip + k) ≡ figure_by (at curve) r (begin + k)
      growths k b =
          let there : skip + k ≡ begin + k - r.a = omega arith in
          ap (periodised_figure r.e before whole (at part)) there
          ∙ part_growth (at curve) r own_weighs {part = at part} own_weight (begin + k) (omega arith) (omega arith)

      -- which are none of them above E
      growth_small : (k : ℕ) → k < end - begin → periodised_figure r.e before whole (at part) (skip + k) ≤ greatest_energy
      growth_small k b = rw (growths k b) (le_trans (by_at_most (at curve) r t.weights (begin + k)) t.energy)

      -- what the periodisation asks
      whole_small : whole ≤ greatest_whole
      whole_small = omega (arith, whole_weighs, t.weights.1)

      all_of_it : before + sum (length part) (at part) ≤ whole
      unfolding own_by
      all_of_it =
          let same : sum (length part) (at part) ≡ sum (r.b - r.a) (at part) = ap (λ (n : ℕ). sum n (at part)) hours_of_part in
          omega (arith, same, own_weights (r.b - r.a) (le_refl (r.b - r.a)), whole_weighs, t.weights.0)

      passed_weighs : skipped ≡ sum skip (at part)
      passed_weighs = weighs (omega arith) (omega (arith, t.in_month_holds)) skipped-is ∙ sym (own_weights skip (omega arith))

      part_asked : Part r.e before whole part skip skipped (length lent)
      part_asked =
          record {
            spread = record { energy = t.energy; inside = all_of_it; most = whole_small };
            run = omega (arith, places_of_run, hours_of_part);
            passed = passed_weighs;
          }

      room_asked : Room lent r.e before whole (at part) skip
      unfolding Room grown_from
      room_asked k b =
          let inside : k < end - begin = omega (arith, places_of_run) in
          let same : r.party * hours + (begin - start + k) ≡ low + k = omega arith in
          omega (arith, growth_small k inside, part_at low high out k (omega arith), t.room (begin - start + k) (omega arith), ap (at out) same)

      -- SOME OF IT ADDED: the lent places come back with what they held and the run's figures
      module _ {ys : List ℕ} (given : ys ≡ figures (length lent) (grown_from lent r.e before whole (at part) skip)) where
        as_many : length ys ≡ high - low
        as_many = ap length given ∙ figures_length (length lent) _ ∙ omega (arith, places_of_run)

        abbrev after : List ℕ
        after = put_mid low (high - low) out ys

        inside_run : (i k : ℕ) → Inside i k → at after (i * hours + k) ≡ at out (i * hours + k) + figure_to (at curve) r i (start + k)
        unfolding at grown_from
        inside_run i k p =
            let e = p.0 in
            let from_there : begin ≤ start + k = p.1 in
            let to-there : start + k < end = p.2 in
            let k' = start + k - begin in
            let same : i * hours ≡ r.party * hours = ap (λ (x : ℕ). x * hours) e in
            let there : i * hours + k ≡ low + k' = omega arith in
            let when : begin + k' ≡ start + k = omega arith in
            ap (at after) there
            ∙ in_part low high out ys (omega arith) (omega (arith, t.places)) as_many k' (omega arith)
            ∙ ap (λ (l : List ℕ). at l k') given
            ∙ figures_at (length lent) (grown_from lent r.e before whole (at part) skip) k' 0 (omega (arith, places_of_run))
            ∙ ap₂ (λ (x y : ℕ). x + y) (part_at low high out k' (omega arith) ∙ ap (at out) (sym there))
            (growths k' (omega arith) ∙ ap (figure_by (at curve) r) when ∙ sym (to_its_party (at curve) r i (start + k) e))

        some_added : Added r curve start hours out after
        some_added =
            record {
              size = same_len_mid low (high - low) out ys (as_many ∙ omega (arith, places_of_run));
              each = λ i k b.
                  ⊎_elim
                  (λ (o : Outside i k).
                  ⊎_elim
                  (λ (l : i * hours + k < low).
                  omega (arith, o.0, before_part low high out ys (omega arith) (omega (arith, t.places)) as_many (i * hours + k) l))
                  (λ (g : high ≤ i * hours + k).
                  omega (arith, o.0, after_part low high out ys (omega arith) (omega (arith, t.places)) as_many (i * hours + k) g))
                  o.1)
                  (inside_run i k)
                  (placed i k b);
            }

      -- THE SAME of places that were worked out apart, and of the reading as it is spread
      module _ {x y : ℕ} (x-is : x ≡ low) (y-is : y ≡ high) {spread : Spread} (spread-is : spread ≡ spread_of r own) where
        abbrev lent_there : List ℕ
        lent_there = mid_of x (y - x) out

        pub run_asked :
            Part spread.e_wh spread.before spread.whole part skip skipped (length lent_there)
            × Room lent_there spread.e_wh spread.before spread.whole (at part) skip
        run_asked = rw (x-is, y-is, spread-is) (part_asked, room_asked)

        pub run_added : {ys : List ℕ} → ys ≡ figures (length lent_there) (grown_from lent_there spread.e_wh spread.before spread.whole (at part) skip)
            → Added r curve start hours out (put_mid x (y - x) out ys)
        run_added given = rw (x-is, y-is) (some_added (rw (x-is, y-is, spread-is) at given))
