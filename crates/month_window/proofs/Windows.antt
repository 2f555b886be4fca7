-- What the loop over the readings keeps: each party's place has the figures of the readings passed. A file has fewer readings than bytes, so no place passes
-- 64 bits.
use mathlib.Core.Bool.{Bool, true, false, cond}
use mathlib.Core.List.{List}
use mathlib.Core.Path.{◌≡◌, refl, sym, ◌∙◌, ap, ap₂, subst}
use Prim.Native.Nat.{ℕ, suc, ◌+◌, ◌*◌, ◌≤◌, ◌<◌, zero-le}
use native.Mathlib.Nat.{le_refl, le_trans, mul-le-mul_right}
use native.Mathlib.Numerals.{add-one}
use native.Mathlib.Omega.{arith}
use lib.Dec.{eqb}
use lib.ListN.{length, replicate, length-replicate}
use Rattle.std.proofs.lemmas.List.{get_or-replicate}
use Rattle.file_fields.specs.Fields.{ReadingPlaced, ReadingIs}
use Rattle.file_sections.specs.declared.Sections.{Sections}
use Rattle.file_sections.proofs.AcceptedFile.{month_whole, readings_are}
use Rattle.file_fields.proofs.Readers.{few_readings, reading_read}
use Rattle.month_series.specs.Series.{beginning}
use Rattle.month_window.specs.Window.{own_by, whole_by, figure_by, FitsBy, figure_to, Window, Asked, Taken, Added}
use Rattle.month_window.proofs.Figures.{own_cong, whole_cong, by_cong, by_at_most}
use Rattle.record.specs.Record.{reading_of}
use Rattle.record.specs.declared.Reading as CReading
use Rattle.rules.specs.Limits.{greatest_energy, longest_file}
use Rattle.rules.specs.Month.{curve, month_of, reading_at, weight_of, S, whole_of, reading_figure, figure_for, periodised}
use Rattle.rules.specs.MonthFile.{MonthFile, H, P}
use Rattle.rules.specs.Record.{Reading}
use Rattle.rules.specs.Words.{sum, at}
use Rattle.rules.proofs.Loops.{figures_length, figures_at}
use Rattle.rules.proofs.Readings.{weights_fit_lem, reading_fits}
use Rattle.rules.proofs.Sums.{sum_cong, sum_at_most}
use Rattle.rules.proofs.Whole.{Whole, ReadingRight, every_at}

-- the rules' figure of a reading for a party is the curve's
for_is_to : (m : MonthFile) (t i j : ℕ) → figure_for m t i j ≡ figure_to (curve m) (reading_at m j) i t
unfolding figure_for figure_to reading_figure figure_by whole_by own_by whole_of S weight_of
for_is_to m t i j = refl

to_cong : {f g : ℕ → ℕ} (r : Reading) (i t : ℕ) → ((k : ℕ) → k < r.b → f k ≡ g k) → figure_to f r i t ≡ figure_to g r i t
unfolding figure_to
to_cong {f} {g} r i t same = ap (λ (x : ℕ). cond (eqb r.party i) x 0) (by_cong {f = f} {g = g} r t same)

to_at_most : (weight : ℕ → ℕ) (r : Reading) → FitsBy weight r → (i t : ℕ) → figure_to weight r i t ≤ r.e
unfolding figure_to
to_at_most weight r fits i t = go (eqb r.party i)
  where
    go : (own : Bool) → cond own (figure_by weight r t) 0 ≤ r.e
    go true = by_at_most weight r fits t
    go false = zero-le

-- after j readings
pub record Counted (m : MonthFile) (start hours : ℕ) (out : List ℕ) (j : ℕ) : Type 0 where
  pub bound : j ≤ length m.readings
  pub size : length out ≡ P m * hours
  pub each : (i k : ℕ) → i < P m → k < hours → at out (i * hours + k) ≡ sum j (figure_for m (start + k) i)

module _ {file : List ℕ} {s : Sections} {numbers beginnings : List ℕ} {start hours lent : ℕ} (a : Asked file s numbers beginnings start hours lent) where
  abbrev m : MonthFile
  m = month_of file

  whole : Whole m
  whole = month_whole file s a.accepted

  numbers_length : length numbers ≡ H m
  numbers_length = ap length a.curve_is ∙ figures_length (H m) (curve m)

  number_at : (t : ℕ) → t < H m → at numbers t ≡ curve m t
  unfolding at
  number_at t b = ap (λ (l : List ℕ). at l t) a.curve_is ∙ figures_at (H m) (curve m) t 0 b

  begun_at : (t : ℕ) → t ≤ H m → at beginnings t ≡ beginning (at numbers) t
  unfolding at beginning
  begun_at t b =
      ap (λ (l : List ℕ). at l t) a.beginnings_are ∙ figures_at (suc (H m)) (beginning (curve m)) t 0 (omega arith)
      ∙ sum_cong t {f = curve m} {g = at numbers} (λ i c. sym (number_at i (omega arith)))

  party_places : {i : ℕ} → i < P m → i * hours + hours ≤ P m * hours
  party_places {i} b = omega (arith, mul-le-mul_right {m = suc i} {n = P m} hours b)

  right : (j : ℕ) → j < length m.readings → ReadingRight (H m) (P m) (reading_at m j)
  unfolding reading_at
  right j b = every_at (ReadingRight (H m) (P m)) m.readings whole.readings j _ b

  fits : (j : ℕ) → j < length m.readings → FitsBy (curve m) (reading_at m j)
  unfolding whole_by own_by whole_of S weight_of
  fits j b = weights_fit_lem _ _ _ (reading_fits m j (a.readings_pass j b))

  small : (t i j : ℕ) → j ≤ length m.readings → sum j (figure_for m t i) ≤ j * greatest_energy
  small t i j b =
      sum_at_most j (figure_for m t i) greatest_energy
      (λ n c. rw (for_is_to m t i n) (le_trans (to_at_most (curve m) (reading_at m n) (fits n (omega arith)) i t) (right n (omega arith)).3))

  -- so what a party has periodised in an hour is far below 64 bits
  pub light : (t i : ℕ) → periodised m t i ≤ longest_file * greatest_energy
  unfolding periodised
  light t i =
      le_trans (small t i (length m.readings) (le_refl (length m.readings)))
      (mul-le-mul_right {m = length m.readings} {n = longest_file} greatest_energy (omega (arith, few_readings file s a.accepted, readings_are file s a.accepted)))

  -- nothing yet
  pub counted_start : {out : List ℕ} → out ≡ replicate lent 0 → Counted m start hours out 0
  unfolding at sum
  counted_start e =
      record {
        bound = zero-le;
        size = ap length e ∙ length-replicate lent 0 ∙ a.size;
        each = λ i k b c. ap (λ (l : List ℕ). at l (i * hours + k)) e ∙ get_or-replicate lent (i * hours + k) 0 0 (omega (arith, a.size, party_places b));
      }

  module _ {out : List ℕ} {j : ℕ} (n : Counted m start hours out j) where
    module _ {place : ℕ} (here : ReadingPlaced file s j place) {x : CReading.Reading} (read : ReadingIs file place x) where
      is : reading_of x ≡ reading_at m j
      is = reading_read file s j place here read

      in_file_lem : j < length m.readings
      in_file_lem = omega (arith, here.number, readings_are file s a.accepted)

      same_weights : FitsBy (at numbers) (reading_at m j)
      same_weights =
          let same : (i : ℕ) → i < (reading_at m j).b → at numbers i ≡ curve m i = λ i c. number_at i (omega (arith, (right j in_file_lem).2)) in
          rw (own_cong (reading_at m j) same, whole_cong (reading_at m j) same) (fits j in_file_lem)

      pub taken : Taken (reading_of x) numbers beginnings start hours out
      unfolding H
      taken =
          subst (λ (r : Reading). Taken r numbers beginnings start hours out) (sym is)
          (record {
            energy = (right j in_file_lem).3;
            forwards = omega (arith, (right j in_file_lem).1);
            in_month_holds = omega (arith, (right j in_file_lem).2, numbers_length);
            weights = same_weights;
            all_begun = ap length a.beginnings_are ∙ figures_length (suc (H m)) (beginning (curve m)) ∙ ap suc (sym numbers_length);
            begun = λ t c. begun_at t (omega (arith, numbers_length));
            inside = omega (arith, a.inside, numbers_length);
            places = omega (arith, n.size, party_places (right j in_file_lem).0);
            room = λ k c. omega (arith, n.each (reading_at m j).party k (right j in_file_lem).0 c, small (start + k) (reading_at m j).party j n.bound, few_readings file s a.accepted);
          })

      -- what the reading gives each party is what the rules give it
      its_figure : (i k : ℕ) → figure_to (at numbers) (reading_of x) i (start + k) ≡ figure_for m (start + k) i j
      its_figure i k =
          ap (λ (r : Reading). figure_to (at numbers) r i (start + k)) is
          ∙ to_cong {f = at numbers} {g = curve m} (reading_at m j) i (start + k) (λ t e. number_at t (omega (arith, (right j in_file_lem).2)))
          ∙ sym (for_is_to m (start + k) i j)

      pub counted_next : {later : List ℕ} → Added (reading_of x) numbers start hours out later → Counted m start hours later (j + 1)
      unfolding sum
      counted_next {later} added =
          record {
            bound = omega (arith, in_file_lem);
            size = added.size ∙ n.size;
            each = λ i k c d.
                rw (add-one j) (added.each i k d ∙ ap₂ (λ (y z : ℕ). y + z) (n.each i k c d) (its_figure i k));
          }

    -- ALL READINGS
    pub counted_end : s.readings ≤ j → Window m start hours out
    unfolding periodised
    counted_end b =
        let all : j ≡ length m.readings = omega (arith, n.bound, readings_are file s a.accepted) in
        record { size = n.size; each = λ i k c d. n.each i k c d ∙ ap (λ (l : ℕ). sum l (figure_for m (start + k) i)) all }
