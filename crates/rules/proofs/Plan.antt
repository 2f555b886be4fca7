-- A READING PLANNED OVER MONTHS (02, W3): in the joined curves its hours follow one another from month to month, so that what its parts weigh is what the joined
-- curve of its hours weighs, and each month's figures are those of one long periodisation (`plan_kept`, what specs/Plan says of a plan).
use mathlib.Core.Bool.{true, cond, ◌&&◌}
use mathlib.Core.Path.{◌≡◌, refl, sym, ◌∙◌, ap, ap₂}
use Prim.Native.Nat.{ℕ, zero, suc, ◌+◌, ◌-◌, ◌*◌, ◌≤◌, ◌<◌}
use native.Mathlib.Nat.{zero-add}
use native.Mathlib.Omega.{arith}
use borrow.Author.Tests.{ltb-true, leb-true, eqb-true, lt-ltb, le-leb, eq-eqb, ne_eqb}
use lib.Dec.{eqb, leb, ltb}
use lib.ListN.{length}
use Rattle.rules.specs.Accepted.{NoneRefuses}
use Rattle.rules.specs.Limits.{most_months, most_hours, most_parties, most_weights, greatest_energy, greatest_curve_number, greatest_whole}
use Rattle.rules.specs.Month.{curve, weight_of, S, weight_before, whole_weight, whole_of, energy_of, weights_fit, follows_whole, reading_checks, reading_figure}
use Rattle.rules.specs.MonthFile.{MonthFile, H, P}
use Rattle.rules.specs.Periodised.{periodised_figure, part_of_e}
use Rattle.rules.specs.Plan.{LongReading, month_count, month_start, curve_of_month, part_from, part_to, part_hours, part_weight, planned_before, planned_whole, planned_reading}
use Rattle.rules.specs.Plan.{reading_hours, hours_before, joined_curve, hours_verdict, party_verdict, part_verdict, weight_verdict, list_checks, span_checks, handed_checks, plan_checks}
use Rattle.rules.specs.Plan.{InMonth, PlanKept}
use Rattle.rules.specs.Record.{this_month, Reading, reading, in_file, checks}
use Rattle.rules.specs.Refusals.{out_of_range, accepted, unless, first}
use Rattle.rules.specs.Services.{check_at, each_at, periodisation_checks, periodisation_figures}
use Rattle.rules.specs.Words.{sum, at, within, at_most}
use Rattle.rules.proofs.Loops.{figures_length, figures_at}
use Rattle.rules.proofs.Periodised.{figure_cong, part_is_all, no_part, parts_add_up, part_of_whole}
use Rattle.rules.proofs.Readings.{follows_is, reading_adds_up}
use Rattle.rules.proofs.Refusals.{accepted_exactly, in_turn_exactly, unless_exactly, both_accept, first_append, then_accepted}
use Rattle.rules.proofs.Sums.{sum_cong, sum_rises, sum_split, sum_at_most, sum_member}
use Rattle.rules.proofs.Whole.{both_pass, within_is}

-- WHAT THE PLANNER'S CHECKS SAY of the hours, the curves and the reading's parts
pub record Weighed (r : LongReading) : Type 0 where
  pub some_months : 1 ≤ month_count r
  pub few_months : month_count r ≤ most_months
  pub few_hours : (k : ℕ) → k < month_count r → at r.hours k ≤ most_hours
  pub all_curves : length r.curves ≡ month_start r (month_count r)
  pub some_part : (k : ℕ) → k < month_count r → part_from r k < part_to r k
  pub part_inside : (k : ℕ) → k < month_count r → part_to r k ≤ at r.hours k
  pub not_too_long : reading_hours r ≤ most_weights
  pub curve_fits_holds : (t : ℕ) → t < length r.curves → at r.curves t ≤ greatest_curve_number

-- and of the parties and E
pub record Plannable (r : LongReading) : Type 0 where
  pub weighed : Weighed r
  pub as_many_parties : length r.parties ≡ month_count r
  pub party : (k : ℕ) → k < month_count r → at r.parties k < most_parties
  pub energy : r.e ≤ greatest_energy

module _ (r : LongReading) where
  said_hours : (k : ℕ) → hours_verdict r k ≡ accepted → (1 ≤ at r.hours k) × (at r.hours k ≤ most_hours)
  unfolding hours_verdict
  said_hours k v = within_is 1 most_hours (at r.hours k) ((unless_exactly _ _ _).0 v)

  said_party : (k : ℕ) → party_verdict r k ≡ accepted → at r.parties k < most_parties
  unfolding party_verdict
  said_party k v = ltb-true (at r.parties k) most_parties ((unless_exactly _ _ _).0 v)

  pub said_part : (k : ℕ) → part_verdict r k ≡ accepted → (part_from r k < part_to r k) × (part_to r k ≤ at r.hours k)
  unfolding part_verdict
  said_part k v =
      let both = both_pass (ltb (part_from r k) (part_to r k)) (leb (part_to r k) (at r.hours k)) ((unless_exactly _ _ _).0 v) in
      (ltb-true (part_from r k) (part_to r k) both.0, leb-true (part_to r k) (at r.hours k) both.1)

  said_weight : (t : ℕ) → weight_verdict r t ≡ accepted → at r.curves t ≤ greatest_curve_number
  unfolding weight_verdict
  said_weight t v = leb-true (at r.curves t) greatest_curve_number ((unless_exactly _ _ _).0 v)

-- the shape of the lists, of which the first check tells
pub shape_says : (r : LongReading) → unless (eqb (length r.parties) (month_count r) && within 1 most_months (month_count r)) out_of_range 0 ≡ accepted
    → (length r.parties ≡ month_count r) × (1 ≤ month_count r) × (month_count r ≤ most_months)
shape_says r v =
    let lists = both_pass (eqb (length r.parties) (month_count r)) (within 1 most_months (month_count r)) ((unless_exactly _ _ _).0 v) in
    let count = within_is 1 most_months (month_count r) lists.1 in
    (eqb-true _ _ lists.0, count.0, count.1)

pub plannable : (r : LongReading) → NoneRefuses (handed_checks r) → Plannable r
unfolding handed_checks list_checks span_checks
plannable r none =
    let shape = shape_says r none.0 in
    let of-hours = (in_turn_exactly (month_count r) (hours_verdict r)).0 none.1.0 in
    let of-parties = (in_turn_exactly (month_count r) (party_verdict r)).0 none.1.1.1.0 in
    let of_parts = (in_turn_exactly (month_count r) (part_verdict r)).0 none.1.1.1.1.0 in
    let of-weights = (in_turn_exactly (length r.curves) (weight_verdict r)).0 none.1.1.1.1.1.1.1.0 in
    record {
      weighed = record {
        some_months = shape.1;
        few_months = shape.2;
        few_hours = λ k b. (said_hours r k (of-hours k b)).1;
        all_curves = eqb-true _ _ ((unless_exactly _ _ _).0 none.1.1.0);
        some_part = λ k b. (said_part r k (of_parts k b)).0;
        part_inside = λ k b. (said_part r k (of_parts k b)).1;
        not_too_long = leb-true _ _ ((unless_exactly _ _ _).0 none.1.1.1.1.1.0);
        curve_fits_holds = λ t b. said_weight r t (of-weights t b);
      };
      as_many_parties = shape.0;
      party = λ k b. said_party r k (of-parties k b);
      energy = leb-true _ _ ((unless_exactly _ _ _).0 none.1.1.1.1.1.1.0);
    }

-- IN THE JOINED CURVES A READING'S HOURS FOLLOW ONE ANOTHER
module _ (r : LongReading) (w : Weighed r) where
  abbrev joined : ℕ → ℕ
  joined t = at r.curves (r.a + t)

  not_last : (k : ℕ) → suc k < month_count r → part_to r k ≡ at r.hours k
  unfolding part_to
  not_last k b = rw (ne_eqb (suc k) (month_count r) (λ e. omega arith))

  hours_are : (k : ℕ) → part_hours r k ≡ part_to r k - part_from r k
  unfolding part_hours
  hours_are k = refl

  -- each part begins where the part before it has ended
  pub part_follows : (k : ℕ) → k < month_count r → month_start r k + part_from r k ≡ r.a + hours_before r k
  unfolding month_start hours_before part_from sum
  part_follows zero b = omega arith
  part_follows (suc k) b =
      let none : cond (eqb (suc k) 0) r.a 0 ≡ 0 = rw (ne_eqb (suc k) 0 (λ e. omega arith)) in
      let ends : part_to r k ≡ at r.hours k = not_last k b in
      omega (arith, part_follows k (omega arith), none, hours_are k, w.some_part k (omega arith))

  -- an hour of a part is the joined curve's hour behind all that came before
  pub hour_follows : (k h : ℕ) → k < month_count r → curve_of_month r k (part_from r k + h) ≡ joined (hours_before r k + h)
  unfolding curve_of_month
  hour_follows k h b = ap (at r.curves) (omega (arith, part_follows k b))

  -- WHAT LIES BEFORE A PART weighs what the joined curve weighs before it
  pub before_is : (k : ℕ) → k ≤ month_count r → planned_before r k ≡ sum (hours_before r k) joined
  unfolding planned_before hours_before part_weight sum
  before_is zero b = refl
  before_is (suc k) b =
      let own : part_weight r k ≡ sum (part_hours r k) (λ h. joined (hours_before r k + h)) = sum_cong (part_hours r k) (λ h c. hour_follows k h (omega arith)) in
      omega (arith, before_is k (omega arith), own, sum_split (hours_before r k) (part_hours r k) joined)

  pub whole_is : planned_whole r ≡ sum (reading_hours r) joined
  unfolding planned_whole reading_hours planned_before hours_before
  whole_is = before_is (month_count r) (omega arith)

  -- the reading ends within the curves that are handed in
  pub within_curves : r.a + reading_hours r ≤ length r.curves
  unfolding reading_hours hours_before month_start sum
  within_curves =
      let last : ℕ = month_count r - 1 in
      let all : month_count r ≡ suc last = omega (arith, w.some_months) in
      let b : last < month_count r = omega (arith, w.some_months) in
      let ends : reading_hours r ≡ hours_before r last + part_hours r last = ap (λ (n : ℕ). sum n (part_hours r)) all in
      let starts : month_start r (month_count r) ≡ month_start r last + at r.hours last = ap (λ (n : ℕ). sum n (at r.hours)) all in
      omega (arith, part_follows last b, hours_are last, w.some_part last b, w.part_inside last b, w.all_curves)

  pub weight_fits : (t : ℕ) → t < reading_hours r → joined t ≤ greatest_curve_number
  weight_fits t b = w.curve_fits_holds (r.a + t) (omega (arith, within_curves))

  pub whole_fits : planned_whole r ≤ greatest_whole
  whole_fits = omega (arith, whole_is, sum_at_most (reading_hours r) joined greatest_curve_number weight_fits, w.not_too_long)

  -- the part of a month ends within the whole reading
  part_ends : (k : ℕ) → k < month_count r → hours_before r k + part_hours r k ≤ reading_hours r
  unfolding hours_before reading_hours sum
  part_ends k b = sum_rises (part_hours r) {k = suc k} {n = month_count r} (omega arith)

  pub part_weighs : (k : ℕ) → k < month_count r → planned_before r k + part_weight r k ≤ planned_whole r
  unfolding planned_before planned_whole sum
  part_weighs k b = sum_rises (part_weight r) {k = suc k} {n = month_count r} (omega arith)

  -- THE JOINED CURVE, as the periodisation service takes it
  curve_at_lem : (t : ℕ) → t < reading_hours r → at (joined_curve r) t ≡ joined t
  unfolding joined_curve at
  curve_at_lem t b = figures_at (reading_hours r) _ t 0 b

  curve_length : length (joined_curve r) ≡ reading_hours r
  unfolding joined_curve
  curve_length = figures_length (reading_hours r) _

  curve_weighs : sum (length (joined_curve r)) (at (joined_curve r)) ≡ planned_whole r
  curve_weighs = ap (λ (n : ℕ). sum n (at (joined_curve r))) curve_length ∙ sum_cong (reading_hours r) curve_at_lem ∙ sym whole_is

  some_reading_hours : 1 ≤ reading_hours r
  unfolding reading_hours
  some_reading_hours = omega (arith, w.some_months, w.some_part 0 w.some_months, hours_are 0, sum_member (month_count r) (part_hours r) {i = 0} w.some_months)

-- OF A READING THAT IS PLANNED
module _ (r : LongReading) (p : Plannable r) (followed : follows_whole r.e (planned_whole r) ≡ true) where
  abbrev w : Weighed r
  w = p.weighed

  long_taken : first (periodisation_checks r.e (joined_curve r) (length (joined_curve r))) ≡ accepted
  unfolding periodisation_checks each_at check_at within at_most follows_whole
  long_taken =
      (accepted_exactly (periodisation_checks r.e (joined_curve r) (length (joined_curve r)))).1 (
        (unless_exactly _ _ _).1 (eq-eqb (length (joined_curve r)) (length (joined_curve r)) refl),
        (
          (unless_exactly _ _ _).1 (rw ((curve_length r w), le-leb 1 (reading_hours r) (some_reading_hours r w), le-leb (reading_hours r) most_weights w.not_too_long)),
          (
            (unless_exactly _ _ _).1 (le-leb r.e greatest_energy p.energy),
            (
              (in_turn_exactly (length (joined_curve r)) _).1 (λ t b. (unless_exactly _ _ _).1 (le-leb _ _ (each_fits t (omega (arith, (curve_length r w)))))),
              ((unless_exactly _ _ _).1 (rw (curve_weighs r w) followed), tt),
            ),
          ),
        ),
      )
    where
      each_fits : (t : ℕ) → t < reading_hours r → at (joined_curve r) t ≤ greatest_curve_number
      each_fits t b = rw (curve_at_lem r w t b) (weight_fits r w t b)

  long_figure : (t : ℕ) → t < reading_hours r → at (periodisation_figures r.e (joined_curve r)) t ≡ periodised_figure r.e 0 (planned_whole r) (joined r w) t
  unfolding periodisation_figures at
  long_figure t b =
      figures_at (length (joined_curve r)) _ t 0 (omega (arith, (curve_length r w)))
      ∙ ap (λ (whole : ℕ). periodised_figure r.e 0 whole (at (joined_curve r)) t) (curve_weighs r w)
      ∙ figure_cong r.e 0 (planned_whole r) t (λ i c. curve_at_lem r w i (omega arith))

  -- A MONTH FILE that a record stands in
  module _ (k : ℕ) (m : MonthFile) (b : k < month_count r) (here : InMonth r k m) where
    own_weight : (h : ℕ) → h < part_hours r k → weight_of m (planned_reading r k) h ≡ curve_of_month r k (part_from r k + h)
    unfolding weight_of planned_reading
    own_weight h c = here.same_curve (part_from r k + h) (omega (arith, hours_are r w k, w.part_inside k b, here.hours))

    own_is : S m (planned_reading r k) ≡ part_weight r k
    unfolding S planned_reading part_weight part_hours
    own_is = sum_cong (part_hours r k) own_weight

    month_hour : (h : ℕ) → h < part_hours r k → reading_figure m (planned_reading r k) (part_from r k + h) ≡ at (periodisation_figures r.e (joined_curve r)) (hours_before r k + h)
    unfolding reading_figure planned_reading weight_before whole_of whole_weight
    month_hour h c =
        let back : part_from r k + h - part_from r k ≡ h = omega arith in
        let before : planned_before r k ≡ 0 + sum (hours_before r k) (joined r w) = before_is r w k (omega arith) ∙ sym (zero-add _) in
        rw (le-leb (part_from r k) (part_from r k + h) (omega arith), lt-ltb (part_from r k + h) (part_to r k) (omega (arith, hours_are r w k)), back)
        (figure_cong r.e (planned_before r k) (planned_whole r) h (λ i d. own_weight i (omega arith) ∙ hour_follows r w k i b)
        ∙ ap (λ (x : ℕ). periodised_figure r.e x (planned_whole r) (λ i. (joined r w) (hours_before r k + i)) h) before
        ∙ part_of_whole r.e 0 (planned_whole r) (joined r w) (hours_before r k) h
        ∙ sym (long_figure (hours_before r k + h) (omega (arith, part_ends r w k b))))

    month_part : sum (H m) (reading_figure m (planned_reading r k)) ≡ part_of_e r.e (planned_before r k) (part_weight r k) (planned_whole r)
    unfolding planned_reading energy_of whole_of whole_weight
    month_part =
        reading_adds_up m (planned_reading r k) (w.some_part k b) (omega (arith, w.part_inside k b, here.hours)) (follows_is r.e (planned_whole r) followed)
        ∙ ap (λ (own : ℕ). part_of_e r.e (planned_before r k) own (planned_whole r)) own_is

    month_passes : (n place : ℕ) → NoneRefuses (checks (in_file m n) (reading (planned_reading r k))) × NoneRefuses (reading_checks m (planned_reading r k) place)
    unfolding checks reading_checks planned_reading weights_fit whole_of whole_weight weight_before
    month_passes n place =
        let inside : leb (part_to r k) (H m) ≡ true = le-leb (part_to r k) (H m) (omega (arith, w.part_inside k b, here.hours)) in
        let fits : leb (planned_before r k + S m (planned_reading r k)) (planned_whole r) ≡ true =
        le-leb (planned_before r k + S m (planned_reading r k)) (planned_whole r) (omega (arith, own_is, part_weighs r w k b)) in (
          (
            (unless_exactly _ _ _).1 (lt-ltb (at r.parties k) (P m) here.a_party),
            (
              (unless_exactly _ _ _).1 (rw (lt-ltb (part_from r k) (part_to r k) (w.some_part k b), inside)),
              ((unless_exactly _ _ _).1 (le-leb r.e greatest_energy p.energy), tt),
            ),
          ),
          (
            (unless_exactly _ _ _).1 (rw (fits, le-leb (planned_whole r) greatest_whole (whole_fits r w))),
            ((unless_exactly _ _ _).1 followed, tt),
          ),
        )

  -- THE PARTS OF THE MONTHS ADD UP: after k months as much of E has come as the weight before asks for
  months_so_far : (file : ℕ → MonthFile) → ((k : ℕ) → k < month_count r → InMonth r k (file k)) → (k : ℕ) → k ≤ month_count r
      → sum k (λ j. sum (H (file j)) (reading_figure (file j) (planned_reading r j))) ≡ part_of_e r.e 0 (planned_before r k) (planned_whole r)
  unfolding sum planned_before
  months_so_far file here zero b = sym (no_part r.e (planned_whole r))
  months_so_far file here (suc k) b =
      ap₂ (λ (x y : ℕ). x + y) (months_so_far file here k (omega arith)) (month_part k (file k) (omega arith) (here k (omega arith)))
      ∙ ap (λ (x : ℕ). part_of_e r.e 0 (planned_before r k) (planned_whole r) + part_of_e r.e x (part_weight r k) (planned_whole r)) (sym (zero-add _))
      ∙ parts_add_up r.e 0 (planned_before r k) (part_weight r k) (planned_whole r)

  all_months : (file : ℕ → MonthFile) → ((k : ℕ) → k < month_count r → InMonth r k (file k))
      → sum (month_count r) (λ k. sum (H (file k)) (reading_figure (file k) (planned_reading r k))) ≡ r.e
  unfolding planned_before planned_whole
  all_months file here = months_so_far file here (month_count r) (omega arith) ∙ part_is_all r.e (planned_whole r) (follows_is r.e (planned_whole r) followed)

-- WHAT W3 ASKS OF A PLAN, of every reading that the planner does not refuse
pub plan_kept : (r : LongReading) → first (plan_checks r) ≡ accepted → PlanKept r
unfolding plan_checks first
plan_kept r ok =
    let both = both_accept (first (handed_checks r)) _ (sym (first_append (handed_checks r) _) ∙ ok) in
    let p : Plannable r = plannable r ((accepted_exactly (handed_checks r)).0 both.0) in
    let f : follows_whole r.e (planned_whole r) ≡ true = (unless_exactly _ _ _).0 (sym (then_accepted _) ∙ both.1) in
    record { adds_up_holds = all_months r p f; each_hour = λ k m b here. month_hour r p f k m b here; taken = long_taken r p f; passes = λ k m b here. month_passes r p f k m b here }

-- A READING IN THIS MONTH NEVER MEETS 18, once its curve has passed 10
pub this_month_fits : (m : MonthFile) (r : Reading) → r.b ≤ H m → H m ≤ most_hours → ((t : ℕ) → t < H m → curve m t ≤ greatest_curve_number)
    → weights_fit (weight_before this_month) (S m r) (whole_weight this_month (S m r)) ≡ true
unfolding weights_fit weight_before whole_weight S weight_of
this_month_fits m r ends few fits =
    let light : S m r ≤ (r.b - r.a) * greatest_curve_number = sum_at_most (r.b - r.a) (weight_of m r) greatest_curve_number (λ k b. fits (r.a + k) (omega arith)) in
    rw (le-leb (0 + S m r) (S m r) (omega arith), le-leb (S m r) greatest_whole (omega arith))
