-- The weights of a reading over months as the code adds them up, in slices of the joined curves, and the records one month after the other.
use mathlib.Core.List.{List, []}
use mathlib.Core.Bool.{Bool, true, false, not}
use mathlib.Core.Path.{◌≡◌, refl, sym, ◌∙◌, ap, ap₂, subst}
use Prim.Native.Nat.{ℕ, suc, ◌+◌, ◌-◌, ◌≤◌, ◌<◌}
use native.Mathlib.Numerals.{add-one}
use native.Mathlib.Omega.{arith}
use lib.ListN.{length, take, drop, set, replicate, length-drop}
use lib.Seq.{get_or-take, get_or-drop, length-take-le}
use Rattle.std.specs.Prelude.{Result, Ok, Err, ⊤}
use Rattle.answer.specs.Said.{said}
use Rattle.answer.specs.declared.Refused.{Refused}
use Rattle.answer.specs.declared.Refusal.TheVariants.{NothingToFollow}
use Rattle.answer.proofs.Checks.{refused_stops, done_passes, last_check, accepted_by, passes, stops}
use Rattle.apportion.proofs.Arrays.{UptoOf, upto_start, upto_next, upto_end, filled_in_full}
use Rattle.plan.specs.Planning.{of_all, MakingAsked, no_reading, record_of, entry_of}
use Rattle.plan.specs.Promised.{RecordsOf, Promised}
use Rattle.plan.specs.declared.Planned.{Planned}
use Rattle.plan_checks.specs.Handed.{handed, of_span, PartsInside}
use Rattle.record.specs.declared.Over.TheVariants.{ManyMonths}
use Rattle.record.specs.declared.Reading.{Reading}
use Rattle.rules.specs.Limits.{most_months, greatest_energy}
use Rattle.rules.specs.Month.{follows_whole}
use Rattle.rules.specs.Plan.{LongReading, month_count, month_start, curve_of_month, part_from, part_to, part_hours, part_weight, planned_before, planned_whole, reading_hours}
use Rattle.rules.specs.Plan.{handed_checks, plan_checks}
use Rattle.rules.specs.Refusals.{nothing_to_follow, unless, and_then, first}
use Rattle.rules.specs.Words.{sum, at}
use Rattle.rules.proofs.Plan.{Weighed, Plannable, plannable, whole_is, within_curves, whole_fits, part_weighs}
use Rattle.rules.proofs.Refusals.{accepted_exactly, first_append}
use Rattle.rules.proofs.Sums.{sum_cong, sum_rises}

-- a slice of a list weighs what the list weighs there
pub slice_weighs : (l : List ℕ) (start n : ℕ) → start + n ≤ length l → sum (length (take n (drop start l))) (at (take n (drop start l))) ≡ sum n (λ k. at l (start + k))
unfolding at
slice_weighs l start n b =
    ap (λ (m : ℕ). sum m (at (take n (drop start l)))) (length-take-le n (drop start l) (rw (length-drop start l) (omega arith)))
    ∙ sum_cong n (λ k c. get_or-take n (drop start l) k 0 c ∙ get_or-drop start l k 0)

-- THE WHOLE
module _ (a b : ℕ) (hours curves : List ℕ) (w : Weighed (of_all a b hours curves)) where
  pub parts_of_it : PartsInside a b hours
  unfolding month_count part_from part_to
  parts_of_it = record { few_months = w.few_months; forwards = λ k c. let p = w.some_part k c in omega (arith, p) }

  module _ {start n : ℕ} (start_is : start ≡ a) (n_is : n ≡ reading_hours (of_span a b hours)) where
    hours_of_it : n ≡ reading_hours (of_all a b hours curves)
    unfolding reading_hours part_hours part_from part_to month_count
    hours_of_it = n_is

    pub ends_inside : start + n ≤ length curves
    ends_inside = omega (arith, hours_of_it, within_curves (of_all a b hours curves) w)

    -- the reading's hours of the joined curves
    abbrev its_hours : List ℕ
    its_hours = take (start + n - start) (drop start curves)

    as_many : start + n - start ≡ n
    as_many = omega arith

    pub few_weights : length its_hours ≤ 4294967296
    few_weights =
        let size : length its_hours ≡ start + n - start = length-take-le (start + n - start) (drop start curves) (rw (length-drop start curves) (omega (arith, ends_inside))) in
        omega (arith, hours_of_it, w.not_too_long)

    pub whole_weighs : {v : ℕ} → v ≡ sum (length its_hours) (at its_hours) → v ≡ planned_whole (of_all a b hours curves)
    whole_weighs e =
        e ∙ slice_weighs curves start (start + n - start) (omega (arith, ends_inside))
        ∙ ap₂ (λ (s m : ℕ). sum m (λ k. at curves (s + k))) start_is (as_many ∙ hours_of_it)
        ∙ sym (whole_is (of_all a b hours curves) w)

-- THE PART OF A MONTH, by the code's two numbers
module _ (e a b : ℕ) (parties hours curves : List ℕ) (k : ℕ) where
  abbrev long : LongReading
  long = handed e a b parties hours curves

  pub from_of : {f : ℕ} → f ≡ part_from (of_span a 0 []) k → f ≡ part_from long k
  unfolding part_from
  from_of f-is = f-is

  pub to_of : {t : ℕ} → t ≡ part_to (of_span 0 b hours) k → t ≡ part_to long k
  unfolding part_to month_count
  to_of t-is = t-is

  -- and its record
  pub record_made : {f t before whole : ℕ} → f ≡ part_from (of_span a 0 []) k → t ≡ part_to (of_span 0 b hours) k → before ≡ planned_before long k → whole ≡ planned_whole long
      → record { party = at parties k; a = f; b = t; e_wh = e; over = ManyMonths before whole } ≡ record_of long k
  unfolding record_of
  record_made f-is t-is b-is w_is = rw (from_of f-is, to_of t-is, b-is, w_is)

-- A LOOP that has made the records of the first k months
pub record Made (r : LongReading) (records : List Reading) (before start k : ℕ) : Type 0 where
  pub upto : UptoOf most_months no_reading (record_of r) (month_count r) k records
  pub before_is : before ≡ planned_before r k
  pub start_is : start ≡ month_start r k

pub made_start : (r : LongReading) → Made r (replicate most_months no_reading) 0 0 0
unfolding planned_before month_start sum
made_start r = record { upto = upto_start no_reading (record_of r) (month_count r); before_is = refl; start_is = refl }

module _ {r : LongReading} {whole : ℕ} (a : MakingAsked r whole) {records : List Reading} {before start k : ℕ} (m : Made r records before start k) (b : k < month_count r) where
  w : Weighed r
  w = a.weighed

  -- where the month ends in the joined curves
  pub month_ends : start + at r.hours k ≤ length r.curves
  unfolding month_start sum
  month_ends = omega (arith, m.start_is, w.all_curves, sum_rises (at r.hours) {k = suc k} {n = month_count r} (omega arith))

  module _ {from to : ℕ} (from_is : from ≡ part_from r k) (to_is : to ≡ part_to r k) where
    pub rises : from ≤ to
    rises = omega (arith, w.some_part k b)

    pub part_ends : start + to ≤ length r.curves
    part_ends = omega (arith, month_ends, w.part_inside k b)

    -- its hours of the joined curves
    abbrev part : List ℕ
    part = take (start + to - (start + from)) (drop (start + from) r.curves)

    pub few_hours : length part ≤ 4294967296
    few_hours =
        let size : length part ≡ start + to - (start + from) =
        length-take-le (start + to - (start + from)) (drop (start + from) r.curves) (rw (length-drop (start + from) r.curves) (omega (arith, rises, part_ends))) in
        omega (arith, w.part_inside k b, w.few_hours k b)

    -- the part's own weight
    module _ {own : ℕ} (own_is : own ≡ sum (length part) (at part)) where
      own_weighs : own ≡ part_weight r k
      unfolding part_weight part_hours curve_of_month
      own_weighs =
          let size : start + to - (start + from) ≡ part_to r k - part_from r k = omega arith in
          own_is ∙ slice_weighs r.curves (start + from) (start + to - (start + from)) (omega (arith, rises, part_ends))
          ∙ ap (λ (n : ℕ). sum n (λ h. at r.curves (start + from + h))) size
          ∙ sum_cong (part_to r k - part_from r k) (λ h c. ap (at r.curves) (omega (arith, m.start_is)))

      pub before_small : before + own ≤ 8784000000000
      before_small = omega (arith, m.before_is, own_weighs, part_weighs r w k b, whole_fits r w)

      pub made_next : {x : Reading} → x ≡ record_of r k → {hours-here : ℕ} → hours-here ≡ at r.hours k → Made r (set records k x) (before + own) (start + hours-here) (k + 1)
      unfolding planned_before month_start sum
      made_next x-is h-is =
          record {
            upto = upto_next m.upto b w.few_months x-is;
            before_is = rw (add-one k) (ap₂ (λ (x y : ℕ). x + y) m.before_is own_weighs);
            start_is = rw (add-one k) (ap₂ (λ (x y : ℕ). x + y) m.start_is h-is);
          }

pub made_all : (r : LongReading) {records : List Reading} {before start k : ℕ} → Made r records before start k → month_count r ≤ k → {n : ℕ} → n ≡ month_count r
    → RecordsOf r (record { months = n; records = records })
unfolding entry_of
made_all r m b is = record { months = is; records = filled_in_full (upto_end m.upto b) }

-- THE ANSWER
-- a refusal gives no records
no_records : {r : LongReading} {planned : Result Planned Refused} {x : Refused} → planned ≡ Err x → said planned ≡ first (plan_checks r) → Promised r planned
no_records on says = record { answer = says; records = λ p given. cc }

module _ (e a b : ℕ) (parties hours curves : List ℕ) (fit : Result ⊤ Refused) (says : said fit ≡ first (handed_checks (handed e a b parties hours curves))) where
  abbrev reading : LongReading
  reading = handed e a b parties hours curves

  -- 13 after the others
  last : first (plan_checks reading) ≡ and_then (first (handed_checks reading)) (unless (follows_whole e (planned_whole reading)) nothing_to_follow 0)
  unfolding plan_checks
  last = first_append (handed_checks reading) _ ∙ ap (and_then (first (handed_checks reading))) (sym (last_check _))

  pub refused_under : {x : Refused} {planned : Result Planned Refused} → fit ≡ Err x → planned ≡ Err x → Promised reading planned
  refused_under told on = no_records on (ap said on ∙ sym (ap said told) ∙ refused_stops says told _ ∙ sym last)

  module _ {given : ⊤} (passed : fit ≡ Ok given) where
    able : Plannable reading
    able = plannable reading ((accepted_exactly (handed_checks reading)).0 (accepted_by says passed))

    pub weighed_all : Weighed (of_all a b hours curves)
    unfolding month_count month_start part_from part_to part_hours reading_hours
    weighed_all =
        let w : Weighed reading = able.weighed in
        record {
          some_months = w.some_months;
          few_months = w.few_months;
          few_hours = w.few_hours;
          all_curves = w.all_curves;
          some_part = w.some_part;
          part_inside = w.part_inside;
          not_too_long = w.not_too_long;
          curve_fits_holds = w.curve_fits_holds;
        }

    pub energy_small : e ≤ greatest_energy
    energy_small = able.energy

    left : first (plan_checks reading) ≡ unless (follows_whole e (planned_whole reading)) nothing_to_follow 0
    left = last ∙ done_passes says passed _

    module _ {whole : ℕ} (whole-there : whole ≡ planned_whole (of_all a b hours curves)) where
      whole_here : whole ≡ planned_whole reading
      unfolding planned_whole part_weight part_hours curve_of_month month_start month_count part_from part_to
      whole_here = whole-there

      pub making_asked : MakingAsked reading whole
      making_asked = record { weighed = able.weighed; as_many_parties = able.as_many_parties; whole_is = whole_here }

      module _ {t : Bool} (t-is : t ≡ follows_whole e whole) where
        tested : t ≡ follows_whole e (planned_whole reading)
        tested = t-is ∙ ap (follows_whole e) whole_here

        pub nothing_under : not t ≡ true → Promised reading (Err (NothingToFollow, 0))
        nothing_under off = no_records refl (sym (left ∙ stops nothing_to_follow 0 tested off))

        pub made_under : not t ≡ false → {p : Planned} → RecordsOf reading p → Promised reading (Ok p)
        made_under on {p} m =
            record {
              answer = sym (left ∙ passes nothing_to_follow 0 tested on);
              records = λ q given. let same : p ≡ q = cc in subst (RecordsOf reading) same m;
            }
