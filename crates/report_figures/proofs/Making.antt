-- The checks of a month one after the other: one before the hours refuses, or an hour, or the numbers are the month's.
use mathlib.Core.List.{List}
use mathlib.Core.Path.{◌≡◌, refl, sym, ◌∙◌, ap, subst}
use Prim.Native.Nat.{ℕ, suc, ◌-◌, ◌≤◌}
use native.Mathlib.Nat.{le_refl}
use native.Mathlib.Omega.{arith}
use lib.IntN.{ℤ}
use lib.ListN.{length, take}
use borrow.Rule.Slice.PartMut.{mid_of, put_mid}
use Rattle.std.specs.Prelude.{Result, Ok, Err, ⊤}
use Rattle.answer.specs.Said.{said, verdict_of}
use Rattle.answer.specs.declared.Refused.{Refused}
use Rattle.report_distances.specs.declared.Distances.{Distances}
use Rattle.month_walk.proofs.Chain as Chain
use Rattle.month_prepare.specs.Checks.{making_verdict, Making, MadeIs}
use Rattle.month_prepare.specs.declared.Made.{Made}
use Rattle.month_prepare.proofs.Preparing.{still_as_many, lent_again}
use Rattle.file_sections.specs.declared.Sections.{Sections}
use Rattle.file_sections.proofs.AcceptedFile.{hours_are}
use Rattle.report_figures.specs.Hourly.{HourlyAsked, HourlyMade, HourlyIs, PassedIs}
use Rattle.report_figures.specs.Passing.{SumsLent, MonthPassed}
use Rattle.report_figures.specs.declared.Hourly as D
use Rattle.report_figures.proofs.OneHour.{w_is}
use Rattle.month_walk.specs.Hours.{all_limited}
use Rattle.month_walk.proofs.Carrying.{carried_start}
use Rattle.setting.specs.Asked.{asked}
use Rattle.setting.specs.declared.Setting.{Setting}
use Rattle.rules.specs.Month.{month_of, month_verdict, periodised_verdict}
use Rattle.rules.specs.MonthFile.{MonthFile, H}
use Rattle.rules.specs.Refusals.{accepted}
use Rattle.rules.proofs.Loops.{fill_end}
use Rattle.rules.proofs.Month.{Judged, heading_right, periodised_at_most}
use Rattle.rules.proofs.Refusals.{in_turn_exactly}

-- a month has an hour
last_hour : (m : MonthFile) → Judged m → suc (H m - 1) ≡ H m
unfolding H
last_hour m j = omega (arith, (heading_right m j).hours.0)

-- what is told of it, once its hours are passed
abbrev numbers_of : Made → Distances → D.Hourly
numbers_of made x = record { estimated = made.estimated; w = made.carries.w; distances = x }

-- before the hours nothing refuses, so they decide
hours_decide : (setting : Setting) (m : MonthFile) → making_verdict (asked setting) m ≡ accepted → month_verdict (asked setting) m ≡ all_limited m
hours_decide setting m none = Chain.hours_decide setting m {A = ⊤} {made = Ok tt} (sym none) refl

-- refused, by a check before the hours or by an hour
refused_month :
    {setting : Setting} {m : MonthFile} {r : Result D.Hourly Refused} {x : Refused} {fixed refixed numbers : List ℕ} {d : List ℤ} {p : List ℕ}
    → r ≡ Err x
    → verdict_of x ≡ month_verdict (asked setting) m
    → HourlyIs setting m r fixed refixed numbers d p
refused_month on is = record { verdict = ap said on ∙ is; made = λ h a. let z : ◌≡◌ {A = ℕ} 0 1 = cc in absurd (omega arith) }

module _ {m : MonthFile} {r : Result Distances Refused} {d : List ℤ} {p : List ℕ} (passed : MonthPassed m r d p) {fixed refixed numbers : List ℕ} where
  pub hour_refused : {x : Refused} {out : Result D.Hourly Refused} → r ≡ Err x → out ≡ Err x → PassedIs m out fixed refixed numbers d p
  hour_refused e on =
      record { under = λ setting none. refused_month on (sym (ap said e) ∙ passed.verdict ∙ sym (hours_decide setting m none)) }

  module _ {made : Made} {begun : List ℕ} (before : Making m made fixed refixed numbers begun) {x : Distances} (done : r ≡ Ok x) where
    numbers_are : HourlyMade m (numbers_of made x) fixed refixed numbers d p
    numbers_are =
        let g = passed.after x done in
        record {
          judged = before.judged;
          estimated = before.estimated;
          w_is = w_is m before.judged (carried_start m before.started);
          fixed_is = before.fixed_is;
          refixed_is = before.refixed_is;
          curve_is = before.curve_is;
          distributed_is = fill_end g.distributed (le_refl (H m));
          periodised_is = fill_end g.periodised (le_refl (H m));
          in_limit = λ t b. periodised_at_most m t ((in_turn_exactly (H m) (periodised_verdict m)).0 (sym passed.verdict ∙ ap said done) t b);
          smallest = g.measured.smallest (H m - 1) (last_hour m before.judged);
          largest = g.measured.largest (H m - 1) (last_hour m before.judged);
        }

    pub numbers_made : PassedIs m (Ok (numbers_of made x)) fixed refixed numbers d p
    numbers_made =
        record {
          under = λ setting none.
              record {
                verdict = sym (ap said done) ∙ passed.verdict ∙ sym (hours_decide setting m none);
                made = λ h same. let is : numbers_of made x ≡ h = cc in rw (← is) numbers_are;
              };
        }

-- the places lent for the hours' sums
pub sums_lent :
    {file : List ℕ} {s : Sections} {fixed refixed numbers distributed periodised : ℕ}
    → HourlyAsked file s fixed refixed numbers distributed periodised
    → SumsLent (month_of file) distributed periodised
sums_lent {file} {s} asked =
    record {
      distributed_size = asked.distributed_size ∙ hours_are file s asked.accepted;
      periodised_size = asked.periodised_size ∙ hours_are file s asked.accepted;
    }

-- the beginnings that were made, lent again
module _ {setting : Setting} {m : MonthFile} {made : Result Made Refused} {f r c part : List ℕ} (is : MadeIs setting m made f r c part) where
  -- not made, as a check before the hours refuses
  pub not_made :
      {x : Refused} {out : Result D.Hourly Refused} {d : List ℤ} {p : List ℕ}
      → made ≡ Err x
      → out ≡ Err x
      → HourlyIs setting m out f r c d p
  not_made e on = refused_month on (sym (ap said e) ∙ Chain.refused_before setting m is.verdict e)

  module _ (n : ℕ) (lent : List ℕ) {places : ℕ} (size : length lent ≡ places) (enough : n ≤ places) (same : length part ≡ length (mid_of 0 (n - 0) lent)) where
    pub part_enough : n ≤ length (put_mid 0 (n - 0) lent part)
    part_enough = omega (arith, still_as_many n lent part size enough same)

    pub made_again : {x : Made} → made ≡ Ok x → Making m x f r c (take (n - 0) (put_mid 0 (n - 0) lent part))
    made_again {x} done =
        subst (λ (l : List ℕ). Making m x f r c l) (sym (lent_again n lent part size enough same)) (is.made x done)

  pub none_refused : {x : Made} → made ≡ Ok x → making_verdict (asked setting) m ≡ accepted
  none_refused done = sym is.verdict ∙ ap said done
