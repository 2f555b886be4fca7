-- "10 by hour; 13 by reading": of hours that are judged, the curve service refuses nothing but 10, and its figures are the month's curve.
use mathlib.Core.List.{List}
use mathlib.Core.Path.{◌≡◌, refl, sym, ◌∙◌, ap, ap₂}
use Prim.Native.Nat.{ℕ, suc, ◌≤◌, ◌<◌}
use native.Mathlib.Omega.{arith}
use borrow.Author.Tests.{eq-eqb, le-leb}
use lib.Dec.{eqb, leb}
use lib.ListN.{length}
use Rattle.std.specs.Prelude.{Result, Ok, Err, ⊤}
use Rattle.answer.specs.Said.{said}
use Rattle.answer.specs.declared.Refused.{Refused}
use Rattle.answer.proofs.Checks.{refused_stops, done_passes}
use Rattle.file_sections.specs.declared.Sections.{Sections}
use Rattle.month_series.specs.Series.{beginning, beginnings_of}
use Rattle.month_prepare.proofs.Hours.{not_accepted}
use Rattle.month_prepare.specs.Checks.{curve_readings_verdict, CurveAsked, CurveKnown}
use Rattle.rules.specs.Flows.{curve_number}
use Rattle.rules.specs.Limits.{most_hours, greatest_w, greatest_residual, greatest_curve_number}
use Rattle.rules.specs.Month.{month_of, fixed_wh, month_w, curve, curve_verdict, reading_verdict}
use Rattle.rules.specs.MonthFile.{MonthFile, H}
use Rattle.rules.specs.Refusals.{wrong_length, out_of_range, w_out_of_range, residual_too_large, curve_too_large, Verdict, accepted, unless, and_then, first, in_turn, afterwards}
use Rattle.rules.specs.Services.{each_at, check_at, curve_fits, curve_checks, curve_at, curve_figures}
use Rattle.rules.specs.Words.{at, at_most, within, figures}
use Rattle.rules.proofs.Loops.{figures_length, figures_at, figures_cong, in_turn_cong}
use Rattle.rules.proofs.Month.{W_in_range, heading_right, fixed_hours_have}
use Rattle.rules.proofs.Refusals.{in_turn_exactly, then_accepted}
use Rattle.rules.proofs.Sums.{sum_cong}

module _ {file : List ℕ} {s : Sections} {fixed : List ℕ} {w lent beginnings : ℕ} (asked : CurveAsked file s fixed w lent beginnings) where
  abbrev m : MonthFile
  m = month_of file

  fixed_many : length fixed ≡ H m
  fixed_many = ap length asked.fixed_is ∙ figures_length (H m) (fixed_wh m)

  fixed_at : (t : ℕ) → t < H m → at fixed t ≡ fixed_wh m t
  unfolding at
  fixed_at t b = ap (λ (l : List ℕ). at l t) asked.fixed_is ∙ figures_at (H m) (fixed_wh m) t 0 b

  lengths : unless (eqb lent (length fixed)) wrong_length 0 ≡ accepted
  unfolding unless
  lengths = rw (eq-eqb lent (length fixed) (asked.curve_size ∙ sym fixed_many)) refl

  pub few : H m ≤ most_hours
  unfolding H
  few = (heading_right m asked.judged).hours.1

  some : 1 ≤ H m
  unfolding H
  some = (heading_right m asked.judged).hours.0

  hours_right : unless (within 1 most_hours (length fixed)) out_of_range 0 ≡ accepted
  unfolding unless within
  hours_right = rw (fixed_many, le-leb 1 (H m) some, le-leb (H m) most_hours few) refl

  w_right : unless (within 1 greatest_w w) w_out_of_range 0 ≡ accepted
  unfolding unless within
  w_right = rw (asked.w_is, le-leb 1 (month_w m) (W_in_range m asked.judged).0, le-leb (month_w m) greatest_w (W_in_range m asked.judged).1) refl

  residual_right : (t : ℕ) → t < H m → check_at fixed (at_most greatest_residual) residual_too_large t ≡ accepted
  unfolding check_at unless at_most fixed_wh
  residual_right t b =
      rw (fixed_at t b, le-leb (fixed_wh m t) greatest_residual (fixed_hours_have m asked.judged t b).at_most) refl

  residuals_right : each_at fixed (at_most greatest_residual) residual_too_large ≡ accepted
  unfolding each_at
  residuals_right =
      (in_turn_exactly (length fixed) (check_at fixed (at_most greatest_residual) residual_too_large)).1
      (λ t b. residual_right t (omega (arith, fixed_many)))

  curve_at_lem : (t : ℕ) → t < H m → curve_at fixed w t ≡ curve m t
  unfolding curve_at curve
  curve_at_lem t b = ap₂ curve_number (fixed_at t b) asked.w_is

  same_check : (t : ℕ) → t < H m → check_at fixed (curve_fits w) curve_too_large t ≡ curve_verdict m t
  unfolding check_at curve_fits curve_verdict curve
  same_check t b =
      ap₂ (λ (x y : ℕ). unless (leb (curve_number x y) greatest_curve_number) curve_too_large t) (fixed_at t b) asked.w_is

  -- THE CURVE SERVICE REFUSES 10 ALONE
  curve_judged : first (curve_checks fixed w lent) ≡ in_turn (H m) (curve_verdict m)
  unfolding curve_checks first and_then each_at
  curve_judged =
      rw (lengths, hours_right, w_right, residuals_right)
      (then_accepted (in_turn (length fixed) (check_at fixed (curve_fits w) curve_too_large))
      ∙ ap (λ (n : ℕ). in_turn n (check_at fixed (curve_fits w) curve_too_large)) fixed_many
      ∙ in_turn_cong (H m) same_check)

  module _ {fit : Result ⊤ Refused} (is : said fit ≡ first (curve_checks fixed w lent)) (old : List ℕ) {numbers : List ℕ} (holds : numbers ≡ afterwards (said fit) (curve_figures fixed w) old) where
    pub curve_refused : {x : Refused} → fit ≡ Err x → {r : Result ⊤ Refused} → r ≡ Err x → (begun : List ℕ) → CurveKnown m (said r) numbers begun
    unfolding curve_readings_verdict
    curve_refused e on begun =
        record {
          verdict = ap said on ∙ sym (ap said e) ∙ refused_stops (is ∙ curve_judged) e (in_turn (length m.readings) (reading_verdict m));
          curve_is = λ a. absurd (not_accepted on a);
          beginnings_are = λ a. absurd (not_accepted on a);
        }

    module _ (e : fit ≡ Ok tt) where
      pub numbers_are : numbers ≡ figures (H m) (curve m)
      unfolding afterwards curve_figures
      numbers_are =
          holds ∙ ap (λ (v : Verdict). afterwards v (curve_figures fixed w) old) (ap said e)
          ∙ ap (λ (n : ℕ). figures n (curve_at fixed w)) fixed_many
          ∙ figures_cong (H m) curve_at_lem

      pub numbers_many : length numbers ≡ H m
      numbers_many = ap length numbers_are ∙ figures_length (H m) (curve m)

      module _ {begun : List ℕ} (begins : begun ≡ figures (suc (length numbers)) (beginning (at numbers))) where
        number_at : (t : ℕ) → t < H m → at numbers t ≡ curve m t
        unfolding at
        number_at t b = ap (λ (l : List ℕ). at l t) numbers_are ∙ figures_at (H m) (curve m) t 0 b

        pub begun_are : begun ≡ beginnings_of m
        unfolding beginning
        begun_are =
            begins ∙ ap (λ (n : ℕ). figures (suc n) (beginning (at numbers))) numbers_many
            ∙ figures_cong (suc (H m)) (λ t b. sum_cong t (λ u c. number_at u (omega arith)))

        pub curve_known : {v : Verdict} → v ≡ in_turn (length m.readings) (reading_verdict m) → CurveKnown m v numbers begun
        unfolding curve_readings_verdict
        curve_known told =
            record {
              verdict = told ∙ sym (done_passes (is ∙ curve_judged) e (in_turn (length m.readings) (reading_verdict m)));
              curve_is = λ a. numbers_are;
              beginnings_are = λ a. begun_are;
            }
