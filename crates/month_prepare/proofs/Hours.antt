-- The two series one after the other: the first refusal of either, and where none refuses both are known, with the number of applied hours that are estimated.
use mathlib.Core.Bool.{true, false}
use mathlib.Core.List.{List, [], ◌∷◌}
use mathlib.Core.Logic.{◌⊎◌, ⊎_elim}
use mathlib.Core.Path.{◌≡◌, refl, sym, ◌∙◌, ap}
use Prim.Native.Nat.{ℕ, ◌<◌}
use native.Mathlib.Omega.{arith}
use lib.ListN.{length}
use Rattle.std.specs.Prelude.{Result, Ok, Err}
use Rattle.answer.specs.Said.{said, verdict_of}
use Rattle.answer.specs.declared.Refused.{Refused}
use Rattle.answer.proofs.Checks.{refused_stops, done_passes}
use Rattle.file_sections.specs.Walk.{Accepted}
use Rattle.file_sections.specs.declared.Sections.{Sections}
use Rattle.file_sections.proofs.AcceptedFile.{month_whole, refixed_are}
use Rattle.month_series.specs.Series.{series_of, residual_at, SeriesIs}
use Rattle.month_prepare.specs.Checks.{hours_verdict, BothKnown}
use Rattle.rules.specs.Flows.{Flows, applied_series}
use Rattle.rules.specs.Month.{month_of, fixed_wh, estimated_hours, is_estimated, hour_verdict}
use Rattle.rules.specs.MonthFile.{MonthFile, H}
use Rattle.rules.specs.Refusals.{accepted, in_turn}
use Rattle.rules.specs.Words.{count, figures}
use Rattle.rules.proofs.Refusals.{refused_not_accepted}

-- what is refused gives nothing, and is not accepted
pub no_figures : {A : Type 0} {r : Result A Refused} {x : Refused} {given : A} → r ≡ Err x → r ≡ Ok given → ⊥
no_figures e f = let z : ◌≡◌ {A = ℕ} 0 1 = cc in omega arith

pub not_accepted : {A : Type 0} {r : Result A Refused} {x : Refused} → r ≡ Err x → said r ≡ accepted → ⊥
not_accepted e f = refused_not_accepted (sym (ap said e) ∙ f)

-- and what is given is one
pub given_same : {A : Type 0} {x y : A} → ◌≡◌ {A = Result A Refused} (Ok x) (Ok y) → x ≡ y
given_same e = cc

module _ (file : List ℕ) (s : Sections) (ok : Accepted file s) where
  abbrev m : MonthFile
  m = month_of file

  all_fixed : length m.fixed ≡ H m
  all_fixed = (month_whole file s ok).all_fixed

  -- one of the two is refused
  series_refused : {r : Result ℕ Refused} {x : Refused} → r ≡ Err x → verdict_of x ≡ hours_verdict m → (fixed refixed : List ℕ) → BothKnown m r fixed refixed
  series_refused on v fixed refixed =
      record {
        verdict = ap said on ∙ v;
        fixed_is = λ a. absurd (not_accepted on a);
        refixed_is = λ a. absurd (not_accepted on a);
        estimated = λ n f. absurd (no_figures on f);
      }

  module _ {by-fixed : Result ℕ Refused} {fixed : List ℕ} (first : SeriesIs (series_of m false) by-fixed fixed) where
    fixed_verdict : said by-fixed ≡ in_turn (H m) (hour_verdict m.fixed)
    unfolding series_of
    fixed_verdict = first.verdict ∙ ap (λ (n : ℕ). in_turn n (hour_verdict m.fixed)) all_fixed

    pub fixed_refused : {x : Refused} → by-fixed ≡ Err x → {r : Result ℕ Refused} → r ≡ Err x → (refixed : List ℕ) → BothKnown m r fixed refixed
    unfolding hours_verdict
    fixed_refused e on refixed =
        series_refused on (sym (ap said e) ∙ refused_stops fixed_verdict e (in_turn (length m.refixed) (hour_verdict m.refixed))) fixed refixed

    module _ {a : ℕ} (read : by-fixed ≡ Ok a) {by-refixed : Result ℕ Refused} {refixed : List ℕ} (second : SeriesIs (series_of m true) by-refixed refixed) where
      -- the fixed hours are passed, so the refixed ones decide
      decides : said by-refixed ≡ hours_verdict m
      unfolding hours_verdict series_of
      decides = second.verdict ∙ sym (done_passes fixed_verdict read (in_turn (length m.refixed) (hour_verdict m.refixed)))

      pub refixed_refused : {x : Refused} → by-refixed ≡ Err x → {r : Result ℕ Refused} → r ≡ Err x → BothKnown m r fixed refixed
      refixed_refused e on = series_refused on (sym (ap said e) ∙ decides) fixed refixed

      module _ {b : ℕ} (read-too : by-refixed ≡ Ok b) where
        fixed_known : fixed ≡ figures (H m) (fixed_wh m)
        unfolding series_of residual_at fixed_wh
        fixed_known = first.figures (ap said read) ∙ ap (λ (n : ℕ). figures n (fixed_wh m)) all_fixed

        refixed_known : refixed ≡ figures (length m.refixed) (residual_at m.refixed)
        unfolding series_of
        refixed_known = second.figures (ap said read-too)

        known : (n : ℕ) → n ≡ estimated_hours m → BothKnown m (Ok n) fixed refixed
        known n e =
            record {
              verdict = sym (ap said read-too) ∙ decides;
              fixed_is = λ v. fixed_known;
              refixed_is = λ v. refixed_known;
              estimated = λ k f. sym (given_same f) ∙ e;
            }

        -- without refixed hours the fixed ones are applied
        pub fixed_applied : s.refixed ≡ 0 → BothKnown m (Ok a) fixed refixed
        unfolding estimated_hours series_of applied_series
        fixed_applied none =
            known a
            (first.estimated a read ∙ ap (λ (n : ℕ). count n (is_estimated m.fixed)) all_fixed
            ∙ ap (λ (l : List Flows). count (H m) (is_estimated (applied_series m.fixed l))) (sym (empty m.refixed (sym (refixed_are file s ok) ∙ none))))
          where
            empty : (l : List Flows) → length l ≡ 0 → l ≡ []
            empty [] e = refl
            empty (f ∷ fs) e = absurd (omega arith)

        pub refixed_applied : 0 < s.refixed → BothKnown m (Ok b) fixed refixed
        unfolding estimated_hours series_of applied_series
        refixed_applied some =
            let all : length m.refixed ≡ H m =
            ⊎_elim (λ (z : length m.refixed ≡ 0). absurd (omega (arith, refixed_are file s ok))) (λ (h : length m.refixed ≡ H m). h)
            (month_whole file s ok).none_or_all_refixed in
            known b
            (second.estimated b read-too ∙ ap (λ (n : ℕ). count n (is_estimated m.refixed)) all
            ∙ ap (λ (l : List Flows). count (H m) (is_estimated l)) (there m.refixed (omega (arith, refixed_are file s ok))))
          where
            there : (l : List Flows) → 0 < length l → l ≡ applied_series m.fixed l
            there [] b = absurd (omega arith)
            there (f ∷ fs) b = refl
