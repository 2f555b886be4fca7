-- The line of an hour from the month's figures hour by hour.
use mathlib.Core.List.{List}
use mathlib.Core.Path.{◌≡◌, refl, ◌∙◌, ap, ap₂}
use Prim.Native.Nat.{ℕ, ◌≤◌, ◌<◌}
use native.Mathlib.Omega.{arith}
use lib.IntN.{ℤ, pos, ◌-ℤ◌}
use lib.ListN.{length, get_or}
use Rattle.report_text.specs.Lines.{Known, Inside}
use Rattle.month_prepare.proofs.Preparing.{few_hours}
use Rattle.file_fields.specs.Fields.{FixedAsked}
use Rattle.file_sections.specs.declared.Sections.{Sections}
use Rattle.file_sections.proofs.AcceptedFile.{hours_are}
use Rattle.report_lines.specs.HourText.{hour_text}
use Rattle.rules.specs.HoursReport.{hour_line, all_distributed}
use Rattle.rules.specs.Limits.{most_hours, greatest_periodised}
use Rattle.rules.specs.Month.{month_of, flows_at, applied_flows, fixed_wh, applied_wh, curve, all_periodised, loss}
use Rattle.rules.specs.MonthFile.{MonthFile, H}
use Rattle.rules.specs.Reconciliation.{grid_loss}
use Rattle.rules.specs.Words.{figures}
use Rattle.rules.proofs.Loops.{figures_length, figures_at}

-- lists that are known to be the month's figures
listed : {A : Type 0} {l : List A} {n : ℕ} (f : ℕ → A) → l ≡ figures n f → length l ≡ n
listed {A} {l} {n} f e = ap length e ∙ figures_length n f

there : {A : Type 0} {l : List A} {n : ℕ} (f : ℕ → A) → l ≡ figures n f → (d : A) {t : ℕ} → t < n → get_or l t d ≡ f t
there {A} {l} {n} f e d {t} b = ap (λ (k : List A). get_or k t d) e ∙ figures_at n f t d b

module _ {file : List ℕ} {s : Sections} {fixed applied curveNumbers : List ℕ} {distributed : List ℤ} {periodised : List ℕ} (known : Known file s fixed applied curveNumbers distributed periodised) where
  abbrev m : MonthFile
  m = month_of file

  pub few : H m ≤ most_hours
  few = omega (arith, few_hours file s known.read, hours_are file s known.read)

  fixed_at : {t : ℕ} → t < H m → get_or fixed t 0 ≡ fixed_wh m t
  fixed_at b = there (fixed_wh m) known.fixed_is 0 b

  applied_at : {t : ℕ} → t < H m → get_or applied t 0 ≡ applied_wh m t
  applied_at b = there (applied_wh m) known.applied_is 0 b

  curve_at_lem : {t : ℕ} → t < H m → get_or curveNumbers t 0 ≡ curve m t
  curve_at_lem b = there (curve m) known.curve_is 0 b

  distributed_at_lem : {t : ℕ} → t < H m → get_or distributed t (pos 0) ≡ all_distributed m t
  distributed_at_lem b = there (all_distributed m) known.distributed_is (pos 0) b

  periodised_at : {t : ℕ} → t < H m → get_or periodised t 0 ≡ all_periodised m t
  periodised_at b = there (all_periodised m) known.periodised_is 0 b

  module _ {t : ℕ} (hour : Inside file t 1) where
    this : t < H m
    this = omega (arith, hour.inside)

    pub short : t < most_hours
    short = omega (arith, this, few)

    pub in_fixed : t < length fixed
    in_fixed = omega (arith, this, listed (fixed_wh m) known.fixed_is)

    pub in_applied : t < length applied
    in_applied = omega (arith, this, listed (applied_wh m) known.applied_is)

    pub in_curve : t < length curveNumbers
    in_curve = omega (arith, this, listed (curve m) known.curve_is)

    pub in_distributed : t < length distributed
    in_distributed = omega (arith, this, listed (all_distributed m) known.distributed_is)

    pub in_periodised : t < length periodised
    in_periodised = omega (arith, this, listed (all_periodised m) known.periodised_is)

    pub hour_asked : FixedAsked file s t
    hour_asked = record { accepted = known.read; hour = omega (arith, this, hours_are file s known.read) }

    pub in_limit : get_or periodised t 0 ≤ greatest_periodised
    in_limit = rw (periodised_at this) (known.in_limit t this)

    loss_is : {l : ℤ} → l ≡ pos (get_or applied t 0) -ℤ pos (get_or periodised t 0) → l ≡ loss m t
    unfolding loss grid_loss all_periodised
    loss_is e =
        e ∙ ap₂ (λ (x y : ℕ). pos x -ℤ pos y) (applied_at this) (periodised_at this)

    -- THE LINE OF THE HOUR
    pub hour_text_lem :
        {a b : ℕ}
        → a ≡ (flows_at m.fixed t).status
        → b ≡ (applied_flows m t).status
        → {d l : ℤ}
        → d ≡ get_or distributed t (pos 0)
        → l ≡ pos (get_or applied t 0) -ℤ pos (get_or periodised t 0)
        → hour_text t a b (get_or fixed t 0) (get_or applied t 0) (get_or curveNumbers t 0) d (get_or periodised t 0) l ≡ hour_line m t
    unfolding hour_text hour_line
    hour_text_lem {a} {b} of-a of-b {d} {l} of-d of-l =
        rw (
          of-a,
          of-b,
          fixed_at this,
          applied_at this,
          curve_at_lem this,
          of-d ∙ distributed_at_lem this,
          periodised_at this,
          loss_is of-l,
        ) refl
