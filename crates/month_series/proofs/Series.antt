-- The hours of a series, one after the other: what is left of them says what the whole says, the lent list has the residuals so far, and the estimated hours so
-- far are counted. And what the sections of an accepted file say of its series.
use mathlib.Core.Bool.{Bool, true, false, cond}
use mathlib.Core.List.{List}
use mathlib.Core.Path.{◌≡◌, refl, sym, ◌∙◌, ap}
use Prim.Native.Nat.{ℕ, ◌+◌, ◌≤◌, ◌<◌}
use native.Mathlib.Numerals.{add-one}
use native.Mathlib.Omega.{arith}
use lib.Dec.{eqb}
use lib.ListN.{length, set}
use Rattle.std.specs.Prelude.{Result, Ok, Err}
use Rattle.answer.specs.Said.{named}
use Rattle.answer.specs.declared.Refusal.{Refusal}
use Rattle.file_sections.specs.Walk.{Accepted}
use Rattle.file_fields.specs.Fields.{FixedIs, RefixedIs}
use Rattle.file_sections.specs.declared.Sections.{Sections}
use Rattle.file_sections.proofs.AcceptedFile.{month_whole, hours_are, refixed_are}
use Rattle.file_fields.proofs.FieldsRead.{fixed_read, refixed_read}
use Rattle.month_series.specs.Series.{series_of, residual_at, hours_in, HourAsked, estimated_one, SeriesIs}
use Rattle.month_series.proofs.OneHour.{figure_is}
use Rattle.record.specs.Record.{flows_of}
use Rattle.record.specs.declared.Flows as CFlows
use Rattle.residual.specs.Hour.{judgement, refusal_of}
use Rattle.residual.specs.declared.NoResidual.{NoResidual}
use Rattle.rules.specs.Flows.{Flows, Judgement, figure, no_figure, flows_in_range, judged, verdict_of}
use Rattle.rules.specs.Limits as Limits
use Rattle.rules.specs.Month.{month_of, flows_at, hour_verdict, is_estimated}
use Rattle.rules.specs.Words.{sum, count}
use Rattle.rules.proofs.Loops.{Looking, look_start, look_pass, look_stop, look_end, Filling, fill_start, fill_next, fill_end}
use Rattle.rules.proofs.Refusals.{refused_not_accepted}
use Rattle.rules.proofs.Whole.{every_at, FlowsRight}

module _ (file : List ℕ) (s : Sections) (ok : Accepted file s) where
  pub hours_many : (refixed : Bool) → hours_in s refixed ≡ length (series_of (month_of file) refixed)
  unfolding series_of
  hours_many true = refixed_are file s ok
  hours_many false = hours_are file s ok ∙ sym (month_whole file s ok).all_fixed

  pub flows_right : (refixed : Bool) (t : ℕ) → t < hours_in s refixed → flows_in_range (flows_at (series_of (month_of file) refixed) t) ≡ true
  unfolding series_of flows_at
  flows_right true t b = (every_at FlowsRight (month_of file).refixed (month_whole file s ok).refixed t _ (omega (arith, hours_many true))).0
  flows_right false t b = (every_at FlowsRight (month_of file).fixed (month_whole file s ok).fixed t _ (omega (arith, hours_many false))).0

-- an hour that is asked of either series, by the reader of that series
module _ {file : List ℕ} {s : Sections} {refixed : Bool} {t : ℕ} (a : HourAsked file s refixed t) where
  pub refixed_is : refixed ≡ true → {f : CFlows.Flows} → RefixedIs file t f → flows_of f ≡ flows_at (series_of (month_of file) refixed) t
  unfolding series_of
  refixed_is e is = rw e (refixed_read file s a.accepted is)

  pub fixed_is : refixed ≡ false → {f : CFlows.Flows} → FixedIs file t f → flows_of f ≡ flows_at (series_of (month_of file) refixed) t
  unfolding series_of
  fixed_is e is = rw e (fixed_read file s a.accepted is)

-- A loop at hour t of a series.
pub record Judging (series : List Flows) (out : List ℕ) (estimated t : ℕ) : Type 0 where
  pub looking : Looking (hour_verdict series) (length series) t
  pub filling : Filling (residual_at series) (length series) out t
  pub counted : estimated ≡ count t (is_estimated series)
  pub few : estimated ≤ t

pub judge_start : (series : List Flows) {out : List ℕ} → length out ≡ length series → Judging series out 0 0
unfolding count sum
judge_start series e =
    record { looking = look_start _ _; filling = fill_start _ e; counted = refl; few = omega arith }

one_or_none : (b : Bool) → cond b 1 0 ≤ 1
one_or_none true = omega arith
one_or_none false = omega arith

pub one_at_most : (status : ℕ) → estimated_one status ≤ 1
one_at_most status = one_or_none (eqb status Limits.estimated)

module _ {series : List Flows} {out : List ℕ} {n t : ℕ} (l : Judging series out n t) (b : t < length series) where
  -- the hour at t, as it was read and judged
  module _ {f : Flows} (here : f ≡ flows_at series t) {hour : Result ℕ NoResidual} (is : judgement hour ≡ judged f) where
    pub judge_next : {wh k : ℕ} → hour ≡ Ok wh → k ≡ estimated_one f.status → Judging series (set out t wh) (n + k) (t + 1)
    unfolding hour_verdict residual_at verdict_of is_estimated count sum
    judge_next {wh} {k} h e =
        let known : judged (flows_at series t) ≡ figure wh = ap judged (sym here) ∙ sym is ∙ ap judgement h in
        record {
          looking = look_pass l.looking b (ap (λ (j : Judgement). verdict_of j t) known);
          filling = fill_next l.filling b (figure_is (flows_at series t) (sym known));
          counted = rw (add-one t) (cc (e, here, l.counted));
          few = omega (arith, l.few, e, one_at_most f.status);
        }

    pub judge_stop : {why : NoResidual} {r : Refusal} → hour ≡ Err why → named r ≡ refusal_of why → SeriesIs series (Err (r, t)) out
    unfolding hour_verdict verdict_of
    judge_stop {why} {r} h e =
        let known : judged (flows_at series t) ≡ no_figure (named r) = ap judged (sym here) ∙ sym is ∙ ap judgement h ∙ ap no_figure (sym e) in
        record {
          verdict = sym (look_stop l.looking b (ap (λ (j : Judgement). verdict_of j t) known));
          figures = λ no. absurd (refused_not_accepted no);
          estimated = λ k e. cc;
        }

pub judge_end : {series : List Flows} {out : List ℕ} {n t : ℕ} → Judging series out n t → length series ≤ t → SeriesIs series (Ok n) out
judge_end {series} {out} {n} {t} l b =
    let all : t ≡ length series = omega (arith, l.looking.bound) in
    record {
      verdict = sym (look_end l.looking b);
      figures = λ e. fill_end l.filling b;
      estimated = λ k e. cc (l.counted, all);
    }
