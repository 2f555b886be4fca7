-- The numbers of a month that was read: refused, or all that its lines are made of.
use mathlib.Core.Bool.{Bool, not}
use mathlib.Core.List.{List}
use mathlib.Core.Path.{◌≡◌, sym, ◌∙◌, ap}
use Prim.Native.Nat.{ℕ}
use lib.Dec.{eqb}
use lib.IntN.{ℤ}
use Rattle.std.specs.Prelude.{Result, Ok, Err}
use Rattle.answer.specs.Said.{said}
use Rattle.answer.specs.declared.Refused.{Refused}
use Rattle.report_text.specs.Lines.{Known, Distanced}
use Rattle.report_text.specs.Reporting.{Answered, Promised}
use Rattle.report_text.specs.declared.Lines.{Lines}
use Rattle.report_text.proofs.Reports.{refused_month, answered_as}
use Rattle.month_prepare.proofs.Applied.{applied_figures}
use Rattle.file_sections.specs.Walk.{Accepted}
use Rattle.file_sections.specs.declared.Sections.{Sections}
use Rattle.file_sections.proofs.AcceptedFile.{read_as}
use Rattle.report_figures.specs.Hourly.{HourlyMade, HourlyIs}
use Rattle.report_figures.specs.declared.Hourly.{Hourly}
use Rattle.residual.specs.Applied.{applied_of}
use Rattle.rules.specs.Month.{month_of, estimated_hours, verdict_on, file_verdict}
use Rattle.rules.specs.Refusals.{accepted}
use Rattle.rules.specs.Setting.{optional}
use Rattle.setting.specs.Asked.{asked}
use Rattle.setting.specs.declared.Setting.{Setting}

module _ (file : List ℕ) (s : Sections) (ok : Accepted file s) {fixed refixed curveNumbers : List ℕ} {distributed : List ℤ} {periodised : List ℕ} where
  -- the verdict that they come with is the file's: what is answered by it is what the file is to be answered
  module _ (setting : Setting) {r : Result Hourly Refused} (is : HourlyIs setting (month_of file) r fixed refixed curveNumbers distributed periodised) where
    of_the_file : said r ≡ file_verdict optional (asked setting) file
    unfolding file_verdict verdict_on
    of_the_file = is.verdict ∙ sym (ap (verdict_on (asked setting)) (read_as optional file s ok))

    module _ {first rest parties : List ℕ} {answer : Result Lines Refused} where
      pub refused_figures : {x : Refused} → r ≡ Err x → answer ≡ Err x → Promised setting file first rest parties answer first rest parties
      refused_figures e on = refused_month (month_of file) first rest parties (sym of_the_file ∙ ap said e) on

      pub by_the_file :
          {made : Hourly} {first' rest' parties' : List ℕ}
          → r ≡ Ok made
          → Answered accepted (month_of file) first rest parties answer first' rest' parties'
          → Promised setting file first rest parties answer first' rest' parties'
      by_the_file done = answered_as (month_of file) first rest parties (sym (ap said done) ∙ of_the_file)

  -- no check refused it
  module _ {made : Hourly} (all : HourlyMade (month_of file) made fixed refixed curveNumbers distributed periodised) where
    pub known :
        {has : Bool}
        → has ≡ not (eqb s.refixed 0)
        → {applied : List ℕ}
        → applied ≡ applied_of fixed refixed has
        → Known file s fixed applied curveNumbers distributed periodised
    known by applied_is =
        record {
          read = ok;
          fixed_is = all.fixed_is;
          applied_is = applied_is ∙ applied_figures file s ok all.fixed_is all.refixed_is by;
          curve_is = all.curve_is;
          distributed_is = all.distributed_is;
          periodised_is = all.periodised_is;
          in_limit = all.in_limit;
        }

    pub distanced : Distanced file s made.w made.distances
    distanced = record { read = ok; w_is = all.w_is; smallest_is = all.smallest; largest_is = all.largest }

    pub counted : made.estimated ≡ estimated_hours (month_of file)
    counted = all.estimated
