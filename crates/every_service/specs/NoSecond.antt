-- "that no second result fits is itself proved" (01, "What a proof here has to say"): for every public service, in one place. A result is the answer together
-- with what each lent buffer holds after the call; that no second one fits means that two results which both meet the promise are equal. The promise is the
-- one that the function's `ensures` cites, by its name.
use Rattle.std.specs.Prelude.{Bool, List, ◌≡◌, ℕ, ℤ, Result, ⊤}
use Rattle.amounts_service.specs.Promised as Amounts
use Rattle.answer.specs.Promised as Answer
use Rattle.answer.specs.declared.Refused.{Refused}
use Rattle.answer.specs.declared.Refusal.{Refusal}
use Rattle.answer_code.specs.Coded as Code
use Rattle.curve_numbers.specs.Promised as Curve
use Rattle.distribute_service.specs.Promised as Distribution
use Rattle.every_service.specs.Lent.{HourLists, HourPromised, HourForC, HourForCPromised, PlanForC, PlanLentPromised, PlanForCPromised, RunOutputs, RunPromised, ReportBuffers, ReportPromised}
use Rattle.file_sections.specs.Walk as File
use Rattle.gln.specs.Promised as Gln
use Rattle.invoice_service.specs.Promised as Invoice
use Rattle.month_demands.specs.Demands as Month
use Rattle.periodise_service.specs.Promised as Periodisation
use Rattle.plan.specs.Promised as Plan
use Rattle.reconcile.specs.Promised as Reconcile
use Rattle.record.specs.Promised as Read
use Rattle.record.specs.declared.Record.{Record}
use Rattle.record_rule.specs.Promised as Judged
use Rattle.record_service.specs.Plain as Plain
use Rattle.record_write.specs.Writing as Write
use Rattle.residual.specs.Promised as OneHour
use Rattle.residual_service.specs.Promised as Residual
use Rattle.rules.specs.Plan.{LongReading}
use Rattle.setting.specs.Asked as Asked
use Rattle.setting.specs.declared.Prices.{Prices}
use Rattle.setting.specs.declared.Setting.{Setting}
use Rattle.settle_c.specs.Promised as C
use Rattle.statement_text.specs.Stating as Statement
use Rattle.statement_text.specs.declared.Per.{Per}

-- no second answer fits a promise
unfoldable pub OneFits : {Result : Type 0} → (Result → Type 0) → Type 0
OneFits {Result} promise = (r s : Result) → promise r → promise s → r ≡ s

-- and of a call that was lent something: no second answer, and no second content of what was lent
unfoldable pub OneFitsWith : {Result Lent : Type 0} → (Result → Lent → Type 0) → Type 0
OneFitsWith {Result} {Lent} promise = (r s : Result) (held held' : Lent) → promise r held → promise s held' → (r ≡ s) × (held ≡ held')

-- THE SERVICES OF SETTLEMENT, each alone
pub record Services : Type 0 where
  pub residual :
      (statuses : List ℕ) (nets : List ℤ) (productions hourlies flexes lent : List ℕ)
      → OneFitsWith (Residual.Promised statuses nets productions hourlies flexes lent)
  pub judge : (status : ℕ) (wh : ℤ) → OneFits (OneHour.JudgePromised status wh)
  pub applied : (fixed refixed : List ℕ) (hasRefixed : Bool) → OneFits (OneHour.AppliedPromised fixed refixed hasRefixed)
  pub curve : (residuals : List ℕ) (w : ℕ) (lent : List ℕ) → OneFitsWith (Curve.Promised residuals w lent)
  pub distribution : (shares residuals : List ℕ) (lent : List ℤ) → OneFitsWith (Distribution.Promised shares residuals lent)
  pub periodisation : (e : ℕ) (weights lent : List ℕ) → OneFitsWith (Periodisation.Promised e weights lent)
  pub reconciliation :
      (residual : ℕ) (distributed : List ℤ) (periodised : List ℕ) (carrier : ℕ) (price : ℤ) (lent : HourLists)
      → OneFitsWith (HourPromised residual distributed periodised carrier price lent)
  pub loss_of_holds : (party carrier : ℕ) (loss : ℤ) → OneFits (Reconcile.LossOfPromised party carrier loss)
  pub amounts : (differences : List ℤ) (parties : ℕ) (prices lent : List ℤ) → OneFitsWith (Amounts.Promised differences parties prices lent)
  pub invoice : (amounts lent : List ℤ) → OneFitsWith (Invoice.Promised amounts lent)
  pub plan : (r : LongReading) → OneFits (Plan.Promised r)
  pub plan_lent : (r : LongReading) (lent : PlanForC) → OneFitsWith (PlanLentPromised r lent)

-- THE SAME FOR C: a number for the answer
pub record ServicesForC : Type 0 where
  pub residual :
      (statuses : List ℕ) (nets : List ℤ) (productions hourlies flexes lent : List ℕ)
      → OneFitsWith (C.ResidualPromised statuses nets productions hourlies flexes lent)
  pub curve : (residuals : List ℕ) (w : ℕ) (lent : List ℕ) → OneFitsWith (C.CurvePromised residuals w lent)
  pub distribution : (shares residuals : List ℕ) (lent : List ℤ) → OneFitsWith (C.DistributionPromised shares residuals lent)
  pub periodisation : (e : ℕ) (weights lent : List ℕ) → OneFitsWith (C.PeriodisationPromised e weights lent)
  pub reconciliation :
      (residual : ℕ) (distributed : List ℤ) (periodised : List ℕ) (carrier : ℕ) (price : ℤ) (lent : HourForC)
      → OneFitsWith (HourForCPromised residual distributed periodised carrier price lent)
  pub amounts : (differences : List ℤ) (parties : ℕ) (prices lent : List ℤ) → OneFitsWith (C.AmountsPromised differences parties prices lent)
  pub invoice : (amounts lent : List ℤ) → OneFitsWith (C.InvoicePromised amounts lent)
  pub plan : (r : LongReading) (lent : PlanForC) → OneFitsWith (PlanForCPromised r lent)

-- ONE RECORD
pub record Records : Type 0 where
  pub gln_check : (part : List ℕ) → OneFits (Gln.CheckPromised part)
  pub gln_part_at : (file : List ℕ) (at : ℕ) → OneFits (Gln.PartAtPromised file at)
  pub body_length_holds : (kind : ℕ) → OneFits (Read.BodyLengthPromised kind)
  pub fault : (r : Record) (gln brp_gln : List ℕ) (hours parties place : ℕ) → OneFits (Judged.FaultPromised r gln brp_gln hours parties place)
  pub fault_of_part : (r : Record) (part : List ℕ) (hours parties place : ℕ) → OneFits (Judged.PartFaultPromised r part hours parties place)
  pub read_alone_holds : (part : List ℕ) → OneFits (Judged.ReadAlonePromised part)
  pub write : (r : Record) (gln brp_gln lent : List ℕ) → OneFitsWith (Write.Promised r gln brp_gln lent)
  pub write_plain :
      (kind : ℕ) (numbers : List ℤ) (gln brp_gln lent : List ℕ)
      → OneFitsWith (Plain.Promised kind numbers gln brp_gln lent)

-- A WHOLE FILE, with its prices needed or not, or under a setting: its reading, its settlement, the hours of a run, its two texts
pub record WholeFiles : Type 0 where
  pub month_file_read : (prices : Prices) (file : List ℕ) → OneFits (File.Promised prices file)
  pub month_settle : (setting : Setting) (file : List ℕ) (lent : Month.Outputs) → OneFitsWith (λ r. Month.Kept setting file r lent)
  pub month_run_hours :
      (setting : Setting) (file : List ℕ) (start hours : ℕ) (lent : RunOutputs)
      → OneFitsWith (RunPromised setting file start hours lent)
  pub statement : (setting : Setting) (per : Per) (file lent : List ℕ) → OneFitsWith (Statement.Promised setting per file lent)
  pub hours_report_holds : (setting : Setting) (file : List ℕ) (lent : ReportBuffers) → OneFitsWith (ReportPromised setting file lent)

-- AND THE ANSWERS THEMSELVES, 17 by the setting among them
pub record Answers : Type 0 where
  pub number : (r : Refusal) → OneFits (Answer.NumberPromised r)
  pub code : (a : Result ⊤ Refused) → OneFits (Code.Promised a)
  pub each_at_most : (values : List ℕ) (most : ℕ) (otherwise : Refusal) → OneFits (Answer.EachAtMostPromised values most otherwise)
  pub within : (figure lowest greatest : ℤ) → OneFits (Answer.WithinPromised figure lowest greatest)
  pub each_within :
      (figures : List ℤ) (lowest greatest : ℤ) (otherwise : Refusal)
      → OneFits (Answer.EachWithinPromised figures lowest greatest otherwise)
  pub refixed_or_provisional : (setting : Setting) (refixed : ℕ) → OneFits (Asked.Promised setting refixed)

-- NO SECOND RESULT FITS
pub record NoSecondResult : Type 0 where
  pub services : Services
  pub services_for_C : ServicesForC
  pub records : Records
  pub whole_files : WholeFiles
  pub answers : Answers
