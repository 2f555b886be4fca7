-- "A refused call writes nothing into any buffer it was lent." (00, demand 1), "A refusal returns its number and a place, and the call has written nothing." (01
-- "Refusal numbers"): for every public service that is lent something, in one place. Whoever calls sees the answer: if it is a refusal, and the call has met its
-- promise (the one that the function's `ensures` cites, by its name), then what was lent is as it was.
use Rattle.std.specs.Prelude.{List, ◌≡◌, ℕ, ◌<◌, ℤ, Result}
use Rattle.amounts_service.specs.Promised as Amounts
use Rattle.answer.specs.Said.{said}
use Rattle.curve_numbers.specs.Promised as Curve
use Rattle.distribute_service.specs.Promised as Distribution
use Rattle.every_service.specs.Lent.{HourLists, HourPromised, HourForC, HourForCPromised, PlanForC, PlanLentPromised, PlanForCPromised, RunOutputs, RunPromised, ReportBuffers, ReportPromised}
use Rattle.invoice_service.specs.Promised as Invoice
use Rattle.month_demands.specs.Demands as Month
use Rattle.month_service.specs.Told as Month'
use Rattle.periodise_service.specs.Promised as Periodisation
use Rattle.reconcile_service.specs.Told as Hour
use Rattle.record.specs.declared.Record.{Record}
use Rattle.record_service.specs.Plain as Plain
use Rattle.record_write.specs.Writing as Write
use Rattle.answer.specs.declared.Refused as A
use Rattle.report_text.specs.Reporting as Report
use Rattle.residual_service.specs.Promised as Residual
use Rattle.rules.specs.Refusals.{Refusal, Verdict, refused, verdict_told}
use Rattle.rules.specs.Plan.{LongReading}
use Rattle.setting.specs.declared.Setting.{Setting}
use Rattle.settle_c.specs.Promised as C
use Rattle.statement_text.specs.Stating as Statement
use Rattle.statement_text.specs.declared.Per.{Per}

-- a refusal, whichever and wherever
pub record Refused (v : Verdict) : Type 0 where
  pub why : Refusal
  pub place : ℕ
  pub told : v ≡ refused why place

-- an answer is one, by what it says in the words of the rules
abbrev pub Refuses : {Result : Type 0} → (Result → Verdict) → Result → Type 0
Refuses verdict r = Refused (verdict r)

-- the record writer's answer
abbrev pub wrote_verdict : Result ℕ A.Refused → Verdict
wrote_verdict w = verdict_told (Write.wrote w)

-- for C, whose 0 is an acceptance: any other number is a refusal
abbrev pub NotZero : ℕ → Type 0
NotZero n = 0 < n

-- a call that answers so, and has met its promise, has written nothing
unfoldable pub Unwritten : {Result Lent : Type 0} → (Result → Type 0) → Lent → (Result → Lent → Type 0) → Type 0
Unwritten {Result} {Lent} isRefusal lent promise = (r : Result) (held : Lent) → isRefusal r → promise r held → held ≡ lent

-- A REFUSED CALL HAS WRITTEN NOTHING
pub record NothingWritten : Type 0 where
  pub residual :
      (statuses : List ℕ) (nets : List ℤ) (productions hourlies flexes lent : List ℕ)
      → Unwritten (Refuses said) lent (Residual.Promised statuses nets productions hourlies flexes lent)
  pub curve : (residuals : List ℕ) (w : ℕ) (lent : List ℕ) → Unwritten (Refuses said) lent (Curve.Promised residuals w lent)
  pub distribution :
      (shares residuals : List ℕ) (lent : List ℤ) → Unwritten (Refuses said) lent (Distribution.Promised shares residuals lent)
  pub periodisation : (e : ℕ) (weights lent : List ℕ) → Unwritten (Refuses said) lent (Periodisation.Promised e weights lent)
  pub reconciliation :
      (residual : ℕ) (distributed : List ℤ) (periodised : List ℕ) (carrier : ℕ) (price : ℤ) (lent : HourLists)
      → Unwritten (Refuses Hour.verdict) lent (HourPromised residual distributed periodised carrier price lent)
  pub amounts :
      (differences : List ℤ) (parties : ℕ) (prices lent : List ℤ)
      → Unwritten (Refuses said) lent (Amounts.Promised differences parties prices lent)
  pub invoice : (amounts lent : List ℤ) → Unwritten (Refuses said) lent (Invoice.Promised amounts lent)
  pub plan_lent : (r : LongReading) (lent : PlanForC) → Unwritten (Refuses said) lent (PlanLentPromised r lent)
  pub residual_for_C :
      (statuses : List ℕ) (nets : List ℤ) (productions hourlies flexes lent : List ℕ)
      → Unwritten NotZero lent (C.ResidualPromised statuses nets productions hourlies flexes lent)
  pub curve_for_C : (residuals : List ℕ) (w : ℕ) (lent : List ℕ) → Unwritten NotZero lent (C.CurvePromised residuals w lent)
  pub distribution_for_C : (shares residuals : List ℕ) (lent : List ℤ) → Unwritten NotZero lent (C.DistributionPromised shares residuals lent)
  pub periodisation_for_C : (e : ℕ) (weights lent : List ℕ) → Unwritten NotZero lent (C.PeriodisationPromised e weights lent)
  pub reconciliation_for_C :
      (residual : ℕ) (distributed : List ℤ) (periodised : List ℕ) (carrier : ℕ) (price : ℤ) (lent : HourForC)
      → Unwritten NotZero lent (HourForCPromised residual distributed periodised carrier price lent)
  pub amounts_for_C :
      (differences : List ℤ) (parties : ℕ) (prices lent : List ℤ)
      → Unwritten NotZero lent (C.AmountsPromised differences parties prices lent)
  pub invoice_for_C : (amounts lent : List ℤ) → Unwritten NotZero lent (C.InvoicePromised amounts lent)
  pub plan_for_C : (r : LongReading) (lent : PlanForC) → Unwritten NotZero lent (PlanForCPromised r lent)
  pub write : (r : Record) (gln brp_gln lent : List ℕ) → Unwritten (Refuses wrote_verdict) lent (Write.Promised r gln brp_gln lent)
  pub write_plain :
      (kind : ℕ) (numbers : List ℤ) (gln brp_gln lent : List ℕ)
      → Unwritten (Refuses wrote_verdict) lent (Plain.Promised kind numbers gln brp_gln lent)
  pub month_settle :
      (setting : Setting) (file : List ℕ) (lent : Month.Outputs)
      → Unwritten (Refuses Month'.verdict) lent (λ r. Month.Kept setting file r lent)
  pub month_run_hours :
      (setting : Setting) (file : List ℕ) (start hours : ℕ) (lent : RunOutputs)
      → Unwritten (Refuses said) lent (RunPromised setting file start hours lent)
  pub statement :
      (setting : Setting) (per : Per) (file lent : List ℕ) → Unwritten (Refuses Statement.verdict) lent (Statement.Promised setting per file lent)
  pub hours_report_holds :
      (setting : Setting) (file : List ℕ) (lent : ReportBuffers)
      → Unwritten (Refuses Report.verdict) lent (ReportPromised setting file lent)
