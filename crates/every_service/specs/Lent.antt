-- What is lent to a call that is lent more than one thing, by its names; and the call's own promise over that, before the call and once it has answered.
use Rattle.std.specs.Prelude.{List, ℕ, ℤ, Result, ⊤}
use Rattle.answer.specs.declared.Refused.{Refused}
use Rattle.month_run.specs.Run as Run
use Rattle.plan_service.specs.Promised as Plan
use Rattle.reconcile_service.specs.Told as Hour
use Rattle.report_text.specs.Reporting as Report
use Rattle.report_text.specs.declared.Lines.{Lines}
use Rattle.setting.specs.declared.Setting.{Setting}
use Rattle.rules.specs.Plan.{LongReading}
use Rattle.settle_c.specs.Promised as C

-- the two lists of one hour's reconciliation
pub record HourLists : Type 0 where
  pub differences : List ℤ
  pub amounts : List ℤ

abbrev pub HourPromised : ℕ → List ℤ → List ℕ → ℕ → ℤ → HourLists → Result ℤ Refused → HourLists → Type 0
HourPromised residual distributed periodised carrier price lent r held =
    Hour.Promised residual distributed periodised carrier price lent.differences lent.amounts r held.differences held.amounts

-- and for C, where the loss is lent as well
pub record HourForC : Type 0 where
  pub differences : List ℤ
  pub amounts : List ℤ
  pub loss : ℤ

abbrev pub HourForCPromised : ℕ → List ℤ → List ℕ → ℕ → ℤ → HourForC → ℕ → HourForC → Type 0
HourForCPromised residual distributed periodised carrier price lent n held =
    C.ReconciliationPromised residual distributed periodised carrier price lent.differences lent.amounts lent.loss n
    held.differences held.amounts held.loss

-- the outputs of a run of hours
pub record RunOutputs : Type 0 where
  pub distributed : List ℤ
  pub periodised : List ℕ
  pub differences : List ℤ
  pub losses : List ℤ

abbrev pub RunPromised : Setting → List ℕ → ℕ → ℕ → RunOutputs → Result ⊤ Refused → RunOutputs → Type 0
RunPromised setting file start hours lent r held =
    Run.Promised setting file start hours r lent.distributed lent.periodised lent.differences lent.losses
    held.distributed held.periodised held.differences held.losses

-- the buffers of the report: the first hours, the other hours, the parties
pub record ReportBuffers : Type 0 where
  pub first : List ℕ
  pub rest : List ℕ
  pub parties : List ℕ

abbrev pub ReportPromised : Setting → List ℕ → ReportBuffers → Result Lines Refused → ReportBuffers → Type 0
ReportPromised setting file lent r held =
    Report.Promised setting file lent.first lent.rest lent.parties r held.first held.rest held.parties

-- the four lists of the planner: of each record a, b, the weight before its month and the weight of the whole reading
pub record PlanForC : Type 0 where
  pub from : List ℕ
  pub to : List ℕ
  pub before : List ℕ
  pub whole : List ℕ

abbrev pub PlanLentPromised : LongReading → PlanForC → Result ⊤ Refused → PlanForC → Type 0
PlanLentPromised r lent a held =
    Plan.Promised r lent.from lent.to lent.before lent.whole a held.from held.to held.before held.whole

-- and for C
abbrev pub PlanForCPromised : LongReading → PlanForC → ℕ → PlanForC → Type 0
PlanForCPromised r lent n held =
    C.PlanPromised r lent.from lent.to lent.before lent.whole n held.from held.to held.before held.whole
