-- The promises, each said once: a function's `ensures` cites it by its name, and so does what is proved of every service (`every_service`). Each is its service's,
-- with a number for the answer.
use Rattle.std.specs.Prelude.{List, ◌≡◌, ℕ, ℤ, length}
use Rattle.answer_code.specs.Coded.{coded}
use Rattle.plan_service.specs.Promised.{plan_verdict, whole_of_each}
use Rattle.rules.specs.Plan.{LongReading, month_count, part_from, part_to, planned_before}
use Rattle.rules.specs.Refusals.{Verdict, accepted, refused, first, afterwards}
use Rattle.rules.specs.Services.{residual_checks, residual_figures, curve_checks, curve_figures, distribution_checks, distribution_figures}
use Rattle.rules.specs.Services.{periodisation_checks, periodisation_figures, reconciliation_checks, reconciliation_loss, reconciliation_differences, reconciliation_amounts}
use Rattle.rules.specs.Services.{amounts_checks, amounts_figures, invoice_checks, invoice_figures}
use Rattle.rules.specs.Words.{figures}

-- a verdict's number, and what one lent list then holds
pub record Numbered {A : Type 0} (verdict : Verdict) (figures lent : List A) (n : ℕ) (held : List A) : Type 0 where
  pub answer : n ≡ coded verdict
  pub contents : held ≡ afterwards verdict figures lent

-- `settle_residual`
abbrev pub ResidualPromised : List ℕ → List ℤ → List ℕ → List ℕ → List ℕ → List ℕ → ℕ → List ℕ → Type 0
ResidualPromised statuses nets productions hourlies flexes lent =
    Numbered (first (residual_checks statuses nets productions hourlies flexes (length lent)))
    (residual_figures statuses nets productions hourlies flexes) lent

-- `settle_curve`
abbrev pub CurvePromised : List ℕ → ℕ → List ℕ → ℕ → List ℕ → Type 0
CurvePromised residuals w lent = Numbered (first (curve_checks residuals w (length lent))) (curve_figures residuals w) lent

-- `settle_distribution`
abbrev pub DistributionPromised : List ℕ → List ℕ → List ℤ → ℕ → List ℤ → Type 0
DistributionPromised shares residuals lent =
    Numbered (first (distribution_checks shares residuals (length lent))) (distribution_figures shares residuals) lent

-- `settle_periodisation`
abbrev pub PeriodisationPromised : ℕ → List ℕ → List ℕ → ℕ → List ℕ → Type 0
PeriodisationPromised e weights lent = Numbered (first (periodisation_checks e weights (length lent))) (periodisation_figures e weights) lent

-- what a lent number holds once the call has answered: the new one of an accepted call, and else what it held
unfoldable pub kept : {A : Type 0} → Verdict → A → A → A
kept accepted new old = new
kept (refused r place) new old = old

-- what the checks say of an hour
abbrev pub hour_verdict : ℕ → List ℤ → List ℕ → ℕ → ℤ → List ℤ → List ℤ → Verdict
hour_verdict residual distributed periodised carrier price differences amounts =
    first (reconciliation_checks residual distributed periodised carrier price (length differences) (length amounts))

-- `settle_reconciliation`: of its answer, the lent loss and the two lent lists
pub record ReconciliationPromised
    (residual : ℕ) (distributed : List ℤ) (periodised : List ℕ) (carrier : ℕ) (price : ℤ) (differences amounts : List ℤ) (loss : ℤ)
    (n : ℕ) (differences' amounts' : List ℤ) (loss' : ℤ) : Type 0 where
  pub answer : n ≡ coded (hour_verdict residual distributed periodised carrier price differences amounts)
  pub holds_loss :
      loss'
      ≡ kept (hour_verdict residual distributed periodised carrier price differences amounts) (reconciliation_loss residual periodised) loss
  pub holds_differences :
      differences'
      ≡ afterwards (hour_verdict residual distributed periodised carrier price differences amounts)
      (reconciliation_differences residual distributed periodised carrier) differences
  pub holds_amounts :
      amounts'
      ≡ afterwards (hour_verdict residual distributed periodised carrier price differences amounts)
      (reconciliation_amounts (reconciliation_differences residual distributed periodised carrier) price) amounts

-- `settle_amounts`
abbrev pub AmountsPromised : List ℤ → ℕ → List ℤ → List ℤ → ℕ → List ℤ → Type 0
AmountsPromised differences parties prices lent =
    Numbered (first (amounts_checks differences parties prices (length lent))) (amounts_figures differences parties prices) lent

-- `settle_invoice`
abbrev pub InvoicePromised : List ℤ → List ℤ → ℕ → List ℤ → Type 0
InvoicePromised amounts lent = Numbered (first (invoice_checks amounts (length lent))) (invoice_figures amounts) lent

-- `settle_plan`: of its answer and the four lent lists
pub record PlanPromised (r : LongReading) (from to before whole : List ℕ) (n : ℕ) (from' to' before' whole' : List ℕ) : Type 0 where
  pub answer : n ≡ coded (plan_verdict r from to before whole)
  pub holds_from : from' ≡ afterwards (plan_verdict r from to before whole) (figures (month_count r) (part_from r)) from
  pub holds_to : to' ≡ afterwards (plan_verdict r from to before whole) (figures (month_count r) (part_to r)) to
  pub holds_before : before' ≡ afterwards (plan_verdict r from to before whole) (figures (month_count r) (planned_before r)) before
  pub holds_whole : whole' ≡ afterwards (plan_verdict r from to before whole) (figures (month_count r) (whole_of_each r)) whole
