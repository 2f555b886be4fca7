-- The hours of a month one after the other: which of a window are refused with 14, what one hour comes to, and the carries after the first t.
use Rattle.std.specs.Prelude.{List, ◌≡◌, ℕ, ◌+◌, ◌*◌, ◌≤◌, ◌<◌, leb, ℤ, pos, length}
use Rattle.apportion.specs.Filled.{Filled}
use Rattle.distribute.specs.Good.{Good}
use Rattle.distribute.specs.declared.Carries.{Carries}
use Rattle.file_sections.specs.Walk.{Accepted, AcceptedPriced}
use Rattle.file_sections.specs.declared.Sections.{Sections}
use Rattle.hour_settled.specs.Column.{column, Column, addable}
use Rattle.hour_settled.specs.declared.Quantities.{Quantities}
use Rattle.rules.specs.Limits.{greatest_periodised, most_parties}
use Rattle.rules.specs.Month.{month_of, share_of, applied_wh, distributed, periodised, all_periodised, loss, difference, amount, periodised_verdict}
use Rattle.rules.specs.MonthFile.{MonthFile, H, P}
use Rattle.rules.specs.Refusals.{periodised_too_large, Verdict, unless, in_turn}
use Rattle.rules.specs.Words.{sum}
use Rattle.rules.proofs.Month.{Judged}

-- "14 by hour", of a window of n parties that starts at hour `start`
unfoldable pub window_verdict : List ℕ → ℕ → ℕ → ℕ → ℕ → Verdict
window_verdict window n hours start k = unless (leb (sum n (column window hours k)) greatest_periodised) periodised_too_large (start + k)

-- the same of all hours of the month
abbrev pub all_limited : MonthFile → Verdict
all_limited m = in_turn (H m) (periodised_verdict m)

pub record Readable (window : List ℕ) (n hours start : ℕ) : Type 0 where
  pub few : n ≤ most_parties
  pub size : n * hours ≤ length window
  pub short : length window ≤ 65536
  pub start_short : start + hours ≤ 65536
  pub light : (i k : ℕ) → i < n → k < hours → column window hours k i ≤ addable

-- one hour of a month can be settled: its residual and its distributed figures are known, and its column of a window
pub record HourKnown (file : List ℕ) (s : Sections) (residual : ℕ) (window : List ℕ) (hours k t : ℕ) : Type 0 where
  pub accepted : Accepted file s
  pub judged : Judged (month_of file)
  pub hour : t < H (month_of file)
  pub residual_is : residual ≡ applied_wh (month_of file) t
  pub asked : Column window hours k (P (month_of file))
  pub periodised_is : (i : ℕ) → i < P (month_of file) → column window hours k i ≡ periodised (month_of file) t i
  pub in_limit : all_periodised (month_of file) t ≤ greatest_periodised

abbrev pub DistributedIs : MonthFile → ℕ → List ℤ → Type 0
DistributedIs m t l = Filled (pos 0) (distributed m t) (P m) l

abbrev pub DifferencesAre : MonthFile → ℕ → List ℤ → Type 0
DifferencesAre m t l = Filled (pos 0) (difference m t) (P m) l

-- ONE HOUR OF THE MONTH: its quantities,
pub record QuantitiesAre (m : MonthFile) (t : ℕ) (r : Quantities) : Type 0 where
  pub distributed : DistributedIs m t r.distributed_wh
  pub periodised : Filled 0 (periodised m t) (P m) r.periodised_wh
  pub differences : DifferencesAre m t r.differences_wh
  pub loss : r.loss_wh ≡ loss m t

-- and its amounts
abbrev pub AmountsAre : MonthFile → ℕ → List ℤ → Type 0
AmountsAre m t l = Filled (pos 0) (amount m t) (P m) l

-- an hour's differences can be priced: its price is in the file
pub record DifferencesKnown (file : List ℕ) (s : Sections) (t : ℕ) (differences : List ℤ) : Type 0 where
  pub priced : AcceptedPriced file s
  pub judged : Judged (month_of file)
  pub hour : t < H (month_of file)
  pub in_limit : all_periodised (month_of file) t ≤ greatest_periodised
  pub differences_are : DifferencesAre (month_of file) t differences

-- THE CARRIES OF THE FIRST t HOURS: of the month's shares and of their residuals
pub record Carried (m : MonthFile) (t : ℕ) (c : Carries) : Type 0 where
  pub good : Good c
  pub parties : c.parties ≡ P m
  pub share : Filled 0 (share_of m) (P m) c.share
  pub residuals : c.sum_wh ≡ sum t (applied_wh m)
