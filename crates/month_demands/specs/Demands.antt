-- The demands (00) of the call on a whole file, over the file's bytes and the setting given (02, W1): when it accepts and when it refuses (demand 2), and what
-- holds of an accepted month and of the lent outputs (demand 3, and the sums that must come out). That they hold of every answer that meets the call's promise
-- is proved in proofs/Theorems.
use Rattle.std.specs.Prelude.{Bool, true, false, List, ◌≡◌, ℕ, ◌≤◌, ◌<◌, ℤ, pos, length, Result}
use Rattle.month_service.specs.Told.{lent_right, Promised}
use Rattle.answer.specs.declared.Refused.{Refused}
use Rattle.month_service.specs.declared.Summary.{Summary}
use Rattle.setting.specs.Asked.{asked}
use Rattle.setting.specs.declared.Setting.{Setting}
use Rattle.rules.specs.BrpDemands.{BrpDemands}
use Rattle.rules.specs.Accepted.{NoneRefuses, FirstRefuses}
use Rattle.rules.specs.Demands.{sum_since_first, Demand3}
use Rattle.rules.specs.Flows.{residual}
use Rattle.rules.specs.Invoice.{InvoiceColumn}
use Rattle.rules.specs.Limits.{greatest_w, greatest_residual}
use Rattle.rules.specs.Month.{flows_at, share_of, month_w, applied_flows, applied_wh, distributed, periodised, all_periodised, loss, difference, amount, invoice, read_energy, month_checks}
use Rattle.rules.specs.MonthFile.{MonthFile, H, P, read_month}
use Rattle.rules.specs.Reconciliation.{loss_of}
use Rattle.rules.specs.ReadingRefused.{ReadingRefuses}
use Rattle.rules.specs.Refusals.{Refusal, wrong_length, given}
use Rattle.rules.specs.Services.{at_ℤ}
use Rattle.rules.specs.Setting.{final, needed}
use Rattle.rules.specs.Statement.{columns_line, total_line}
use Rattle.rules.specs.WellFormed.{WellFormed, file_of}
use Rattle.rules.specs.Words.{sum, sum_ℤ, at, ascii}

-- the lent outputs of the call, by their names: what they hold before it, or once it has answered
pub record Outputs : Type 0 where
  pub distributed : List ℤ
  pub periodised : List ℕ
  pub losses : List ℤ
  pub differences : List ℤ
  pub amounts : List ℤ

-- the promise of the call (`month_service`), of such outputs before and after it
abbrev pub Kept : Setting → List ℕ → Result Summary Refused → Outputs → Outputs → Type 0
Kept setting file r lent held =
    Promised setting file r lent.distributed lent.periodised lent.losses lent.differences lent.amounts
    held.distributed held.periodised held.losses held.differences held.amounts

-- every lent output has a place for each party
abbrev pub places_right : ℕ → Outputs → Bool
places_right parties lent =
    lent_right parties (length lent.distributed) (length lent.periodised) (length lent.losses)
    (length lent.differences) (length lent.amounts)

-- the file's bytes are those of a month that is well formed and has its prices: the call gives amounts
pub record FileOf (file : List ℕ) (month : MonthFile) : Type 0 where
  pub well_formed : WellFormed needed month
  pub its_bytes : file ≡ file_of month

-- "A month is accepted exactly when no refusal there applies.": the file is that of a well-formed month, no check of the month refuses under the setting
-- given, and not 16
pub record NoRefusalApplies (setting : Setting) (file : List ℕ) (lent : Outputs) : Type 0 where
  pub month : MonthFile
  pub is_its_file : FileOf file month
  pub no_check_refuses : NoneRefuses (month_checks (asked setting) month)
  pub lent_right_holds : places_right (P month) lent ≡ true

-- "The file is read first"; W1: 17 "after the file is read and before 6"; "Then 6; then the fixed hours ..": the file is that of a well-formed month, and of the
-- month's checks in their order this is the first that refuses
pub record MonthRefuses (setting : Setting) (file : List ℕ) (r : Refusal) (place : ℕ) : Type 0 where
  pub month : MonthFile
  pub is_its_file : FileOf file month
  pub first_refuses : FirstRefuses (month_checks (asked setting) month) r place

-- "last, for a call on a whole month, 16", at place 0: no check of the month refuses, and some lent output has not a place for each party
pub record LentWrong (setting : Setting) (file : List ℕ) (lent : Outputs) (r : Refusal) (place : ℕ) : Type 0 where
  pub month : MonthFile
  pub is_its_file : FileOf file month
  pub no_check_refuses : NoneRefuses (month_checks (asked setting) month)
  pub lent_wrong : places_right (P month) lent ≡ false
  pub is_16 : r ≡ wrong_length
  pub at_0 : place ≡ 0

-- the refusal that applies, with its place: one of reading, else one of the month, else 16
pub data RefusalApplies (setting : Setting) (file : List ℕ) (lent : Outputs) (r : Refusal) (place : ℕ) : Type 0 where
  of_reading : ReadingRefuses needed file r place → RefusalApplies setting file lent r place
  of_the_month : MonthRefuses setting file r place → RefusalApplies setting file lent r place
  of_the_lent : LentWrong setting file lent r place → RefusalApplies setting file lent r place

-- WHAT HOLDS OF AN ACCEPTED MONTH: m is the month that the file is read as; `held` is what the lent outputs hold once the call has answered
pub record MonthMeets (setting : Setting) (file : List ℕ) (m : MonthFile) (held : Outputs) : Type 0 where
  pub read : read_month needed file ≡ given m
  -- W6: "the statement program goes on refusing such a file with 3": there is a price for each hour
  pub all_priced_holds : length m.prices ≡ H m
  -- W1: "A file with no 06 records shall be refused unless the caller says that the month is provisional.": in a final run there is a refixed hour for each hour
  pub refixed_or_provisional : asked setting ≡ final → length m.refixed ≡ H m
  -- "one line per party in order": a figure for each party in every lent output, and nothing more
  pub distributed_size : length held.distributed ≡ P m
  pub periodised_size : length held.periodised ≡ P m
  pub losses_size : length held.losses ≡ P m
  pub differences_size : length held.differences ≡ P m
  pub amounts_size : length held.amounts ≡ P m
  -- "A missing hour is refused and is never taken for zero.": no hour of the fixed or of the applied series has status 0
  pub no_hour_missing : (t : ℕ) → t < H m → (1 ≤ (flows_at m.fixed t).status) × (1 ≤ (applied_flows m t).status)
  -- "For a month whose load shares are accepted ..": W lies within its limits
  pub shares_accepted : (1 ≤ month_w m) × (month_w m ≤ greatest_w)
  -- ".. and whose applied residuals all lie within the limits": the residual of an applied hour is not negative and not too large
  pub applied_within_limits : (t : ℕ) → t < H m → (residual (applied_flows m t) ≡ pos (applied_wh m t)) × (applied_wh m t ≤ greatest_residual)
  -- "in every hour the parties' distributed figures add up to the residual to the Wh. After every hour each party's sum of these since the month's first
  -- hour is its exact share of the residual so far, rounded down or up to a whole Wh. Over any run of hours the sum is less than 2 Wh from the exact share.
  -- A party with a larger load share never has the smaller sum since the first hour."
  pub demand_3 : Demand3 (P m) (share_of m) (applied_wh m)
  -- W5: one line per BRP, rising, none twice and none left out; the BRPs' figures, columns and load shares add up; a BRP of n suppliers is less than n Wh off since the
  -- first hour and less than 2n over any run
  pub brps_meet : BrpDemands m
  -- "each party's sum of these since the month's first hour": after the last hour it is what the distributed output holds
  pub distributed_since_first : (i : ℕ) → i < P m → at_ℤ held.distributed i ≡ sum_since_first (P m) (share_of m) (applied_wh m) (H m) i
  -- "distributed .. (month sums in Wh)": the sum of the hours' figures, each of which is one of those in demand 3
  pub distributed_sums : (i : ℕ) → i < P m → at_ℤ held.distributed i ≡ sum_ℤ (H m) (λ t. distributed m t i)
  -- "periodised .. (month sums in Wh)"
  pub periodised_sums : (i : ℕ) → i < P m → at held.periodised i ≡ sum (H m) (λ t. periodised m t i)
  -- and that is what the party's readings have in this month: the E of those of the month, and the month's parts of those over months (W3)
  pub periodised_of_readings : (i : ℕ) → i < P m → at held.periodised i ≡ read_energy m i
  -- "loss .. (month sums in Wh)", "Loss is 0 for all but the carrier."
  pub loss_sums : (i : ℕ) → i < P m → at_ℤ held.losses i ≡ sum_ℤ (H m) (λ t. loss_of m.heading.carrier (loss m t) i)
  -- "difference (month sums in Wh)"
  pub difference_sums : (i : ℕ) → i < P m → at_ℤ held.differences i ≡ sum_ℤ (H m) (λ t. difference m t i)
  -- "the month's amount is the exact sum", in millionths of an øre
  pub amount_sums : (i : ℕ) → i < P m → at_ℤ held.amounts i ≡ sum_ℤ (H m) (λ t. amount m t i)
  -- "The differences of each hour add up to 0"
  pub hour_differences : (t : ℕ) → t < H m → sum_ℤ (P m) (difference m t) ≡ pos 0
  -- "the month's columns add up": "total distributed is the sum of the applied residuals"
  pub total_distributed : sum_ℤ (P m) (at_ℤ held.distributed) ≡ pos (sum (H m) (applied_wh m))
  -- "total difference is 0"
  pub total_difference : sum_ℤ (P m) (at_ℤ held.differences) ≡ pos 0
  -- the exact amounts too add up to 0: an hour's differences have one price
  pub total_amount : sum_ℤ (P m) (at_ℤ held.amounts) ≡ pos 0
  -- W2: "The invoice column must add up to zero.": each party's exact amount rounded down or up to whole øre, the øre missing from zero to the largest remainders
  pub invoice_column : InvoiceColumn (P m) (at_ℤ held.amounts) (invoice m)
  -- total periodised is the sum of "all periodised consumption" of each hour
  pub total_periodised : sum (P m) (at held.periodised) ≡ sum (H m) (all_periodised m)
  -- total loss is the sum of the hours' grid losses, of either sign
  pub total_loss : sum_ℤ (P m) (at_ℤ held.losses) ≡ sum_ℤ (H m) (loss m)
  -- "a line `total` with the column sums": of the distributed the applied residuals, of the periodised and of the loss those of the hours, and 0 of the differences
  -- and of the whole øre
  pub total_line_holds :
      total_line m
      ≡ columns_line (ascii "total") (pos (sum (H m) (applied_wh m))) (sum (H m) (all_periodised m)) (sum_ℤ (H m) (loss m)) (pos 0) (pos 0)
