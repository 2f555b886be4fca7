-- WHAT THE BRPS OF A MONTH COME TO (02, W5), in its own words, as statements about the definitions of `Brp`. That they hold is proved in proofs/BrpDemands.
use Rattle.std.specs.Prelude.{List, [], ◌∷◌, ◌⊎◌, ◌≡◌, ℕ, ◌+◌, ◌*◌, ◌≤◌, ◌<◌, ℤ, pos, ◌+ℤ◌, length}
use Rattle.rules.specs.Brp.{brp_of, brps, suppliers_of, brp_distributed, brp_periodised, brp_loss, brp_difference, brp_month_distributed, brp_month_periodised}
use Rattle.rules.specs.Brp.{brp_month_loss, brp_month_difference, brp_invoice, brp_share}
use Rattle.rules.specs.Demands.{distance}
use Rattle.rules.specs.Month.{distributed, periodised, loss, difference, applied_wh, month_w, month_distributed, month_periodised, month_loss, month_difference, invoice}
use Rattle.rules.specs.MonthFile.{MonthFile, P}
use Rattle.rules.specs.Reconciliation.{loss_of}
use Rattle.rules.specs.WellFormed.{Every}
use Rattle.rules.specs.Words.{sum, sum_ℤ}

-- every number of a list is below all that come after it
abbrev pub RisingNumbers : List ℕ → Type 0
RisingNumbers [] = Unit
RisingNumbers (n ∷ later) = Every (λ (k : ℕ). n < k) later × RisingNumbers later

-- a number stands in a list
abbrev pub InList : ℕ → List ℕ → Type 0
InList n [] = ⊥
InList n (k ∷ later) = (n ≡ k) ⊎ InList n later

-- the sum over the numbers of a list
unfoldable pub sum_for_each : (ℕ → ℕ) → List ℕ → ℕ
sum_for_each figure [] = 0
sum_for_each figure (n ∷ more) = figure n + sum_for_each figure more

unfoldable pub sum_for_each_ℤ : (ℕ → ℤ) → List ℕ → ℤ
sum_for_each_ℤ figure [] = pos 0
sum_for_each_ℤ figure (n ∷ more) = figure n +ℤ sum_for_each_ℤ figure more

pub record BrpDemands (m : MonthFile) : Type 0 where
  -- "one line per BRP, in rising GLN order": none twice, no more than there are suppliers
  pub rising : RisingNumbers (brps m)
  pub at_most_one_each : length (brps m) ≤ P m
  -- none left out
  pub has_a_line : (i : ℕ) → i < P m → InList (brp_of m i) (brps m)
  -- and none that no supplier has
  pub has_a_supplier : Every (λ (brp : ℕ). (i : ℕ) × (i < P m) × (brp_of m i ≡ brp)) (brps m)
  -- "the BRPs' load shares add up to W"
  pub shares_add_up : sum_for_each (brp_share m) (brps m) ≡ month_w m
  -- in every hour the BRPs' figures add up to what the suppliers' do
  pub hour_distributed : (t : ℕ) → sum_for_each_ℤ (brp_distributed m t) (brps m) ≡ sum_ℤ (P m) (distributed m t)
  pub hour_periodised : (t : ℕ) → sum_for_each (brp_periodised m t) (brps m) ≡ sum (P m) (periodised m t)
  pub hour_loss : (t : ℕ) → sum_for_each_ℤ (brp_loss m t) (brps m) ≡ sum_ℤ (P m) (loss_of m.heading.carrier (loss m t))
  pub hour_difference : (t : ℕ) → sum_for_each_ℤ (brp_difference m t) (brps m) ≡ sum_ℤ (P m) (difference m t)
  -- "between its heading and total lines": the columns of the BRP lines add up to the total line, which is the statement's
  pub distributed_adds_up : sum_for_each_ℤ (brp_month_distributed m) (brps m) ≡ sum_ℤ (P m) (month_distributed m)
  pub periodised_adds_up : sum_for_each (brp_month_periodised m) (brps m) ≡ sum (P m) (month_periodised m)
  pub loss_adds_up : sum_for_each_ℤ (brp_month_loss m) (brps m) ≡ sum_ℤ (P m) (month_loss m)
  pub difference_adds_up : sum_for_each_ℤ (brp_month_difference m) (brps m) ≡ sum_ℤ (P m) (month_difference m)
  pub invoice_adds_up : sum_for_each_ℤ (brp_invoice m) (brps m) ≡ sum_ℤ (P m) (invoice m)
  -- "the BRP sums can be off by one Wh per supplier": a BRP of n suppliers is less than n Wh from its exact share since the first hour, in W-ths of a Wh
  pub near_since_first :
      (hours brp : ℕ) → 0 < suppliers_of m brp
      → distance (month_w m) (sum_ℤ hours (λ t. brp_distributed m t brp)) (brp_share m brp * sum hours (applied_wh m)) < suppliers_of m brp * month_w m
  -- and less than 2n Wh over any run of hours
  pub near :
      (start hours brp : ℕ) → 0 < suppliers_of m brp
      → distance (month_w m) (sum_ℤ hours (λ t. brp_distributed m (start + t) brp)) (brp_share m brp * sum hours (λ t. applied_wh m (start + t)))
      < 2 * (suppliers_of m brp * month_w m)
