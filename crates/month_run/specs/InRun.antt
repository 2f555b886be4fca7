-- A run of hours of a month (01 "Distributed consumption", "Periodised consumption", "Reconciliation"): every party's distributed and periodised in each of
-- them, and the loss; `difference_in_run` is of the rules, since the second operation takes it. Figures stand hour by hour and within an hour party by party.
use Rattle.std.specs.Prelude.{ℕ, ◌+◌, ◌/◌, ◌%◌, ℤ}
use Rattle.rules.specs.Month.{distributed, periodised, loss}
use Rattle.rules.specs.MonthFile.{MonthFile, P}

-- What stands at the k-th place of a run from hour `start` on: of its hour k / P the party k % P.
unfoldable pub distributed_in_run : MonthFile → ℕ → ℕ → ℤ
distributed_in_run m start k = distributed m (start + k / P m) (k % P m)

unfoldable pub periodised_in_run : MonthFile → ℕ → ℕ → ℕ
periodised_in_run m start k = periodised m (start + k / P m) (k % P m)

-- the loss of its k-th hour
unfoldable pub loss_in_run : MonthFile → ℕ → ℕ → ℤ
loss_in_run m start k = loss m (start + k)
