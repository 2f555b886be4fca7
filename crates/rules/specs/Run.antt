-- A RUN OF HOURS OF A MONTH (02, W6 "Quantities first, amounts later"): its differences, which the first operation gives and the second takes, its prices, and its
-- amounts. Figures stand hour by hour and within an hour party by party: at the k-th place of a run from hour `start` on stands, of its hour k / P, the party k % P.
use Rattle.std.specs.Prelude.{List, ℕ, ◌+◌, ◌*◌, ◌/◌, ◌%◌, ℤ}
use Rattle.rules.specs.Month.{difference, price_at, amount}
use Rattle.rules.specs.MonthFile.{MonthFile, P}
use Rattle.rules.specs.Words.{figures}

unfoldable pub difference_in_run : MonthFile → ℕ → ℕ → ℤ
difference_in_run m start k = difference m (start + k / P m) (k % P m)

unfoldable pub amount_in_run : MonthFile → ℕ → ℕ → ℤ
amount_in_run m start k = amount m (start + k / P m) (k % P m)

-- the price of its k-th hour
unfoldable pub price_in_run : MonthFile → ℕ → ℕ → ℤ
price_in_run m start k = price_at m (start + k)

-- the month, the hour that the run starts with, and how many hours it has
unfoldable pub run_differences : MonthFile → ℕ → ℕ → List ℤ
run_differences m start hours = figures (hours * P m) (difference_in_run m start)

unfoldable pub run_amounts : MonthFile → ℕ → ℕ → List ℤ
run_amounts m start hours = figures (hours * P m) (amount_in_run m start)

unfoldable pub run_prices : MonthFile → ℕ → ℕ → List ℤ
run_prices m start hours = figures hours (price_in_run m start)
