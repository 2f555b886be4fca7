-- "Distributed consumption" (01; H2 5.3 gives share / W x residual). Nothing is rounded hour by hour: a party's running sum since
-- the first hour is rounded, and the hour's figure is what the running sum grew by.
use Rattle.std.specs.Prelude.{ℕ, suc, ◌+◌, ◌-◌, ◌*◌, ◌/◌, ◌%◌, ℤ, pos, ◌-ℤ◌}
use Rattle.rules.specs.Flows.{W}
use Rattle.rules.specs.LargestRemainder.{one_each}
use Rattle.rules.specs.Words.{sum}

-- "A party's running sum after t starts as share x R / W rounded down."
unfoldable pub rounded_down : ℕ → (ℕ → ℕ) → ℕ → ℕ → ℕ
rounded_down parties share r i = share i * r / W parties share

-- "the largest remainders of that division"
unfoldable pub remainder : ℕ → (ℕ → ℕ) → ℕ → ℕ → ℕ
remainder parties share r i = share i * r % W parties share

-- "The Wh still left over"
unfoldable pub left_over : ℕ → (ℕ → ℕ) → ℕ → ℕ
left_over parties share r = r - sum parties (rounded_down parties share r)

-- "The Wh still left over go one each to the parties with the largest remainders": a party's running sum, where r is "R .. the sum of the applied residuals from
-- hour 0 up to and including hour t"
unfoldable pub running_sum : ℕ → (ℕ → ℕ) → ℕ → ℕ → ℕ
running_sum parties share r i =
    rounded_down parties share r i + one_each parties (remainder parties share r) (left_over parties share r) i

-- the running sum once the first `hours` hours have passed
unfoldable pub running_after : ℕ → (ℕ → ℕ) → (ℕ → ℕ) → ℕ → ℕ → ℕ
running_after parties share residual hours i = running_sum parties share (sum hours residual) i

-- "The party's figure for hour t is its running sum after t less that after t-1 (0 before hour 0). A figure can be -1 (D3)."
unfoldable pub distributed_figure : ℕ → (ℕ → ℕ) → (ℕ → ℕ) → ℕ → ℕ → ℤ
distributed_figure parties share residual t i =
    pos (running_after parties share residual (suc t) i) -ℤ pos (running_after parties share residual t i)
