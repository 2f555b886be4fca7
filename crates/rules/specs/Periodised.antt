-- "Periodised consumption" (01; H2 6.2; 02, W3): a reading spread over its hours by the curve. A reading over several months is spread in each month file over
-- the hours that it has there, with a weight before them and a weight of the whole reading; one that lies in one month has nothing before and its own weight S
-- as the whole. There is one figure for both.
use Rattle.std.specs.Prelude.{ℕ, suc, ◌+◌, ◌-◌, ◌*◌, ◌/◌}
use Rattle.rules.specs.Words.{sum}

-- "After each hour the reading's sum so far is E x (weights so far) / S, rounded down", and of a reading over months / the "weight of the whole reading".
-- "With E = 0 and S = 0 every figure is 0": a quotient by 0 is 0 here (law `nothing_over_nothing`).
unfoldable pub sum_so_far : ℕ → ℕ → ℕ → ℕ
sum_so_far e weightsSoFar whole = e * weightsSoFar / whole

-- "the hour's figure is the growth": of E over the whole, at the k-th of some hours with a weight before them
unfoldable pub periodised_figure : ℕ → ℕ → ℕ → (ℕ → ℕ) → ℕ → ℕ
periodised_figure e before whole weight k =
    sum_so_far e (before + sum (suc k) weight) whole - sum_so_far e (before + sum k weight) whole

-- what the reading's sum has grown by over hours that weigh so much: their part of E
unfoldable pub part_of_e : ℕ → ℕ → ℕ → ℕ → ℕ
part_of_e e before own whole = sum_so_far e (before + own) whole - sum_so_far e before whole
