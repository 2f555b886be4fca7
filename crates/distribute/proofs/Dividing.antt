-- A loop that has divided the first i of n.
use mathlib.Core.List.{List}
use mathlib.Core.Path.{◌≡◌}
use Prim.Native.Nat.{ℕ, ◌+◌, ◌≤◌, ◌<◌}
use lib.ListN.{set, replicate}
use Rattle.apportion.proofs.Arrays.{Upto, upto_start, upto_next, upto_end}
use Rattle.distribute.specs.Parts.{quotient_by, rest_by, DividedBy}
use Rattle.rules.specs.Limits.{most_parties}

pub record Dividing (grown : List ℕ) (w n i : ℕ) (quotient rest : List ℕ) : Type 0 where
  pub quotients : Upto 0 (quotient_by grown w) n i quotient
  pub rests : Upto 0 (rest_by grown w) n i rest

pub divide_start : (grown : List ℕ) (w n : ℕ) → Dividing grown w n 0 (replicate most_parties 0) (replicate most_parties 0)
divide_start grown w n = record { quotients = upto_start 0 _ n; rests = upto_start 0 _ n }

module _ {grown : List ℕ} {w n i : ℕ} {quotient rest : List ℕ} (d : Dividing grown w n i quotient rest) where
  pub divide_next :
      i < n
      → n ≤ most_parties
      → {q r : ℕ}
      → q ≡ quotient_by grown w i
      → r ≡ rest_by grown w i
      → Dividing grown w n (i + 1) (set quotient i q) (set rest i r)
  divide_next b few q r = record { quotients = upto_next d.quotients b few q; rests = upto_next d.rests b few r }

  pub divide_end : n ≤ i → DividedBy grown w n (record { quotient = quotient; rest = rest })
  divide_end b = record { quotients = upto_end d.quotients b; rests = upto_end d.rests b }
