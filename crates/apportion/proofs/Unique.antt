-- No second result fits what the crate promises.
use mathlib.Core.List.{List}
use mathlib.Core.Path.{◌≡◌}
use Prim.Native.Nat.{ℕ}
use Rattle.apportion.specs.Filled.{Filled}
use Rattle.apportion.proofs.Arrays.{filled_once}
use Rattle.rules.specs.LargestRemainder.{one_each}
use Rattle.rules.specs.Words.{at}

-- `one_each_holds`
pub one_each_unique :
    (rest : List ℕ) (n left : ℕ) (l m : List ℕ)
    → Filled 0 (one_each n (at rest) left) n l
    → Filled 0 (one_each n (at rest) left) n m
    → l ≡ m
one_each_unique rest n left l m p q = filled_once 0 (one_each n (at rest) left) n l m p q
