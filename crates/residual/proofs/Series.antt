-- The applied series of figures is the rules' applied series, hour by hour: a file has a refixed series exactly where that one is not empty.
use mathlib.Core.List.{List, [], ◌∷◌, map}
use mathlib.Core.Path.{◌≡◌, refl}
use Prim.Native.Nat.{ℕ, ◌-◌}
use native.Mathlib.Omega.{arith}
use borrow.Author.Tests.{le-leb}
use lib.Dec.{leb}
use lib.ListN.{length, take}
use lib.Seq.{take_all}
use Rattle.rules.specs.Flows.{Flows, applied_series}
use Rattle.residual.specs.Applied.{applied_of}

pub applied_series_lem :
    (figure : Flows → ℕ) (fixed refixed : List Flows)
    → map figure (applied_series fixed refixed) ≡ applied_of (map figure fixed) (map figure refixed) (leb 1 (length refixed))
unfolding applied_series applied_of
applied_series_lem figure fixed [] = refl
applied_series_lem figure fixed (r ∷ refixed) = rw (le-leb 1 (length (r ∷ refixed)) (omega arith))

-- the part from 0 to the length is the whole
pub whole : (l : List ℕ) → take (length l - 0) l ≡ l
whole l = take_all (length l - 0) l (omega arith)
