-- "The applied series is the refixed series if the file has one, otherwise the fixed series." of two series of figures.
use Rattle.std.specs.Prelude.{Bool, cond, List, ℕ}

unfoldable pub applied_of : List ℕ → List ℕ → Bool → List ℕ
applied_of fixed refixed has-refixed = cond has-refixed refixed fixed
