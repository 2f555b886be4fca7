-- "A month is accepted exactly when no refusal there applies." (00, demand 2): what "no refusal applies" says of a list of checks.
use Rattle.std.specs.Prelude.{List, [], ◌∷◌, ◌++◌, ◌≡◌, ℕ}
use Rattle.rules.specs.Refusals.{Refusal, Verdict, accepted, refused}

-- no check of the list refuses
abbrev pub NoneRefuses : List Verdict → Type 0
NoneRefuses [] = Unit
NoneRefuses (check ∷ later) = (check ≡ accepted) × NoneRefuses later

-- some check of the list refuses so, and none before it refuses
pub record FirstRefuses (checks : List Verdict) (r : Refusal) (place : ℕ) : Type 0 where
  pub earlier : List Verdict
  pub later : List Verdict
  pub split : checks ≡ earlier ++ (refused r place ∷ later)
  pub none_earlier : NoneRefuses earlier
