-- A list with a place for each of the most that there can be, of which the first n hold the figures of a series and the others nothing.
use Rattle.std.specs.Prelude.{List, ◌≡◌, ℕ, ◌≤◌, ◌<◌, length, get_or}
use Rattle.rules.specs.Limits.{most_parties}

pub record FilledOf {A : Type 0} (places : ℕ) (nothing : A) (figure : ℕ → A) (n : ℕ) (l : List A) : Type 0 where
  pub size : length l ≡ places
  pub below : (k : ℕ) → k < n → get_or l k nothing ≡ figure k
  pub past : (k : ℕ) → n ≤ k → get_or l k nothing ≡ nothing

-- with 64 places, one for each party that a month can have
abbrev pub Filled : {A : Type 0} → A → (ℕ → A) → ℕ → List A → Type 0
Filled nothing figure n l = FilledOf most_parties nothing figure n l
