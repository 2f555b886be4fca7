-- An hour's figures in a lent list: from a place on stand the first n of an array, and nothing else has changed.
use Rattle.std.specs.Prelude.{List, ◌≡◌, ℕ, ◌+◌, ◌≤◌, ◌<◌, get_or, drop}
use Rattle.rules.proofs.Loops.{Filling}

-- whatever series a list is being filled with, it is filled n places further if the figures are the series'
abbrev pub FilledOn : {A : Type 0} → A → List A → ℕ → ℕ → List A → List A → Type 0
FilledOn {A} nothing written n place before after =
    (series : ℕ → A) (size : ℕ)
    → Filling series size before place
    → place + n ≤ size
    → ((i : ℕ) → i < n → get_or written i nothing ≡ series (place + i))
    → Filling series size after (place + n)

-- and what stands behind these places is as it was
pub record PutOn {A : Type 0} (nothing : A) (written : List A) (n place : ℕ) (before after : List A) : Type 0 where
  pub fills : FilledOn nothing written n place before after
  pub past : drop (place + n) after ≡ drop (place + n) before
