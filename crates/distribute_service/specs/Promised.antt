-- THE PROMISE of `distribution`: its `ensures` cites it, and so does what is proved of every service (`every_service`).
use Rattle.std.specs.Prelude.{List, ℕ, ℤ, length, Result, ⊤}
use Rattle.answer.specs.Promised.{Answered}
use Rattle.answer.specs.declared.Refused.{Refused}
use Rattle.rules.specs.Refusals.{first}
use Rattle.rules.specs.Services.{distribution_checks, distribution_figures}

abbrev pub Promised : List ℕ → List ℕ → List ℤ → Result ⊤ Refused → List ℤ → Type 0
Promised shares residuals lent =
    Answered (first (distribution_checks shares residuals (length lent))) (distribution_figures shares residuals) lent
