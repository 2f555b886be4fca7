-- THE PROMISE of `periodisation`: its `ensures` cites it, and so does what is proved of every service (`every_service`).
use Rattle.std.specs.Prelude.{List, ℕ, length, Result, ⊤}
use Rattle.answer.specs.Promised.{Answered}
use Rattle.answer.specs.declared.Refused.{Refused}
use Rattle.rules.specs.Refusals.{first}
use Rattle.rules.specs.Services.{periodisation_checks, periodisation_figures}

abbrev pub Promised : ℕ → List ℕ → List ℕ → Result ⊤ Refused → List ℕ → Type 0
Promised e weights lent = Answered (first (periodisation_checks e weights (length lent))) (periodisation_figures e weights) lent
