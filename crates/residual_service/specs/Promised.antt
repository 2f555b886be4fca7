-- THE PROMISE of `residual`: its `ensures` cites it, and so does what is proved of every service (`every_service`).
use Rattle.std.specs.Prelude.{List, ℕ, ℤ, length, Result, ⊤}
use Rattle.answer.specs.Promised.{Answered}
use Rattle.answer.specs.declared.Refused.{Refused}
use Rattle.rules.specs.Refusals.{first}
use Rattle.rules.specs.Services.{residual_checks, residual_figures}

abbrev pub Promised : List ℕ → List ℤ → List ℕ → List ℕ → List ℕ → List ℕ → Result ⊤ Refused → List ℕ → Type 0
Promised statuses nets productions hourlies flexes lent =
    Answered (first (residual_checks statuses nets productions hourlies flexes (length lent)))
    (residual_figures statuses nets productions hourlies flexes) lent
