-- THE PROMISE of `curve`: its `ensures` cites it, and so does what is proved of every service (`every_service`).
use Rattle.std.specs.Prelude.{List, ℕ, length, Result, ⊤}
use Rattle.answer.specs.Promised.{Answered}
use Rattle.answer.specs.declared.Refused.{Refused}
use Rattle.rules.specs.Refusals.{first}
use Rattle.rules.specs.Services.{curve_checks, curve_figures}

abbrev pub Promised : List ℕ → ℕ → List ℕ → Result ⊤ Refused → List ℕ → Type 0
Promised residuals w lent = Answered (first (curve_checks residuals w (length lent))) (curve_figures residuals w) lent
