-- The promises, each said once: a function's `ensures` cites it by its name, and so does what is proved of every service (`every_service`).
use Rattle.std.specs.Prelude.{Bool, List, ◌≡◌, ℕ, ℤ, Result}
use Rattle.residual.specs.Applied.{applied_of}
use Rattle.residual.specs.Hour.{judgement}
use Rattle.residual.specs.declared.NoResidual.{NoResidual}
use Rattle.rules.specs.Flows.{judged_by}

-- `judge`
abbrev pub JudgePromised : ℕ → ℤ → Result ℕ NoResidual → Type 0
JudgePromised status wh r = judgement r ≡ judged_by status wh

-- `applied`
abbrev pub AppliedPromised : List ℕ → List ℕ → Bool → List ℕ → Type 0
AppliedPromised fixed refixed hasRefixed r = r ≡ applied_of fixed refixed hasRefixed
