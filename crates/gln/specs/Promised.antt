-- The promises, each said once: a function's `ensures` cites it by its name, and so does what is proved of every service (`every_service`).
use Rattle.std.specs.Prelude.{List, ◌≡◌, ℕ, Option}
use Rattle.gln.specs.Gln.{gln_answer, gln_part}

-- `check`
abbrev pub CheckPromised : List ℕ → Option ℕ → Type 0
CheckPromised part r = r ≡ gln_answer part

-- `part_at`
abbrev pub PartAtPromised : List ℕ → ℕ → List ℕ → Type 0
PartAtPromised file at r = r ≡ gln_part file at
