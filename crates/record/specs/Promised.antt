-- The promise of `body_length`, said once: its `ensures` cites it by its name, and so does what is proved of every service (`every_service`).
use Rattle.std.specs.Prelude.{◌≡◌, ℕ}
use Rattle.rules.specs.Record.{body_length}

abbrev pub BodyLengthPromised : ℕ → ℕ → Type 0
BodyLengthPromised kind n = n ≡ body_length kind
