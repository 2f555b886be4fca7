-- What a service called from C answers: "A refusal returns its number and a place" (01 "Refusal numbers") as one number, and 0 for accepted.
use Rattle.std.specs.Prelude.{cond, ◌≡◌, ℕ, ◌+◌, ◌*◌, leb, Result, ⊤}
use Rattle.answer.specs.Said.{said}
use Rattle.answer.specs.declared.Refused.{Refused}
use Rattle.rules.specs.Refusals.{Verdict, accepted, refused, number_of}

-- 2 ^ 56 - 1: up to this place number + 256 x place is within 64 bits
abbrev pub greatest_place : ℕ
greatest_place = 72057594037927935

-- 2 ^ 64 - 1: what a refusal past that place would answer. No service refuses there: its places are below
-- 8,784 (`proofs/Exact`).
abbrev pub past_every_place : ℕ
past_every_place = 18446744073709551615

-- number + 256 x place
unfoldable pub number_at : ℕ → ℕ → ℕ
number_at number place = cond (leb place greatest_place) (number + 256 * place) past_every_place

unfoldable pub coded : Verdict → ℕ
coded accepted = 0
coded (refused r place) = number_at (number_of r) place

-- THE PROMISE of `code`: its `ensures` cites it, and so does what is proved of every service (`every_service`)
abbrev pub Promised : Result ⊤ Refused → ℕ → Type 0
Promised a n = n ≡ coded (said a)
