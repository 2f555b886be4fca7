-- What an answer tells as one number: up to the greatest place number + 256 x place.
use mathlib.Core.Path.{◌≡◌, sym, ◌∙◌, ap}
use Prim.Native.Nat.{ℕ, ◌+◌, ◌*◌, ◌≤◌, ◌<◌}
use borrow.Author.Tests.{le-leb, lt-leb}
use Rattle.answer.specs.Said.{named, said}
use Rattle.answer.specs.declared.Refused.{Refused}
use Rattle.answer.specs.declared.Refusal.{Refusal}
use Rattle.std.specs.Prelude.{Result, Err, ⊤}
use Rattle.rules.specs.Refusals.{Verdict, accepted, number_of}
use Rattle.answer_code.specs.Coded.{greatest_place, past_every_place, number_at, coded}

pub within_place : (number place : ℕ) → place ≤ greatest_place → number + 256 * place ≡ number_at number place
unfolding number_at
within_place number place h = rw (le-leb place greatest_place h)

pub past_place : (number place : ℕ) → greatest_place < place → past_every_place ≡ number_at number place
unfolding number_at
past_place number place h = rw (lt-leb place greatest_place h)

-- the number of a refusal at its place is what the refusal tells
pub refused_code : {a : Result ⊤ Refused} {r : Refusal} {place number n : ℕ} → a ≡ Err (r, place) → number ≡ number_of (named r) → n ≡ number_at number place → n ≡ coded (said a)
unfolding coded
refused_code {place = place} is by_name by = by ∙ ap (λ (k : ℕ). number_at k place) by_name ∙ sym (ap (λ (x : Result ⊤ Refused). coded (said x)) is)

pub accepted_code : {w : Verdict} → accepted ≡ w → 0 ≡ coded w
unfolding coded
accepted_code same = ap coded same
