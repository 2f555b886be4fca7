-- The promises, each said once: a function's `ensures` cites it by its name, and so does what is proved of every service (`every_service`).
use Rattle.std.specs.Prelude.{Bool, List, Result, ⊤, ◌≡◌, ℕ, ℤ}
use Rattle.answer.specs.Ranges.{between_ℤ}
use Rattle.answer.specs.Said.{named, said}
use Rattle.answer.specs.declared.Refused.{Refused}
use Rattle.answer.specs.declared.Refusal.{Refusal}
use Rattle.rules.specs.Refusals.{Verdict, number_of, afterwards}
use Rattle.rules.specs.Services.{each_at, each_at_ℤ}
use Rattle.rules.specs.Words.{at_most}

-- THE PROMISE OF A SERVICE that writes its figures into one lent list: "the full result and the final contents of every lent buffer, on acceptance and on
-- refusal, number and place included" (01, "What a proof here has to say")
pub record Answered {A B : Type 0} (verdict : Verdict) (figures lent : List A) (r : Result B Refused) (held : List A) : Type 0 where
  pub answer : said r ≡ verdict
  pub contents : held ≡ afterwards (said r) figures lent

-- `Refusal::number`: "A refusal returns its number"
abbrev pub NumberPromised : Refusal → ℕ → Type 0
NumberPromised refusal n = n ≡ number_of (named refusal)

-- `each_at_most`: "the first value outside in its list"
abbrev pub EachAtMostPromised : List ℕ → ℕ → Refusal → Result ⊤ Refused → Type 0
EachAtMostPromised values most otherwise r = said r ≡ each_at values (at_most most) (named otherwise)

-- `within_i64`
abbrev pub WithinPromised : ℤ → ℤ → ℤ → Bool → Type 0
WithinPromised figure lowest greatest r = r ≡ between_ℤ lowest greatest figure

-- `each_within_i64`
abbrev pub EachWithinPromised : List ℤ → ℤ → ℤ → Refusal → Result ⊤ Refused → Type 0
EachWithinPromised figures lowest greatest otherwise r = said r ≡ each_at_ℤ figures (between_ℤ lowest greatest) (named otherwise)
