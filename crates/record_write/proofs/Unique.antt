-- No second answer fits: the promise of `record_write` fixes it, by what it says in the words of the rules.
use mathlib.Core.Path.{◌≡◌, sym, ◌∙◌, ap₂}
use Prim.Native.Nat.{ℕ}
use Rattle.std.specs.Prelude.{Result, Ok, Err}
use Rattle.answer.specs.declared.Refusal.{Refusal}
use Rattle.answer.specs.declared.Refused.{Refused}
use Rattle.answer.proofs.Said.{named_once}
use Rattle.record_write.specs.Writing.{wrote}
use Rattle.rules.specs.Refusals.{Answer}

-- an answer of the writer can be read back
wrote_once : (a b : Result ℕ Refused) → wrote a ≡ wrote b → a ≡ b
wrote_once (Ok m) (Ok n) e = cc
wrote_once (Ok m) (Err y) e = cc
wrote_once (Err x) (Ok n) e = cc
wrote_once (Err x) (Err y) e = ap₂ (λ (r : Refusal) (place : ℕ). Err (r, place)) (named_once x.0 y.0 (cc)) (cc)

pub write_once : {told : Answer ℕ} (a b : Result ℕ Refused) → wrote a ≡ told → wrote b ≡ told → a ≡ b
write_once a b p q = wrote_once a b (p ∙ sym q)
