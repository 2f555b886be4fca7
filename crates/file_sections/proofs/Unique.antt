-- No second result fits what the crate promises.
use mathlib.Core.List.{List}
use mathlib.Core.Path.{◌≡◌, sym, ◌∙◌, ap₂}
use Prim.Native.Nat.{ℕ}
use Rattle.std.specs.Prelude.{Result, Ok, Err}
use Rattle.answer.specs.Said.{named}
use Rattle.answer.specs.declared.Refusal.{Refusal}
use Rattle.answer.specs.declared.Refused.{Refused}
use Rattle.answer.proofs.Said.{named_once}
use Rattle.file_sections.specs.Walk.{told, Promised}
use Rattle.file_sections.specs.declared.Sections.{Sections}
use Rattle.setting.specs.declared.Prices.{Prices}

told_once : (a b : Result Sections Refused) → told a ≡ told b → a ≡ b
told_once (Ok s) (Ok t) e = cc
told_once (Ok s) (Err r) e = cc
told_once (Err r) (Ok s) e = cc
told_once (Err r) (Err x) e =
    let same_place : r.1 ≡ x.1 = cc in
    let same_name : named r.0 ≡ named x.0 = cc in
    ap₂ (λ (why : Refusal) (place : ℕ). Err (why, place)) (named_once r.0 x.0 same_name) same_place

-- `read`
pub read_unique :
    (prices : Prices) (file : List ℕ) (a b : Result Sections Refused)
    → Promised prices file a
    → Promised prices file b
    → a ≡ b
read_unique prices file a b p q = told_once a b (p ∙ sym q)
