-- No second result fits: what `statement` promises leaves one answer, and one content of the lent buffer.
use mathlib.Core.List.{List}
use mathlib.Core.Path.{◌≡◌, sym, ◌∙◌, ap, ap₂}
use Prim.Native.Nat.{ℕ}
use Rattle.std.specs.Prelude.{Result, Ok, Err}
use Rattle.answer.specs.Said.{named}
use Rattle.answer.specs.declared.Refusal.{Refusal}
use Rattle.answer.specs.declared.Refused.{Refused}
use Rattle.answer.proofs.Said.{named_once}
use Rattle.rules.specs.Refusals as R
use Rattle.rules.specs.Statement as T
use Rattle.setting.specs.Asked.{asked}
use Rattle.setting.specs.declared.Setting.{Setting}
use Rattle.statement_text.specs.Stating.{per_of, verdict, told, Promised}
use Rattle.statement_text.specs.declared.Per.{Per}
use Rattle.text.specs.Text.{at_start}

pub told_once : (r s : Result ℕ Refused) → told r ≡ told s → r ≡ s
told_once (Ok n) (Ok k) e = cc
told_once (Ok n) (Err x) e = cc
told_once (Err x) (Ok n) e = cc
told_once (Err x) (Err y) e =
    let same_name : named x.0 ≡ named y.0 = cc in
    let same_place : x.1 ≡ y.1 = cc in
    ap₂ (λ (refusal : Refusal) (place : ℕ). Err (refusal, place)) (named_once x.0 y.0 same_name) same_place

pub statement_unique :
    {setting : Setting} {per : Per} {file old : List ℕ} {r r' : Result ℕ Refused} {new new' : List ℕ} → Promised setting per file old r new → Promised setting per file old r' new'
    → (r ≡ r') × (new ≡ new')
statement_unique {setting} {per} {file} {old} {r} {r'} {new} {new'} p q =
    let same : r ≡ r' = told_once r r' (p.answer ∙ sym q.answer) in
    (same, p.contents ∙ ap (λ (x : Result ℕ Refused). R.afterwards (verdict x) (at_start (T.statement_per (per_of per) (asked setting) file) old) old) same ∙ sym q.contents)
