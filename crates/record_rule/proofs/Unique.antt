-- No second result fits: each promise of `record_rule` fixes the answer, by a definition or by what it says in the words of the rules.
use mathlib.Core.Path.{◌≡◌, refl, sym, ◌∙◌, ap, ap₂}
use Prim.Native.Nat.{ℕ}
use Rattle.std.specs.Prelude.{Result, Ok, Err, ⊤}
use Rattle.answer.specs.Said.{said}
use Rattle.answer.specs.declared.Refused.{Refused}
use Rattle.answer.specs.declared.Refusal.{Refusal}
use Rattle.answer.proofs.Said.{said_once, named_once}
use Rattle.record.specs.Record.{Glns, record_of}
use Rattle.record.specs.declared.Record.{Record}
use Rattle.record.proofs.Unique.{decode_once}
use Rattle.record_rule.specs.Judged.{fault_of, told}
use Rattle.rules.specs.Record as RRecord
use Rattle.rules.specs.Refusals as R

pub fault_once : (hours parties place : ℕ) (beside : Glns) (r : Record) (a b : Result ⊤ Refused) → said a ≡ fault_of hours parties beside r place → said b ≡ fault_of hours parties beside r place → a ≡ b
fault_once hours parties place beside r a b p q = said_once a b (p ∙ sym q)

told_once : (beside : Glns) (a b : Result Record Refused) → told beside a ≡ told beside b → a ≡ b
told_once beside (Ok r) (Ok s) e = let same : record_of beside r ≡ record_of beside s = cc in ap Ok (decode_once beside r s same refl)
told_once beside (Ok r) (Err y) e = cc
told_once beside (Err x) (Ok s) e = cc
told_once beside (Err x) (Err y) e = ap₂ (λ (r : Refusal) (place : ℕ). Err (r, place)) (named_once x.0 y.0 (cc)) (cc)

pub read_once : (beside : Glns) {answer : R.Answer RRecord.Record} (a b : Result Record Refused) → told beside a ≡ answer → told beside b ≡ answer → a ≡ b
read_once beside a b p q = told_once beside a b (p ∙ sym q)
