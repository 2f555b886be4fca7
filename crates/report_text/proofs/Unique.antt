-- No second result fits: what `report` promises leaves one answer, and one content of each lent buffer.
use mathlib.Core.List.{List}
use mathlib.Core.Path.{◌≡◌, sym, ◌∙◌, ap, ap₂}
use Prim.Native.Nat.{ℕ}
use Rattle.std.specs.Prelude.{Result, Ok, Err}
use Rattle.answer.specs.Said.{named}
use Rattle.answer.specs.declared.Refusal.{Refusal}
use Rattle.answer.specs.declared.Refused.{Refused}
use Rattle.answer.proofs.Said.{named_once}
use Rattle.report_text.specs.Lines.{first_part, rest_part, parties_part}
use Rattle.report_text.specs.Reporting.{verdict, told, Answered}
use Rattle.report_text.specs.declared.Lines.{Lines}
use Rattle.rules.specs.MonthFile.{MonthFile}
use Rattle.rules.specs.Refusals as R
use Rattle.text.specs.Text.{at_start}

given_once : {l k : Lines} → R.given l ≡ R.given k → l ≡ k
given_once e = cc

pub told_once : (r s : Result Lines Refused) → told r ≡ told s → r ≡ s
told_once (Ok l) (Ok k) e = ap Ok (given_once e)
told_once (Ok l) (Err y) e = cc
told_once (Err x) (Ok k) e = cc
told_once (Err x) (Err y) e =
    let same_place : x.1 ≡ y.1 = cc in
    let same_name : named x.0 ≡ named y.0 = cc in
    ap₂ (λ (refusal : Refusal) (place : ℕ). Err (refusal, place)) (named_once x.0 y.0 same_name) same_place

pub report_unique :
    {ofFile : R.Verdict} {m : MonthFile} {first rest parties : List ℕ} {r s : Result Lines Refused} {a b c x y z : List ℕ}
    → Answered ofFile m first rest parties r a b c
    → Answered ofFile m first rest parties s x y z → (r ≡ s) × ((a ≡ x) × ((b ≡ y) × (c ≡ z)))
report_unique {ofFile} {m} {first} {rest} {parties} {r} {s} p q =
    let same : r ≡ s = told_once r s (p.answer ∙ sym q.answer) in (
      same,
      (
        p.first_hours_holds ∙ ap (λ (t : Result Lines Refused). R.afterwards (verdict t) (at_start (first_part m) first) first) same ∙ sym q.first_hours_holds,
        (
          p.other_hours ∙ ap (λ (t : Result Lines Refused). R.afterwards (verdict t) (at_start (rest_part m) rest) rest) same ∙ sym q.other_hours,
          p.all_parties ∙ ap (λ (t : Result Lines Refused). R.afterwards (verdict t) (at_start (parties_part m) parties) parties) same ∙ sym q.all_parties,
        ),
      ),
    )
