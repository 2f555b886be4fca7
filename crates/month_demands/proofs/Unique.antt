-- "that no second result fits is itself proved" (01, "What a proof here has to say"): what the crate's public functions promise leaves one answer, and one
-- content of each lent output.
use mathlib.Core.List.{List}
use mathlib.Core.Path.{◌≡◌, refl, sym, ◌∙◌, ap, ap₂}
use Prim.Native.Nat.{ℕ}
use native.Mathlib.Omega.{arith}
use lib.IntN.{pos}
use Rattle.std.specs.Prelude.{Result, Ok, Err}
use Rattle.answer.specs.Said.{named, said}
use Rattle.answer.specs.declared.Refusal.{Refusal}
use Rattle.answer.specs.declared.Refused.{Refused}
use Rattle.answer.proofs.Said.{named_once}
use Rattle.apportion.proofs.Arrays.{filled_once}
use Rattle.month_demands.specs.Demands.{Outputs, Kept}
use Rattle.month_sums.specs.Outcomes.{OutcomeIs}
use Rattle.month_service.specs.Told.{verdict, told}
use Rattle.month_sums.specs.Summing.{SumsAre}
use Rattle.month_sums.specs.declared.Outcome.{Outcome}
use Rattle.month_service.specs.declared.Summary.{Summary}
use Rattle.hour_settled.specs.declared.Sums.{Sums}
use Rattle.setting.specs.declared.Setting.{Setting}
use Rattle.rules.specs.Month.{month_of, month_distributed, month_periodised, month_loss, month_difference, month_amount}
use Rattle.rules.specs.MonthFile.{MonthFile, P}
use Rattle.rules.specs.Refusals.{afterwards}
use Rattle.rules.specs.Words.{figures}
use Rattle.rules.proofs.Refusals.{refused_not_accepted}

-- a refusal can be read back from its name and its place
refused_once : {x y : Refused} → named x.0 ≡ named y.0 → x.1 ≡ y.1 → x ≡ y
refused_once {x} {y} names places = ap₂ (λ (refusal : Refusal) (place : ℕ). (refusal, place)) (named_once x.0 y.0 names) places

-- and so can an answer from what it tells
pub told_once : (r s : Result Summary Refused) → told r ≡ told s → r ≡ s
told_once (Ok x) (Ok y) e = let same : x ≡ y = cc in ap Ok same
told_once (Ok x) (Err y) e = let z : ◌≡◌ {A = ℕ} 0 1 = cc in absurd (omega arith)
told_once (Err x) (Ok y) e = let z : ◌≡◌ {A = ℕ} 0 1 = cc in absurd (omega arith)
told_once (Err x) (Err y) e = ap Err (refused_once (cc) (cc))

-- what a lent output holds is settled by the answer
one_content :
    {A : Type 0} {r s : Result Summary Refused} (new old : List A) {held held' : List A}
    → r ≡ s
    → held ≡ afterwards (verdict r) new old
    → held' ≡ afterwards (verdict s) new old
    → held ≡ held'
one_content new old same p q = p ∙ ap (λ (u : Result Summary Refused). afterwards (verdict u) new old) same ∙ sym q

-- `settle`
pub settle_unique :
    {setting : Setting} {file : List ℕ} {r r' : Result Summary Refused} (lent held held' : Outputs)
    → Kept setting file r lent held
    → Kept setting file r' lent held'
    → (r ≡ r') × (held ≡ held')
settle_unique {file = file} {r = r} {r' = r'} lent held held' one other = (
  same,
  λ i. record { distributed = distributed i; periodised = periodised i; losses = losses i; differences = differences i; amounts = amounts i },
)
  where
    m : MonthFile
    m = month_of file

    same : r ≡ r'
    same = told_once r r' (one.answer ∙ sym other.answer)

    distributed : held.distributed ≡ held'.distributed
    distributed = one_content (figures (P m) (month_distributed m)) lent.distributed same one.distributed other.distributed

    periodised : held.periodised ≡ held'.periodised
    periodised = one_content (figures (P m) (month_periodised m)) lent.periodised same one.periodised other.periodised

    losses : held.losses ≡ held'.losses
    losses = one_content (figures (P m) (month_loss m)) lent.losses same one.losses other.losses

    differences : held.differences ≡ held'.differences
    differences = one_content (figures (P m) (month_difference m)) lent.differences same one.differences other.differences

    amounts : held.amounts ≡ held'.amounts
    amounts = one_content (figures (P m) (month_amount m)) lent.amounts same one.amounts other.amounts

-- two sums of one month are one
sums_once : (m : MonthFile) (x y : Sums) → SumsAre m x → SumsAre m y → x ≡ y
sums_once m x y p q =
    λ i. record { distributed_wh = distributed i; periodised_wh = periodised i; differences_wh = differences i; amounts_millionths = amounts i; loss_wh = loss i }
  where
    distributed : x.distributed_wh ≡ y.distributed_wh
    distributed =
        filled_once (pos 0) (month_distributed m) (P m) x.distributed_wh y.distributed_wh p.distributed q.distributed

    periodised : x.periodised_wh ≡ y.periodised_wh
    periodised = filled_once 0 (month_periodised m) (P m) x.periodised_wh y.periodised_wh p.periodised q.periodised

    differences : x.differences_wh ≡ y.differences_wh
    differences =
        filled_once (pos 0) (month_difference m) (P m) x.differences_wh y.differences_wh p.differences q.differences

    amounts : x.amounts_millionths ≡ y.amounts_millionths
    amounts =
        filled_once (pos 0) (month_amount m) (P m) x.amounts_millionths y.amounts_millionths p.amounts q.amounts

    loss : x.loss_wh ≡ y.loss_wh
    loss = p.loss ∙ sym q.loss

-- `settle_read`
module _ {setting : Setting} {m : MonthFile} where
  pub settle_read_unique : (r s : Result Outcome Refused) → OutcomeIs setting m r → OutcomeIs setting m s → r ≡ s
  settle_read_unique r s p q = go r s p q (p.verdict ∙ sym q.verdict)
    where
      go : (r s : Result Outcome Refused) → OutcomeIs setting m r → OutcomeIs setting m s → said r ≡ said s → r ≡ s
      go (Ok x) (Ok y) p q e =
          let estimated : x.estimated ≡ y.estimated = p.estimated x refl ∙ sym (q.estimated y refl) in
          let sums : x.sums ≡ y.sums = sums_once m x.sums y.sums (p.sums x refl) (q.sums y refl) in
          ap Ok (λ i. record { estimated = estimated i; sums = sums i })
      go (Ok x) (Err y) p q e = absurd (refused_not_accepted (sym e))
      go (Err x) (Ok y) p q e = absurd (refused_not_accepted e)
      go (Err x) (Err y) p q e = ap Err (refused_once (cc) (cc))
