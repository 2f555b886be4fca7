-- What `settle_reconciliation` promises follows from the promise of `reconciliation`: its verdict, its loss and its lists are read through the checks.
use mathlib.Core.List.{List}
use mathlib.Core.Path.{◌≡◌, refl, sym, ◌∙◌, ap}
use Prim.Native.Nat.{ℕ}
use lib.IntN.{ℤ}
use lib.ListN.{length}
use Rattle.std.specs.Prelude.{Result, Ok, Err}
use Rattle.answer.specs.Said.{verdict_of}
use Rattle.answer.specs.declared.Refused.{Refused}
use Rattle.reconcile_service.specs.Told.{verdict, told, Promised}
use Rattle.rules.specs.Refusals as R
use Rattle.rules.specs.Refusals.{Verdict, first, afterwards, answer}
use Rattle.rules.specs.Services.{reconciliation_checks, reconciliation_loss, reconciliation_differences, reconciliation_amounts}
use Rattle.answer_code.specs.Coded.{coded}
use Rattle.settle_c.specs.Promised.{kept}
use Rattle.settle_c.proofs.Told.{coded_by, left_by}

-- the loss that an answer gives, or what was there
abbrev loss_or : ℤ → R.Answer ℤ → ℤ
loss_or old (R.given loss) = loss
loss_or old (R.refusal r place) = old

or_kept : (old new : ℤ) (v : Verdict) → loss_or old (answer v new) ≡ kept v new old
unfolding answer kept
or_kept old new R.accepted = refl
or_kept old new (R.refused r place) = refl

module _
    {residual : ℕ} {distributed : List ℤ} {periodised : List ℕ} {carrier : ℕ} {price : ℤ} {differences amounts : List ℤ}
    {r : Result ℤ Refused} {d a : List ℤ}
    (p : Promised residual distributed periodised carrier price differences amounts r d a) where
  abbrev checked : Verdict
  checked = first (reconciliation_checks residual distributed periodised carrier price (length differences) (length amounts))

  loss_is : (old : ℤ) → loss_or old (told r) ≡ kept checked (reconciliation_loss residual periodised) old
  loss_is old =
      ap (loss_or old) p.tells
      ∙ or_kept old (reconciliation_loss residual periodised) (verdict r)
      ∙ ap (λ (v : Verdict). kept v (reconciliation_loss residual periodised) old) p.answers

  pub loss_given : {loss : ℤ} (old : ℤ) → r ≡ Ok loss → loss ≡ kept checked (reconciliation_loss residual periodised) old
  loss_given old is = sym (ap (λ (x : Result ℤ Refused). loss_or old (told x)) is) ∙ loss_is old

  pub loss_kept : {x : Refused} (old : ℤ) → r ≡ Err x → old ≡ kept checked (reconciliation_loss residual periodised) old
  loss_kept old is = sym (ap (λ (x : Result ℤ Refused). loss_or old (told x)) is) ∙ loss_is old

  pub code_given : {loss : ℤ} → r ≡ Ok loss → 0 ≡ coded checked
  unfolding coded
  code_given is = ap coded (sym (ap verdict is) ∙ p.answers)

  pub code_refused : {x : Refused} {n : ℕ} → r ≡ Err x → n ≡ coded (verdict_of x) → n ≡ coded checked
  code_refused is by = coded_by by (sym (ap verdict is) ∙ p.answers)

  pub lists_left :
      (d ≡ afterwards checked (reconciliation_differences residual distributed periodised carrier) differences)
      × (a ≡ afterwards checked (reconciliation_amounts (reconciliation_differences residual distributed periodised carrier) price) amounts)
  lists_left = (left_by _ _ p.holds_differences p.answers, left_by _ _ p.holds_amounts p.answers)
