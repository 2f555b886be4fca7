-- What is asked of a month: whether the run lies in it, and whether the lent outputs are right. The verdict of each way out.
use mathlib.Core.Bool.{Bool, true, false, ◌&&◌}
use mathlib.Core.Path.{◌≡◌, refl, sym, ◌∙◌, ap}
use Prim.Native.Nat.{ℕ, ◌+◌, ◌-◌, ◌*◌, ◌≤◌, ◌<◌}
use native.Mathlib.Nat.{mul-le-mul}
use native.Mathlib.Omega.{arith}
use borrow.Author.Tests.{le-leb, lt-leb, leb-true, leb-false, eqb-true}
use lib.Dec.{eqb, leb}
use Rattle.month_run.specs.Run.{in_month, lent_right, asked_verdict}
use Rattle.rules.specs.Refusals.{out_of_range, wrong_length, accepted, refused, unless, and_then}
use Rattle.rules.proofs.Whole.{both_pass}

module _ (all start hours : ℕ) where
  pub no_hours : hours < 1 → false ≡ in_month all start hours
  unfolding in_month
  no_hours b = rw (lt-leb 1 hours b) refl

  pub too_many : all < hours → false ≡ in_month all start hours
  unfolding in_month
  too_many b = sym (ap (λ (t : Bool). leb 1 hours && t) (lt-leb (start + hours) all (omega arith)) ∙ neither (leb 1 hours))
    where
      neither : (t : Bool) → (t && false) ≡ false
      neither true = refl
      neither false = refl

  pub by_rest : 1 ≤ hours → hours ≤ all → leb start (all - hours) ≡ in_month all start hours
  unfolding in_month
  by_rest some few = go (leb (start + hours) all) refl ∙ ap (λ (t : Bool). t && leb (start + hours) all) (sym (le-leb 1 hours some))
    where
      go : (t : Bool) → leb (start + hours) all ≡ t → leb start (all - hours) ≡ (true && leb (start + hours) all)
      go true e = rw e (le-leb start (all - hours) (omega (arith, leb-true (start + hours) all e)))
      go false e = rw e (lt-leb start (all - hours) (omega (arith, leb-false (start + hours) all e)))

  pub run_inside : in_month all start hours ≡ true → (1 ≤ hours) × (start + hours ≤ all)
  unfolding in_month
  run_inside e =
      let both = both_pass (leb 1 hours) (leb (start + hours) all) e in
      (leb-true 1 hours both.0, leb-true (start + hours) all both.1)

  pub product_fits : (parties : ℕ) → all < 65536 → parties < 256 → in_month all start hours ≡ true → hours * parties < 18446744073709551616
  product_fits parties a b e =
      let h : hours ≤ 65535 = omega (arith, run_inside e) in
      let p : parties ≤ 255 = omega arith in
      omega (arith, mul-le-mul h p)

module _ (all parties start hours d p x l : ℕ) where
  pub outside : in_month all start hours ≡ false → refused out_of_range 0 ≡ asked_verdict all parties start hours d p x l
  unfolding asked_verdict unless and_then
  outside e = rw e refl

  module _ (in_month_holds : in_month all start hours ≡ true) where
    pub wrong_lengths : lent_right (hours * parties) hours d p x l ≡ false → refused wrong_length 0 ≡ asked_verdict all parties start hours d p x l
    unfolding asked_verdict unless and_then
    wrong_lengths e = rw (in_month_holds, e) refl

    pub right : lent_right (hours * parties) hours d p x l ≡ true → accepted ≡ asked_verdict all parties start hours d p x l
    unfolding asked_verdict unless and_then
    right e = rw (in_month_holds, e) refl

-- all places are lent
pub lengths : (places hours d p x l : ℕ) → lent_right places hours d p x l ≡ true → (d ≡ places) × (p ≡ places) × (x ≡ places) × (l ≡ hours)
unfolding lent_right
lengths places hours d p x l e =
    let three = both_pass ((eqb d places && eqb p places) && eqb x places) (eqb l hours) e in
    let two = both_pass (eqb d places && eqb p places) (eqb x places) three.0 in
    let one = both_pass (eqb d places) (eqb p places) two.0 in
    (eqb-true d places one.0, eqb-true p places one.1, eqb-true x places two.1, eqb-true l hours three.1)
