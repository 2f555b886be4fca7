-- What `plan_service::plan` promises follows from the planner's promise: 16 stands before its checks, and of an accepted call the lent lists have the numbers of the
-- records that it gives.
use mathlib.Core.Bool.{Bool, true, false, not, ◌&&◌}
use mathlib.Core.List.{List}
use mathlib.Core.Path.{◌≡◌, refl, sym, ◌∙◌, ap}
use Prim.Native.Nat.{ℕ, ◌+◌, ◌≤◌, ◌<◌}
use native.Mathlib.Omega.{arith}
use borrow.Author.Tests.{eqb-true}
use lib.Dec.{eqb}
use lib.ListN.{length, set}
use Rattle.std.specs.Prelude.{Result, Ok, Err, ⊤}
use Rattle.answer.specs.Said.{said}
use Rattle.answer.specs.declared.Refused.{Refused}
use Rattle.answer.specs.declared.Refusal.TheVariants.{WrongLength}
use Rattle.answer.proofs.Checks.{flag_off, flag_on, test_refuses, test_passes}
use Rattle.answer.proofs.Checks as C
use Rattle.plan.specs.Planning.{record_of}
use Rattle.plan.specs.Promised as P
use Rattle.plan.specs.declared.Planned.{Planned}
use Rattle.plan.proofs.Given.{accepts, as_many, record_at_lem, few_months}
use Rattle.record.specs.Record.{over_of}
use Rattle.record.specs.declared.Reading.{Reading}
use Rattle.rules.specs.Limits.{most_months}
use Rattle.rules.specs.Month.{weight_before, whole_weight}
use Rattle.rules.specs.Plan.{LongReading, month_count, plan_checks, lent_plan_checks}
use Rattle.rules.specs.Refusals.{wrong_length, Verdict, first, afterwards}
use Rattle.rules.specs.Words.{figures}
use Rattle.rules.proofs.Loops.{Filling, fill_start, fill_next, fill_end, figures_cong}
use Rattle.rules.proofs.Whole.{both_pass}
use Rattle.plan_service.specs.Planned.{from_in, to_in, before_in, whole_in, PlacesFor, NumbersOf}
use Rattle.plan_service.specs.Promised.{plan_verdict, Promised}

-- THE LOOP that puts the records' numbers: after k months each list has those of the first k
pub record Put (records : List Reading) (n : ℕ) (from to before whole : List ℕ) (k : ℕ) : Type 0 where
  pub few : n ≤ most_months
  pub froms : Filling (from_in records) n from k
  pub tos : Filling (to_in records) n to k
  pub befores : Filling (before_in records) n before k
  pub wholes : Filling (whole_in records) n whole k

module _ {records : List Reading} {n : ℕ} {from to before whole : List ℕ} where
  pub put_start : PlacesFor n from to before whole → Put records n from to before whole 0
  put_start p =
      record {
        few = p.few;
        froms = fill_start _ p.places_from;
        tos = fill_start _ p.places_to;
        befores = fill_start _ p.places_before;
        wholes = fill_start _ p.places_whole;
      }

  module _ {k : ℕ} (inv : Put records n from to before whole k) where
    pub put_next : k < n → {a b w s : ℕ} → a ≡ from_in records k → b ≡ to_in records k → w ≡ before_in records k → s ≡ whole_in records k
        → Put records n (set from k a) (set to k b) (set before k w) (set whole k s) (k + 1)
    put_next l a-is b-is w_is s-is =
        record {
          few = inv.few;
          froms = fill_next inv.froms l a-is;
          tos = fill_next inv.tos l b-is;
          befores = fill_next inv.befores l w_is;
          wholes = fill_next inv.wholes l s-is;
        }

    pub put_end : n ≤ k → NumbersOf records n from to before whole
    put_end l =
        record {
          froms = fill_end inv.froms l;
          tos = fill_end inv.tos l;
          befores = fill_end inv.befores l;
          wholes = fill_end inv.wholes l;
        }

module _ (r : LongReading) (from to before whole : List ℕ) {t : Bool}
    (t-is : t ≡ eqb (length from) (month_count r) && eqb (length to) (month_count r) && eqb (length before) (month_count r) && eqb (length whole) (month_count r)) where
  abbrev v : Verdict
  v = plan_verdict r from to before whole

  -- refused: nothing is written
  unwritten : {x : Refused} {a : Result ⊤ Refused} → a ≡ Err x → said a ≡ v → Promised r from to before whole a from to before whole
  unwritten told says =
      record {
        answer = says;
        holds_from = C.unwritten _ _ told;
        holds_to = C.unwritten _ _ told;
        holds_before = C.unwritten _ _ told;
        holds_whole = C.unwritten _ _ told;
      }

  -- 16
  pub wrong_lent : not t ≡ true → Promised r from to before whole (Err (WrongLength, 0)) from to before whole
  unfolding lent_plan_checks
  wrong_lent off = unwritten refl (test_refuses _ (sym t-is ∙ flag_off t off))

  module _ (on : not t ≡ false) {planned : Result Planned Refused} (promised : P.Promised r planned) where
    judged : first (plan_checks r) ≡ v
    unfolding lent_plan_checks
    judged = test_passes wrong_length 0 (plan_checks r) (sym t-is ∙ flag_on t on) refl

    pub plan_refuses : {x : Refused} {a : Result ⊤ Refused} → planned ≡ Err x → a ≡ Err x → Promised r from to before whole a from to before whole
    plan_refuses is on = unwritten on (ap said on ∙ sym (ap said is) ∙ promised.answer ∙ judged)

    module _ {p : Planned} (done : planned ≡ Ok p) where
      lengths : (length from ≡ month_count r) × (length to ≡ month_count r) × (length before ≡ month_count r) × (length whole ≡ month_count r)
      lengths =
          let all =
          both_pass (eqb (length from) (month_count r) && eqb (length to) (month_count r) && eqb (length before) (month_count r)) (eqb (length whole) (month_count r))
          (sym t-is ∙ flag_on t on) in
          let three = both_pass (eqb (length from) (month_count r) && eqb (length to) (month_count r)) (eqb (length before) (month_count r)) all.0 in
          let two = both_pass (eqb (length from) (month_count r)) (eqb (length to) (month_count r)) three.0 in
          (eqb-true _ _ two.0, eqb-true _ _ two.1, eqb-true _ _ three.1, eqb-true _ _ all.1)

      pub places : PlacesFor p.months from to before whole
      places =
          let is = sym (as_many r promised done) in
          record {
            few = omega (arith, is, few_months r promised done);
            places_from = lengths.0 ∙ is;
            places_to = lengths.1 ∙ is;
            places_before = lengths.2 ∙ is;
            places_whole = lengths.3 ∙ is;
          }

      -- a lent list with a number of each record
      numbers : {after : List ℕ} {f g : ℕ → ℕ} → after ≡ figures p.months f → ((k : ℕ) → k < month_count r → f k ≡ g k) → after ≡ figures (month_count r) g
      numbers {f = f} is same = is ∙ ap (λ (n : ℕ). figures n f) (as_many r promised done) ∙ figures_cong (month_count r) same

      pub all_lent : {from' to' before' whole' : List ℕ} → NumbersOf p.records p.months from' to' before' whole'
          → Promised r from to before whole (Ok tt) from' to' before' whole'
      unfolding from_in to_in before_in whole_in record_of weight_before whole_weight afterwards
      all_lent put =
          let at = record_at_lem r promised done in
          record {
            answer = sym (accepts r promised done) ∙ judged;
            holds_from = numbers put.froms (λ k c. ap (λ (x : Reading). x.a) (at k c));
            holds_to = numbers put.tos (λ k c. ap (λ (x : Reading). x.b) (at k c));
            holds_before = numbers put.befores (λ k c. ap (λ (x : Reading). weight_before (over_of x.over)) (at k c));
            holds_whole = numbers put.wholes (λ k c. ap (λ (x : Reading). whole_weight (over_of x.over) 0) (at k c));
          }
