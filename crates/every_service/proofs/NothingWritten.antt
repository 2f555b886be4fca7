-- A REFUSED CALL HAS WRITTEN NOTHING, for every public service that is lent something: one law over `afterwards`, cited for each lent buffer.
use mathlib.Core.List.{List}
use mathlib.Core.Path.{◌≡◌, refl, sym, ◌∙◌, ap}
use Prim.Native.Nat.{ℕ}
use native.Mathlib.Omega.{arith}
use Rattle.std.specs.Prelude.{Result, ⊤}
use Rattle.answer.specs.Promised.{Answered}
use Rattle.answer.specs.Said.{said}
use Rattle.answer.specs.declared.Refused as A
use Rattle.answer_code.specs.Coded.{coded}
use Rattle.every_service.specs.NothingWritten.{Refused, Refuses, wrote_verdict, NotZero, Unwritten, NothingWritten}
use Rattle.record_write.specs.Writing as Write
use Rattle.rules.specs.Record.{Record}
use Rattle.rules.specs.Refusals.{Verdict, accepted, refused, Answer, verdict_told, afterwards}
use Rattle.rules.proofs.Refusals.{verdict_back}
use Rattle.settle_c.specs.Promised.{Numbered, kept}

-- THE LAW: under a refusal a lent list holds what it held
left : {A : Type 0} (v : Verdict) (new old : List A) {held : List A} → Refused v → held ≡ afterwards v new old → held ≡ old
unfolding afterwards
left v new old refuses holds = holds ∙ ap (λ (u : Verdict). afterwards u new old) refuses.told

-- a number that is not 0 codes a refusal
not_zero : (v : Verdict) {n : ℕ} → n ≡ coded v → NotZero n → Refused v
unfolding coded
not_zero accepted is some = absurd (omega (arith, is, some))
not_zero (refused why place) is some = record { why = why; place = place; told = refl }

-- a lent number, as a lent list
number_left : {A : Type 0} (v : Verdict) (new old : A) {held : A} → Refused v → held ≡ kept v new old → held ≡ old
unfolding kept
number_left v new old refuses holds = holds ∙ ap (λ (u : Verdict). kept u new old) refuses.told

-- one lent list, of an answer by a verdict, and of a number
answered : {A : Type 0} (verdict : Verdict) (figures lent : List A) → Unwritten (Refuses (said {A = ⊤})) lent (Answered verdict figures lent)
unfolding Unwritten
answered verdict figures lent r held refuses p = left (said r) figures lent refuses p.contents

numbered : {A : Type 0} (verdict : Verdict) (figures lent : List A) → Unwritten NotZero lent (Numbered verdict figures lent)
unfolding Unwritten
numbered verdict figures lent n held some p = left verdict figures lent (not_zero verdict p.answer some) p.contents

-- the record writer's answer tells its verdict
wrote_nothing : (r : Record) (lent : List ℕ) (v : Verdict) → Unwritten (Refuses wrote_verdict) lent (λ (w : Result ℕ A.Refused) (held : List ℕ). Write.WrittenUnder r lent v (Write.wrote w) held)
unfolding Unwritten
wrote_nothing r lent v w held refuses p =
    left v _ lent (record { why = refuses.why; place = refuses.place; told = sym (verdict_back v _) ∙ ap (λ (a : Answer ℕ). verdict_told a) (sym p.0) ∙ refuses.told }) p.1

pub nothing_written : NothingWritten
unfolding Unwritten
nothing_written =
    record {
      residual = λ statuses nets productions hourlies flexes lent. answered _ _ lent;
      curve = λ residuals w lent. answered _ _ lent;
      distribution = λ shares residuals lent. answered _ _ lent;
      periodisation = λ e weights lent. answered _ _ lent;
      reconciliation =
          λ residual distributed periodised carrier price lent r held refuses p i.
          record {
            differences = left _ _ _ refuses p.holds_differences i;
            amounts = left _ _ _ refuses p.holds_amounts i;
          };
      amounts = λ differences parties prices lent. answered _ _ lent;
      invoice = λ amounts lent. answered _ _ lent;
      plan_lent =
          λ reading lent a held refuses p i.
          record {
            from = left _ _ _ refuses p.holds_from i;
            to = left _ _ _ refuses p.holds_to i;
            before = left _ _ _ refuses p.holds_before i;
            whole = left _ _ _ refuses p.holds_whole i;
          };
      residual_for_C = λ statuses nets productions hourlies flexes lent. numbered _ _ lent;
      curve_for_C = λ residuals w lent. numbered _ _ lent;
      distribution_for_C = λ shares residuals lent. numbered _ _ lent;
      periodisation_for_C = λ e weights lent. numbered _ _ lent;
      reconciliation_for_C =
          λ residual distributed periodised carrier price lent n held some p i.
          record {
            differences = left _ _ _ (not_zero _ p.answer some) p.holds_differences i;
            amounts = left _ _ _ (not_zero _ p.answer some) p.holds_amounts i;
            loss = number_left _ _ _ (not_zero _ p.answer some) p.holds_loss i;
          };
      amounts_for_C = λ differences parties prices lent. numbered _ _ lent;
      invoice_for_C = λ amounts lent. numbered _ _ lent;
      plan_for_C =
          λ reading lent n held some p i.
          record {
            from = left _ _ _ (not_zero _ p.answer some) p.holds_from i;
            to = left _ _ _ (not_zero _ p.answer some) p.holds_to i;
            before = left _ _ _ (not_zero _ p.answer some) p.holds_before i;
            whole = left _ _ _ (not_zero _ p.answer some) p.holds_whole i;
          };
      write = λ r gln brp_gln lent. wrote_nothing _ lent _;
      write_plain = λ kind numbers gln brp_gln lent. wrote_nothing _ lent _;
      month_settle =
          λ setting file lent r held refuses p i.
          record {
            distributed = left _ _ _ refuses p.distributed i;
            periodised = left _ _ _ refuses p.periodised i;
            losses = left _ _ _ refuses p.losses i;
            differences = left _ _ _ refuses p.differences i;
            amounts = left _ _ _ refuses p.amounts i;
          };
      month_run_hours =
          λ setting file start hours lent r held refuses p i.
          record {
            distributed = left _ _ _ refuses p.distributed i;
            periodised = left _ _ _ refuses p.periodised i;
            differences = left _ _ _ refuses p.differences i;
            losses = left _ _ _ refuses p.losses i;
          };
      statement = λ setting per file lent r held refuses p. left _ _ _ refuses p.contents;
      hours_report_holds =
          λ setting file lent r held refuses p i.
          record {
            first = left _ _ _ refuses p.first_hours_holds i;
            rest = left _ _ _ refuses p.other_hours i;
            parties = left _ _ _ refuses p.all_parties i;
          };
    }
