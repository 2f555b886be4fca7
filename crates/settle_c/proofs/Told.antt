-- What an export promises follows from its service's promise: the answer's number is that of its verdict, and what was lent is left as that verdict says.
use mathlib.Core.List.{List}
use mathlib.Core.Path.{◌≡◌, ◌∙◌, ap}
use Prim.Native.Nat.{ℕ}
use Rattle.answer.specs.Promised.{Answered}
use Rattle.std.specs.Prelude.{Result, ⊤}
use Rattle.answer.specs.declared.Refused.{Refused}
use Rattle.answer_code.specs.Coded as Code
use Rattle.answer_code.specs.Coded.{coded}
use Rattle.plan_service.specs.Promised as Plan
use Rattle.plan_service.specs.Promised.{whole_of_each}
use Rattle.rules.specs.Plan.{LongReading, month_count, part_from, part_to, planned_before}
use Rattle.rules.specs.Refusals.{Verdict, afterwards}
use Rattle.rules.specs.Words.{figures}
use Rattle.settle_c.specs.Promised.{Numbered, PlanPromised}

-- the number and the lent list of a service whose answer is `v`, where the checks say `w`
pub coded_by : {v w : Verdict} {n : ℕ} → n ≡ coded v → v ≡ w → n ≡ coded w
coded_by by same = by ∙ ap coded same

pub left_by : {A : Type 0} {v w : Verdict} {left : List A} (new old : List A) → left ≡ afterwards v new old → v ≡ w → left ≡ afterwards w new old
left_by new old by same = by ∙ ap (λ (u : Verdict). afterwards u new old) same

-- an export with one lent list
pub numbered : {A : Type 0} {v : Verdict} {new old held : List A} {a : Result ⊤ Refused} {n : ℕ} → Answered v new old a held → Code.Promised a n → Numbered v new old n held
numbered {new = new} {old = old} promised by =
    record { answer = coded_by by promised.answer; contents = left_by new old promised.contents promised.answer }

-- the export with four
pub plan_numbered :
    {r : LongReading} {from to before whole from' to' before' whole' : List ℕ} {a : Result ⊤ Refused} {n : ℕ} → Plan.Promised r from to before whole a from' to' before' whole'
    → Code.Promised a n
    → PlanPromised r from to before whole n from' to' before' whole'
plan_numbered {r} {from} {to} {before} {whole} promised by =
    record {
      answer = coded_by by promised.answer;
      holds_from = left_by (figures (month_count r) (part_from r)) from promised.holds_from promised.answer;
      holds_to = left_by (figures (month_count r) (part_to r)) to promised.holds_to promised.answer;
      holds_before = left_by (figures (month_count r) (planned_before r)) before promised.holds_before promised.answer;
      holds_whole = left_by (figures (month_count r) (whole_of_each r)) whole promised.holds_whole promised.answer;
    }
