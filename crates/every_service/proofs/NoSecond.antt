-- NO SECOND RESULT FITS, for every public service: by its crate's own law, or because the promise says what the result equals.
use mathlib.Core.List.{List}
use mathlib.Core.Path.{◌≡◌, sym, ◌∙◌, ap}
use Rattle.std.specs.Prelude.{⊤}
use Rattle.answer.proofs.Said.{said_once}
use Rattle.answer.specs.Promised.{Answered}
use Rattle.every_service.specs.NoSecond.{OneFits, OneFitsWith, Services, ServicesForC, Records, WholeFiles, Answers, NoSecondResult}
use Rattle.report_text.proofs.Unique.{report_unique}
use Rattle.month_demands.proofs.Unique.{settle_unique}
use Rattle.file_sections.proofs.Unique.{read_unique}
use Rattle.month_run.proofs.MonthSums.{hours_unique}
use Rattle.plan.proofs.Given.{plan_once}
use Rattle.reconcile_service.proofs.Unique.{reconciliation_once}
use Rattle.record.specs.Record.{glns, glns_in}
use Rattle.record_rule.proofs.Unique.{fault_once, read_once}
use Rattle.record_write.proofs.Unique.{write_once}
use Rattle.residual.proofs.Unique.{judge_once}
use Rattle.rules.specs.Refusals.{Verdict, afterwards}
use Rattle.settle_c.specs.Promised.{Numbered}
use Rattle.statement_text.proofs.Unique.{statement_unique}

-- a promise that the result equals something
one_value : {A : Type 0} (value : A) → OneFits (λ (r : A). r ≡ value)
unfolding OneFits
one_value value r s p q = p ∙ sym q

-- what is left in a lent list under one verdict
one_left :
    {A : Type 0} {v w : Verdict} {held held' : List A} (figures lent : List A)
    → v ≡ w → held ≡ afterwards v figures lent → held' ≡ afterwards w figures lent → held ≡ held'
one_left figures lent same p q = p ∙ ap (λ (v : Verdict). afterwards v figures lent) same ∙ sym q

-- an answer by a verdict, and a lent list
one_answered : {A : Type 0} (verdict : Verdict) (figures lent : List A) → OneFitsWith (Answered {B = ⊤} verdict figures lent)
unfolding OneFitsWith
one_answered verdict figures lent r s held held' p q =
    let same = p.answer ∙ sym q.answer in
    (said_once r s same, one_left _ _ same p.contents q.contents)

services : Services
unfolding OneFits OneFitsWith
services =
    record {
      residual = λ statuses nets productions hourlies flexes lent. one_answered _ _ lent;
      judge = judge_once;
      applied = λ fixed refixed has. one_value _;
      curve = λ residuals w lent. one_answered _ _ lent;
      distribution = λ shares residuals lent. one_answered _ _ lent;
      periodisation = λ e weights lent. one_answered _ _ lent;
      reconciliation =
          λ residual distributed periodised carrier price lent r s held held' p q.
          let e = reconciliation_once p q in
          (e.0, λ i. record { differences = e.1.0 i; amounts = e.1.1 i });
      loss_of_holds = λ party carrier loss. one_value _;
      amounts = λ differences parties prices lent. one_answered _ _ lent;
      invoice = λ amounts lent. one_answered _ _ lent;
      plan = plan_once;
      plan_lent =
          λ reading lent a b held held' p q.
          let same = p.answer ∙ sym q.answer in (
            said_once a b same,
            λ i.
                record {
                  from = one_left _ _ same p.holds_from q.holds_from i;
                  to = one_left _ _ same p.holds_to q.holds_to i;
                  before = one_left _ _ same p.holds_before q.holds_before i;
                  whole = one_left _ _ same p.holds_whole q.holds_whole i;
                },
          );
    }

one_numbered : {A : Type 0} (verdict : Verdict) (figures lent : List A) → OneFitsWith (Numbered verdict figures lent)
unfolding OneFitsWith
one_numbered verdict figures lent r s held held' p q = (p.answer ∙ sym q.answer, p.contents ∙ sym q.contents)

services_for_C : ServicesForC
unfolding OneFits OneFitsWith
services_for_C =
    record {
      residual = λ statuses nets productions hourlies flexes lent. one_numbered _ _ lent;
      curve = λ residuals w lent. one_numbered _ _ lent;
      distribution = λ shares residuals lent. one_numbered _ _ lent;
      periodisation = λ e weights lent. one_numbered _ _ lent;
      reconciliation =
          λ residual distributed periodised carrier price lent r s held held' p q. (
            p.answer ∙ sym q.answer,
            λ i.
                record {
                  differences = (p.holds_differences ∙ sym q.holds_differences) i;
                  amounts = (p.holds_amounts ∙ sym q.holds_amounts) i;
                  loss = (p.holds_loss ∙ sym q.holds_loss) i;
                },
          );
      amounts = λ differences parties prices lent. one_numbered _ _ lent;
      invoice = λ amounts lent. one_numbered _ _ lent;
      plan =
          λ reading lent n m held held' p q. (
            p.answer ∙ sym q.answer,
            λ i.
                record {
                  from = (p.holds_from ∙ sym q.holds_from) i;
                  to = (p.holds_to ∙ sym q.holds_to) i;
                  before = (p.holds_before ∙ sym q.holds_before) i;
                  whole = (p.holds_whole ∙ sym q.holds_whole) i;
                },
          );
    }

records : Records
unfolding OneFits OneFitsWith
records =
    record {
      gln_check = λ part. one_value _;
      gln_part_at = λ file at. one_value _;
      body_length_holds = λ kind. one_value _;
      fault = λ r gln brp_gln hours parties place a b p q. fault_once hours parties place (glns gln brp_gln) r a b p q;
      fault_of_part = λ r part hours parties place a b p q. fault_once hours parties place (glns_in part) r a b p q;
      read_alone_holds = λ part r s p q. read_once _ r s p q;
      write = λ r gln brp_gln lent v w held held' p q. (write_once v w p.0 q.0, p.1 ∙ sym q.1);
      write_plain = λ kind numbers gln brp_gln lent v w held held' p q. (write_once v w p.0 q.0, p.1 ∙ sym q.1);
    }

whole_files : WholeFiles
unfolding OneFits OneFitsWith
whole_files =
    record {
      month_file_read = read_unique;
      month_settle = λ setting file lent r s held held' p q. settle_unique lent held held' p q;
      month_run_hours =
          λ setting file start hours lent r s held held' p q.
          let e = hours_unique setting file start hours p q in
          (e.0, λ i. record { distributed = e.1 i; periodised = e.2 i; differences = e.3 i; losses = e.4 i });
      statement = λ setting per file lent r s held held' p q. statement_unique p q;
      hours_report_holds =
          λ setting file lent r s held held' p q.
          let e = report_unique p q in
          (e.0, λ i. record { first = e.1.0 i; rest = e.1.1.0 i; parties = e.1.1.1 i });
    }

answers : Answers
unfolding OneFits
answers =
    record {
      number = λ r. one_value _;
      code = λ a. one_value _;
      each_at_most = λ values most otherwise a b p q. said_once a b (p ∙ sym q);
      within = λ figure lowest greatest. one_value _;
      each_within = λ figures lowest greatest otherwise a b p q. said_once a b (p ∙ sym q);
      refixed_or_provisional = λ setting refixed a b p q. said_once a b (p ∙ sym q);
    }

pub no_second_result : NoSecondResult
no_second_result =
    record {
      services = services;
      services_for_C = services_for_C;
      records = records;
      whole_files = whole_files;
      answers = answers;
    }
