-- The call on a run of hours: what its answer is in each case, and what the lent outputs hold.
use mathlib.Core.Bool.{true}
use mathlib.Core.List.{List}
use mathlib.Core.Path.{◌≡◌, refl, sym, ◌∙◌, ap, ap₂, subst}
use Prim.Native.Nat.{ℕ, ◌*◌}
use native.Mathlib.Omega.{arith}
use lib.IntN.{ℤ}
use lib.ListN.{length}
use Rattle.std.specs.Prelude.{Result, Ok, Err, ⊤}
use Rattle.answer.specs.Said.{said, verdict_of}
use Rattle.answer.specs.declared.Refused.{Refused}
use Rattle.file_sections.specs.Walk.{Accepted}
use Rattle.file_sections.specs.declared.Sections.{Sections}
use Rattle.file_sections.proofs.AcceptedFile.{hours_are, parties_are}
use Rattle.month_walk.specs.Hours.{all_limited}
use Rattle.month_run.specs.Run.{in_month, lent_right, asked_verdict, run_verdict, Promised, HoursAnswered}
use Rattle.month_run.specs.Running.{RunLent, RunIs}
use Rattle.month_run.proofs.Verdicts.{run_inside, lengths}
use Rattle.setting.specs.Asked.{asked}
use Rattle.setting.specs.declared.Setting.{Setting}
use Rattle.rules.specs.Month.{month_of, file_verdict}
use Rattle.rules.specs.MonthFile.{H, P}
use Rattle.rules.specs.Refusals.{out_of_range, wrong_length, Verdict, accepted, unless, and_then, afterwards}
use Rattle.rules.specs.Setting.{optional}
use Rattle.rules.proofs.Refusals.{both_accept, unless_exactly}

module _ (setting : Setting) (file : List ℕ) (start hours : ℕ) (d : List ℤ) (p : List ℕ) (x l : List ℤ) where
  abbrev verdict_asked : Verdict
  verdict_asked = asked_verdict (H (month_of file)) (P (month_of file)) start hours (length d) (length p) (length x) (length l)

  -- a refused call leaves every lent output as it was
  refused_call :
      {r : Result ⊤ Refused} {v : Refused}
      → r ≡ Err v
      → said r ≡ run_verdict setting file start hours (length d) (length p) (length x) (length l)
      → Promised setting file start hours r d p x l d p x l
  unfolding afterwards
  refused_call e is =
      record { answer = is; distributed = rw e refl; periodised = rw e refl; differences = rw e refl; losses = rw e refl }

  -- where the file itself is refused, nothing more is asked
  pub refused_file :
      {r : Result ⊤ Refused} {v : Refused}
      → r ≡ Err v
      → file_verdict optional (asked setting) file ≡ verdict_of v
      → Promised setting file start hours r d p x l d p x l
  unfolding run_verdict and_then
  refused_file e is =
      refused_call e (ap said e ∙ sym (ap (λ (u : Verdict). and_then u verdict_asked) is))

-- 14: what is made before the hours refuses nothing, and an hour does
pub refused_hour :
    (file : List ℕ) (start hours : ℕ) (d : List ℤ) (p : List ℕ) (x l : List ℤ) {limited r : Result ⊤ Refused} {v : Refused}
    → said limited ≡ all_limited (month_of file)
    → limited ≡ Err v
    → r ≡ Err v
    → HoursAnswered file start hours r d p x l d p x l
refused_hour file start hours d p x l is e on =
    record { under = λ setting decides. refused_file setting file start hours d p x l on (decides ∙ sym is ∙ ap said e) }

-- no hour is refused, so what is asked of the month decides
module _ {file : List ℕ} {s : Sections} (ok : Accepted file s) (none : all_limited (month_of file) ≡ accepted) where
  module _ (start hours d p x l : ℕ) (right : Result ⊤ Refused) (judged : said right ≡ asked_verdict s.heading.hours s.heading.parties start hours d p x l) where
    run_verdict_lem : (setting : Setting) → file_verdict optional (asked setting) file ≡ all_limited (month_of file) → said right ≡ run_verdict setting file start hours d p x l
    unfolding run_verdict and_then
    run_verdict_lem setting decides =
        judged
        ∙ sym
        (ap (λ (u : Verdict). and_then u (asked_verdict (H (month_of file)) (P (month_of file)) start hours d p x l)) (decides ∙ none)
        ∙ ap₂ (λ (h n : ℕ). asked_verdict h n start hours d p x l) (sym (hours_are file s ok)) (sym (parties_are file s ok)))

    module _ (passed : right ≡ Ok tt) where
      both : (in_month s.heading.hours start hours ≡ true) × (lent_right (hours * s.heading.parties) hours d p x l ≡ true)
      unfolding asked_verdict
      both =
          let inside : Verdict = unless (in_month s.heading.hours start hours) out_of_range 0 in
          let fit : Verdict = unless (lent_right (hours * s.heading.parties) hours d p x l) wrong_length 0 in
          let two = both_accept inside fit (sym judged ∙ ap said passed) in
          ((unless_exactly _ out_of_range 0).0 two.0, (unless_exactly _ wrong_length 0).0 two.1)

      sizes : (d ≡ hours * s.heading.parties) × (p ≡ hours * s.heading.parties) × (x ≡ hours * s.heading.parties) × (l ≡ hours)
      sizes = lengths (hours * s.heading.parties) hours d p x l both.1

      as_many : {k : ℕ} → k ≡ hours * s.heading.parties → k ≡ l * P (month_of file)
      as_many e = e ∙ ap₂ (λ (h n : ℕ). h * n) (sym sizes.3) (parties_are file s ok)

      pub run_lent : RunLent (month_of file) start d p x l
      run_lent =
          record {
            some = omega (arith, (run_inside s.heading.hours start hours both.0).0, sizes.3);
            inside = omega (arith, (run_inside s.heading.hours start hours both.0).1, sizes.3, hours_are file s ok);
            distributed_size = as_many sizes.0;
            periodised_size = as_many sizes.1;
            differences_size = as_many sizes.2;
          }

  module _ (start hours : ℕ) (d : List ℤ) (p : List ℕ) (x l : List ℤ) {right : Result ⊤ Refused}
      (judged : said right ≡ asked_verdict s.heading.hours s.heading.parties start hours (length d) (length p) (length x) (length l)) where
    -- 4 or 16
    pub refused_run : {v : Refused} {r : Result ⊤ Refused} → right ≡ Err v → r ≡ Err v → HoursAnswered file start hours r d p x l d p x l
    refused_run e on =
        record {
          under = λ setting decides.
              refused_call setting file start hours d p x l on (ap said on ∙ sym (ap said e) ∙ run_verdict_lem start hours (length d) (length p) (length x) (length l) right judged setting decides);
        }

    pub written :
        right ≡ Ok tt
        → {d' : List ℤ} {p' : List ℕ} {x' l' : List ℤ}
        → RunIs (month_of file) start (length l) d' p' x' l'
        → HoursAnswered file start hours (Ok tt) d p x l d' p' x' l'
    unfolding afterwards
    written passed {d'} {p'} {x'} {l'} r =
        let as_many : length l ≡ hours = (sizes start hours (length d) (length p) (length x) (length l) right judged passed).3 in
        let run = subst (λ (h : ℕ). RunIs (month_of file) start h d' p' x' l') as_many r in
        record {
          under = λ setting decides.
              record {
                answer = sym (ap said passed) ∙ run_verdict_lem start hours (length d) (length p) (length x) (length l) right judged setting decides;
                distributed = run.distributed;
                periodised = run.periodised;
                differences = run.differences;
                losses = run.losses;
              };
        }
