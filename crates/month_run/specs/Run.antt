-- The call on a run of hours of a month (02, W6): "one operation gives distributed, periodised, loss and difference per hour". Figures stand hour by hour and
-- within an hour party by party.
use Rattle.std.specs.Prelude.{Bool, ◌&&◌, List, ◌≡◌, ℕ, ◌+◌, ◌*◌, eqb, leb, ℤ, length, Result, ⊤}
use Rattle.answer.specs.Said.{said}
use Rattle.answer.specs.declared.Refused.{Refused}
use Rattle.month_walk.specs.Hours.{all_limited}
use Rattle.month_run.specs.InRun.{distributed_in_run, periodised_in_run, loss_in_run}
use Rattle.setting.specs.Asked.{asked}
use Rattle.setting.specs.declared.Setting.{Setting}
use Rattle.rules.specs.Month.{month_of, file_verdict}
use Rattle.rules.specs.MonthFile.{H, P}
use Rattle.rules.specs.Refusals.{out_of_range, wrong_length, Verdict, unless, and_then, afterwards}
use Rattle.rules.specs.Run.{difference_in_run}
use Rattle.rules.specs.Setting.{optional}
use Rattle.rules.specs.Words.{figures}

-- a run is of one hour or more, and lies in the month's hours
unfoldable pub in_month : ℕ → ℕ → ℕ → Bool
in_month all start hours = leb 1 hours && leb (start + hours) all

-- every lent output has a place for each figure
unfoldable pub lent_right : ℕ → ℕ → ℕ → ℕ → ℕ → ℕ → Bool
lent_right places hours distributed periodised differences losses =
    ((eqb distributed places && eqb periodised places) && eqb differences places) && eqb losses hours

-- 4 for a run that does not lie in the month, last 16
unfoldable pub asked_verdict : ℕ → ℕ → ℕ → ℕ → ℕ → ℕ → ℕ → ℕ → Verdict
asked_verdict all parties start hours distributed periodised differences losses =
    and_then (unless (in_month all start hours) out_of_range 0)
    (unless (lent_right (hours * parties) hours distributed periodised differences losses) wrong_length 0)

-- THE VERDICT OF THE CALL: all that refuses the month under the setting given, with or without its prices and over all its hours, and then what is asked of it.
-- W6: "A file for the first alone may have no 05 records"
unfoldable pub run_verdict : Setting → List ℕ → ℕ → ℕ → ℕ → ℕ → ℕ → ℕ → Verdict
run_verdict setting file start hours distributed periodised differences losses =
    and_then (file_verdict optional (asked setting) file)
    (asked_verdict (H (month_of file)) (P (month_of file)) start hours distributed periodised differences losses)

-- THE PROMISE OF THE CALL: its answer, and what each lent output holds afterwards
pub record Promised (setting : Setting) (file : List ℕ) (start hours : ℕ) (r : Result ⊤ Refused) (d₀ : List ℤ) (p₀ : List ℕ) (x₀ l₀ d : List ℤ) (p : List ℕ) (x l : List ℤ) : Type 0 where
  pub answer : said r ≡ run_verdict setting file start hours (length d₀) (length p₀) (length x₀) (length l₀)
  pub distributed : d ≡ afterwards (said r) (figures (hours * P (month_of file)) (distributed_in_run (month_of file) start)) d₀
  pub periodised : p ≡ afterwards (said r) (figures (hours * P (month_of file)) (periodised_in_run (month_of file) start)) p₀
  pub differences : x ≡ afterwards (said r) (figures (hours * P (month_of file)) (difference_in_run (month_of file) start)) x₀
  pub losses : l ≡ afterwards (said r) (figures hours (loss_in_run (month_of file) start)) l₀

-- the same of a month that nothing refuses before its hours, whatever the setting: 14 decides, and then what is asked
pub record HoursAnswered (file : List ℕ) (start hours : ℕ) (r : Result ⊤ Refused) (d₀ : List ℤ) (p₀ : List ℕ) (x₀ l₀ d : List ℤ) (p : List ℕ) (x l : List ℤ) : Type 0 where
  pub under : (setting : Setting) → file_verdict optional (asked setting) file ≡ all_limited (month_of file) → Promised setting file start hours r d₀ p₀ x₀ l₀ d p x l
