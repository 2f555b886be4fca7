-- The demands (00) of the call on a whole file, proved from its promise alone: so they hold of whatever answer and contents fit the promise.
use mathlib.Core.Bool.{Bool, true, false}
use mathlib.Core.List.{List}
use mathlib.Core.Logic.{◌↔◌, ⊎_elim}
use mathlib.Core.Path.{◌≡◌, refl, sym, ◌∙◌, ap, ap₂}
use Prim.Native.Nat.{ℕ, ◌≤◌, ◌<◌}
use native.Mathlib.Nat.{zero-add}
use native.Mathlib.Omega.{arith}
use lib.IntN.{ℤ, pos}
use lib.ListN.{length}
use Rattle.std.specs.Prelude.{Result, Ok, Err}
use Rattle.answer.specs.declared.Refused.{Refused}
use Rattle.month_demands.specs.Demands.{Outputs, Kept, places_right, FileOf, NoRefusalApplies, RefusalApplies, of_reading, of_the_month, of_the_lent, MonthMeets}
use Rattle.month_service.specs.Told.{summary_of, verdict, told, settle_verdict}
use Rattle.month_service.specs.declared.Summary.{Summary}
use Rattle.file_sections.proofs.AcceptedFile.{month_of_lem}
use Rattle.setting.specs.Asked.{asked}
use Rattle.setting.specs.declared.Setting.{Setting}
use Rattle.rules.specs.Accepted.{NoneRefuses}
use Rattle.rules.specs.Demands.{sum_over, sum_since_first}
use Rattle.rules.specs.Distributed.{distributed_figure}
use Rattle.rules.specs.Month.{month_read, month_of, share_of, applied_wh, distributed, periodised, all_periodised, loss, month_distributed, month_periodised, month_loss, month_difference, month_amount, month_checks, month_verdict, verdict_on, file_verdict, call_verdict}
use Rattle.rules.specs.MonthFile.{MonthFile, H, P, read_month}
use Rattle.rules.specs.Reconciliation.{loss_of}
use Rattle.rules.specs.Refusals.{Refusal, wrong_length, Verdict, accepted, refused, Answer, given, refusal, unless, and_then, first, answer, afterwards, verdict_told}
use Rattle.rules.specs.Services.{at_ℤ}
use Rattle.rules.specs.Setting.{final, needed, optional}
use Rattle.rules.specs.Setting as R
use Rattle.rules.specs.Statement.{columns_line, total_line}
use Rattle.rules.specs.WellFormed.{Bytes}
use Rattle.rules.specs.Words.{sum, sum_ℤ, at, ascii, figures}
use Rattle.rules.proofs.BrpDemands.{brp_demands}
use Rattle.rules.proofs.Integers.{sum_ℤ_cong, sum_ℤ_swap}
use Rattle.rules.proofs.Invoice.{column_as}
use Rattle.rules.proofs.Readings.{accepted_month_of_readings}
use Rattle.rules.proofs.Loops.{figures_length, figures_at}
use Rattle.rules.proofs.Month.{Judged, accepted_is_judged, heading_right, W_in_range, fixed_hours_have, every_hour_has_its_figure, demand_3_of_the_month}
use Rattle.rules.proofs.Month.{hour_differences_add_up, all_distributed_lem, all_differences, all_amounts, month_invoice_column}
use Rattle.rules.proofs.ReadingRefused.{reading_refused_exactly}
use Rattle.rules.proofs.Reconciliation.{one_carries_the_loss}
use Rattle.rules.proofs.Refusals.{refused_not_accepted, accepted_exactly, refused_exactly, both_accept, unless_exactly, verdict_back}
use Rattle.rules.proofs.Setting.{read_alike, final_is_refixed}
use Rattle.rules.proofs.Sums.{sum_cong, sum_swap}
use Rattle.rules.proofs.WellFormed.{read_exactly}
use Rattle.rules.proofs.Whole.{Whole, what_is_read_is_whole, what_is_read_is_priced}

-- The verdict can be read back from what an answer tells.
as_told : (r : Result Summary Refused) → verdict_told (told r) ≡ verdict r
as_told (Ok s) = refl
as_told (Err r) = refl

-- THE EXACT CONDITIONS of the call's verdict: of what the file is read as, and of the lent outputs.
module _ (setting : Setting) (file : List ℕ) (lent : Outputs) where
  abbrev right : MonthFile → Bool
  right m = places_right (P m) lent

  abbrev last : MonthFile → Verdict
  last m = unless (right m) wrong_length 0

  abbrev verdict_for : Answer MonthFile → Verdict
  verdict_for read = and_then (verdict_on (asked setting) read) (last (month_read read))

  the_call :
      settle_verdict setting file (length lent.distributed) (length lent.periodised) (length lent.losses) (length lent.differences) (length lent.amounts)
      ≡ verdict_for (read_month needed file)
  unfolding settle_verdict call_verdict file_verdict month_of verdict_on and_then
  the_call = go (read_month needed file) refl
    where
      -- a file that is read is read as its month; of one that is not, no length is asked
      go : (read : Answer MonthFile) → read_month needed file ≡ read → and_then (verdict_on (asked setting) read) (last (month_read (read_month optional file))) ≡ verdict_for read
      go (given m) is = ap (λ (a : Answer MonthFile). and_then (month_verdict (asked setting) m) (last (month_read a))) (read_alike needed file is)
      go (refusal r place) is = refl

  -- what an accepted call says of the file, whatever its members
  record ReadAndRight : Type 0 where
    month : MonthFile
    read : read_month needed file ≡ given month
    no_check_refuses : NoneRefuses (month_checks (asked setting) month)
    lent_right_holds : right month ≡ true

  read_and_right : (read : Answer MonthFile) → read_month needed file ≡ read → verdict_for read ≡ accepted → ReadAndRight
  unfolding verdict_on month_verdict month_read and_then
  read_and_right (given m) is e =
      let both = both_accept (first (month_checks (asked setting) m)) (last m) e in
      record { month = m; read = is; no_check_refuses = (accepted_exactly (month_checks (asked setting) m)).0 both.0; lent_right_holds = (unless_exactly _ _ _).0 both.1 }
  read_and_right (refusal r place) is e = absurd (refused_not_accepted e)

  -- A file of bytes is read as a month exactly when it is the file of that month, well formed.
  module _ (small : Bytes file) where
    its_file : (m : MonthFile) → read_month needed file ≡ given m → FileOf file m
    its_file m is = let h = (read_exactly needed file m small).0 is in record { well_formed = h.0; its_bytes = h.1 }

    is_read : {m : MonthFile} → FileOf file m → read_month needed file ≡ given m
    is_read {m} h = (read_exactly needed file m small).1 (h.well_formed, h.its_bytes)

    -- accepted, then no refusal applies
    none_applies : ReadAndRight → NoRefusalApplies setting file lent
    none_applies h = record { month = h.month; is_its_file = its_file h.month h.read; no_check_refuses = h.no_check_refuses; lent_right_holds = h.lent_right_holds }

    -- and the other way
    then_accepts : NoRefusalApplies setting file lent → verdict_for (read_month needed file) ≡ accepted
    unfolding verdict_on month_verdict month_read and_then
    then_accepts h =
        ap verdict_for (is_read h.is_its_file)
        ∙ ap₂ (λ (u v : Verdict). and_then u v) ((accepted_exactly (month_checks (asked setting) h.month)).1 h.no_check_refuses)
        ((unless_exactly (right h.month) wrong_length 0).1 h.lent_right_holds)

    module _ (r : Refusal) (place : ℕ) where
      -- refused, then that refusal applies: once the file is read by the month's checks, and then by the lengths
      by_the_lent :
          (m : MonthFile)
          → FileOf file m
          → NoneRefuses (month_checks (asked setting) m) → (b : Bool)
          → right m ≡ b
          → unless b wrong_length 0 ≡ refused r place
          → RefusalApplies setting file lent r place
      unfolding unless
      by_the_lent m is none true w e = absurd (refused_not_accepted (sym e))
      by_the_lent m is none false w e =
          let same : r ≡ wrong_length = cc in
          let at-the-start : place ≡ 0 = cc in
          of_the_lent (record { month = m; is_its_file = is; no_check_refuses = none; lent_wrong = w; is_16 = same; at_0 = at-the-start })

      by_the_month :
          (m : MonthFile)
          → FileOf file m → (v : Verdict)
          → first (month_checks (asked setting) m) ≡ v
          → and_then v (last m) ≡ refused r place
          → RefusalApplies setting file lent r place
      unfolding and_then
      by_the_month m is accepted f e = by_the_lent m is ((accepted_exactly (month_checks (asked setting) m)).0 f) (right m) refl e
      by_the_month m is (refused s q) f e =
          of_the_month (record { month = m; is_its_file = is; first_refuses = (refused_exactly (month_checks (asked setting) m) r place).0 (f ∙ e) })

      it_applies : (read : Answer MonthFile) → read_month needed file ≡ read → verdict_for read ≡ refused r place → RefusalApplies setting file lent r place
      unfolding verdict_on month_verdict month_read and_then
      it_applies (given m) is e = by_the_month m (its_file m is) (first (month_checks (asked setting) m)) refl e
      it_applies (refusal s q) is e =
          let same : ◌≡◌ {A = Answer MonthFile} (refusal s q) (refusal r place) = cc in
          of_reading ((reading_refused_exactly needed file r place small).0 (is ∙ same))

      -- and the other way
      then_refuses : RefusalApplies setting file lent r place → verdict_for (read_month needed file) ≡ refused r place
      unfolding verdict_on month_verdict month_read and_then unless
      then_refuses (of_reading h) = ap verdict_for ((reading_refused_exactly needed file r place small).1 h)
      then_refuses (of_the_month h) =
          ap verdict_for (is_read h.is_its_file)
          ∙ ap (λ (u : Verdict). and_then u (last h.month)) ((refused_exactly (month_checks (asked setting) h.month) r place).1 h.first_refuses)
      then_refuses (of_the_lent h) =
          ap verdict_for (is_read h.is_its_file)
          ∙ ap₂ (λ (u : Verdict) (b : Bool). and_then u (unless b wrong_length 0)) ((accepted_exactly (month_checks (asked setting) h.month)).1 h.no_check_refuses) h.lent_wrong
          ∙ ap₂ refused (sym h.is_16) (sym h.at_0)

-- A list that holds the figures of a column: each figure, and their sum.
signed_at_lem : (n : ℕ) (f : ℕ → ℤ) {held : List ℤ} → held ≡ figures n f → (i : ℕ) → i < n → at_ℤ held i ≡ f i
unfolding at_ℤ
signed_at_lem n f is i b = ap (λ (list : List ℤ). at_ℤ list i) is ∙ figures_at n f i (pos 0) b

unsigned_at : (n : ℕ) (f : ℕ → ℕ) {held : List ℕ} → held ≡ figures n f → (i : ℕ) → i < n → at held i ≡ f i
unfolding at
unsigned_at n f is i b = ap (λ (list : List ℕ). at list i) is ∙ figures_at n f i 0 b

signed_column : (n : ℕ) (f : ℕ → ℤ) {held : List ℤ} → held ≡ figures n f → sum_ℤ n (at_ℤ held) ≡ sum_ℤ n f
signed_column n f is = sum_ℤ_cong n (λ i b. signed_at_lem n f is i b)

unsigned_column : (n : ℕ) (f : ℕ → ℕ) {held : List ℕ} → held ≡ figures n f → sum n (at held) ≡ sum n f
unsigned_column n f is = sum_cong n (λ i b. unsigned_at n f is i b)

as_many : {A : Type 0} (n : ℕ) (f : ℕ → A) {held : List A} → held ≡ figures n f → length held ≡ n
as_many n f is = ap length is ∙ figures_length n f

-- an accepted call leaves the new contents
now_held : {A : Type 0} {v : Verdict} (old : List A) {new held : List A} → v ≡ accepted → held ≡ afterwards v new old → held ≡ new
unfolding afterwards
now_held old {new} e is = is ∙ ap (λ (u : Verdict). afterwards u new old) e

-- The other two columns of a month, and its distributed sums as demand 3 has them.
all_losses : (m : MonthFile) → Judged m → sum_ℤ (P m) (month_loss m) ≡ sum_ℤ (H m) (loss m)
unfolding month_loss P
all_losses m judged =
    sum_ℤ_swap (P m) (H m) (λ t. loss_of m.heading.carrier (loss m t))
    ∙ sum_ℤ_cong (H m) (λ t b. one_carries_the_loss (P m) m.heading.carrier (loss m t) (heading_right m judged).carrier)

all_periodised_lem : (m : MonthFile) → sum (P m) (month_periodised m) ≡ sum (H m) (all_periodised m)
unfolding month_periodised all_periodised
all_periodised_lem m = sum_swap (P m) (H m) (periodised m)

-- THE TOTAL LINE of the statement: both columns of differences and of whole øre show 0
the_total_line :
    (m : MonthFile)
    → Judged m
    → total_line m
    ≡ columns_line (ascii "total") (pos (sum (H m) (applied_wh m))) (sum (H m) (all_periodised m)) (sum_ℤ (H m) (loss m)) (pos 0) (pos 0)
unfolding total_line
the_total_line m judged =
    rw (all_distributed_lem m judged, all_periodised_lem m, all_losses m judged, all_differences m judged, (month_invoice_column m judged).adds_up_holds) refl

since_first : (m : MonthFile) (i : ℕ) → month_distributed m i ≡ sum_since_first (P m) (share_of m) (applied_wh m) (H m) i
unfolding month_distributed distributed sum_since_first sum_over
since_first m i =
    sum_ℤ_cong (H m) (λ t b. ap (λ (k : ℕ). distributed_figure (P m) (share_of m) (applied_wh m) k i) (sym (zero-add t)))

-- THE CALL ON A WHOLE FILE: of any answer r, and any contents of the lent outputs, that meet its promise.
module _ {setting : Setting} {file : List ℕ} {r : Result Summary Refused} (lent held : Outputs) (is : Kept setting file r lent held) where
  its_verdict : verdict r ≡ verdict_for setting file lent (read_month needed file)
  its_verdict =
      sym (as_told r) ∙ ap (λ (a : Answer Summary). verdict_told a) is.answer ∙ verdict_back _ (summary_of (month_of file))
      ∙ the_call setting file lent

  -- "A month is accepted exactly when no refusal there applies." A slice of bytes has members below 256, which is all that is asked.
  pub accepted_exactly_when : Bytes file → (verdict r ≡ accepted) ↔ NoRefusalApplies setting file lent
  accepted_exactly_when small = (
    λ e. none_applies setting file lent small (read_and_right setting file lent (read_month needed file) refl (sym its_verdict ∙ e)),
    λ h. its_verdict ∙ then_accepts setting file lent small h,
  )

  -- "A refusal returns its number and a place": exactly when it is the one that applies
  pub refused_exactly_when : Bytes file → (why : Refusal) (place : ℕ) → (verdict r ≡ refused why place) ↔ RefusalApplies setting file lent why place
  refused_exactly_when small why place = (
    λ e. it_applies setting file lent small why place (read_month needed file) refl (sym its_verdict ∙ e),
    λ h. its_verdict ∙ then_refuses setting file lent small why place h,
  )

  module _ (ok : verdict r ≡ accepted) where
    abbrev m : MonthFile
    m = month_of file

    none : ReadAndRight setting file lent
    none = read_and_right setting file lent (read_month needed file) refl (sym its_verdict ∙ ok)

    its_month : m ≡ none.month
    its_month = month_of_lem needed file none.read

    read_as : read_month needed file ≡ given m
    read_as = none.read ∙ ap given (sym its_month)

    its_checks : month_verdict (asked setting) m ≡ accepted
    unfolding month_verdict
    its_checks = ap (month_verdict (asked setting)) its_month ∙ (accepted_exactly (month_checks (asked setting) none.month)).1 none.no_check_refuses

    whole : Whole m
    whole = what_is_read_is_whole needed file read_as

    judged : Judged m
    judged = accepted_is_judged (asked setting) m whole its_checks

    -- a final run refuses a month without 06 records, and one that has them has one for each hour
    refixed : asked setting ≡ final → length m.refixed ≡ H m
    refixed is-final =
        let some : 1 ≤ length m.refixed = final_is_refixed m (ap (λ (s : R.Setting). month_verdict s m) (sym is-final) ∙ its_checks) in
        ⊎_elim (λ (z : length m.refixed ≡ 0). absurd (omega arith)) (λ (all : length m.refixed ≡ H m). all) whole.none_or_all_refixed

    holds_distributed : held.distributed ≡ figures (P m) (month_distributed m)
    holds_distributed = now_held lent.distributed ok is.distributed

    holds_periodised : held.periodised ≡ figures (P m) (month_periodised m)
    holds_periodised = now_held lent.periodised ok is.periodised

    holds_losses : held.losses ≡ figures (P m) (month_loss m)
    holds_losses = now_held lent.losses ok is.losses

    holds_differences : held.differences ≡ figures (P m) (month_difference m)
    holds_differences = now_held lent.differences ok is.differences

    holds_amounts : held.amounts ≡ figures (P m) (month_amount m)
    holds_amounts = now_held lent.amounts ok is.amounts

    -- DEMAND 3 AND THE SUMS OF EVERY ACCEPTED FILE
    pub the_month_meets : MonthMeets setting file (month_of file) held
    unfolding applied_wh month_distributed month_periodised month_loss month_difference month_amount
    the_month_meets =
        record {
          read = read_as;
          all_priced_holds = what_is_read_is_priced needed file read_as;
          refixed_or_provisional = refixed;
          distributed_size = as_many (P m) (month_distributed m) holds_distributed;
          periodised_size = as_many (P m) (month_periodised m) holds_periodised;
          losses_size = as_many (P m) (month_loss m) holds_losses;
          differences_size = as_many (P m) (month_difference m) holds_differences;
          amounts_size = as_many (P m) (month_amount m) holds_amounts;
          no_hour_missing = λ t b. ((fixed_hours_have m judged t b).not_missing, (every_hour_has_its_figure m judged t b).not_missing);
          shares_accepted = W_in_range m judged;
          applied_within_limits = λ t b. ((every_hour_has_its_figure m judged t b).residual_is, (every_hour_has_its_figure m judged t b).at_most);
          demand_3 = demand_3_of_the_month m judged;
          brps_meet = brp_demands m (W_in_range m judged).0;
          distributed_since_first = λ i b. signed_at_lem (P m) (month_distributed m) holds_distributed i b ∙ since_first m i;
          distributed_sums = signed_at_lem (P m) (month_distributed m) holds_distributed;
          periodised_sums = unsigned_at (P m) (month_periodised m) holds_periodised;
          periodised_of_readings = λ i b. unsigned_at (P m) (month_periodised m) holds_periodised i b ∙ accepted_month_of_readings (asked setting) m whole its_checks i;
          loss_sums = signed_at_lem (P m) (month_loss m) holds_losses;
          difference_sums = signed_at_lem (P m) (month_difference m) holds_differences;
          amount_sums = signed_at_lem (P m) (month_amount m) holds_amounts;
          hour_differences = λ t b. hour_differences_add_up m judged t;
          total_distributed = signed_column (P m) (month_distributed m) holds_distributed ∙ all_distributed_lem m judged;
          total_difference = signed_column (P m) (month_difference m) holds_differences ∙ all_differences m judged;
          total_amount = signed_column (P m) (month_amount m) holds_amounts ∙ all_amounts m judged;
          invoice_column = column_as (P m) (signed_at_lem (P m) (month_amount m) holds_amounts) (λ i b. refl) (month_invoice_column m judged);
          total_periodised = unsigned_column (P m) (month_periodised m) holds_periodised ∙ all_periodised_lem m;
          total_loss = signed_column (P m) (month_loss m) holds_losses ∙ all_losses m judged;
          total_line_holds = the_total_line m judged;
        }
