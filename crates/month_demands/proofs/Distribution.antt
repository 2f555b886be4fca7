-- Demand 3 (00) of every file that has what it asks, and of the figures that the call on a run of hours writes, from that call's promise alone.
use mathlib.Core.List.{List}
use mathlib.Core.Path.{◌≡◌, refl, sym, ◌∙◌, ap}
use Prim.Native.Nat.{ℕ, ◌+◌, ◌*◌, ◌≤◌, ◌<◌}
use native.Mathlib.Nat.{mul-le-mul_right}
use native.Mathlib.Omega.{arith}
use lib.Dec.{le→leb}
use lib.IntN.{ℤ, pos, negsuc, nat_abs}
use lib.ListN.{length, get_or}
use lib.Signed.{◌≤ℤ◌}
use Rattle.std.specs.Prelude.{Result, ⊤}
use Rattle.answer.specs.Said.{said}
use Rattle.answer.specs.declared.Refused.{Refused}
use Rattle.distribute.proofs.Demand.{demand_3_of}
use Rattle.month_demands.specs.Distribution.{DistributionAsked, DistributionMeets, written, written_over, RunMeets}
use Rattle.month_run.specs.InRun.{distributed_in_run}
use Rattle.month_run.specs.Run.{in_month, asked_verdict, run_verdict, Promised}
use Rattle.month_run.proofs.OneHour.{in_run}
use Rattle.month_run.proofs.Verdicts.{run_inside}
use Rattle.setting.specs.Asked.{asked}
use Rattle.setting.specs.declared.Setting.{Setting}
use Rattle.rules.specs.Demands.{sum_over, sum_since_first, exact_share, distance, Demand3}
use Rattle.rules.specs.Distributed.{distributed_figure}
use Rattle.rules.specs.Flows.{W, residual, residual_wh}
use Rattle.rules.specs.Limits.{greatest_residual}
use Rattle.rules.specs.Month.{month_read, month_of, share_of, month_w, applied_flows, applied_wh, distributed, month_verdict, verdict_on, file_verdict}
use Rattle.rules.specs.MonthFile.{MonthFile, H, P, read_month}
use Rattle.rules.specs.Refusals.{out_of_range, Verdict, accepted, Answer as Told, given, refusal, unless, afterwards}
use Rattle.rules.specs.Services.{at_ℤ}
use Rattle.rules.specs.Setting.{optional}
use Rattle.rules.specs.Setting as R
use Rattle.rules.specs.Words.{sum, sum_ℤ, figures}
use Rattle.rules.proofs.Demand3.{demand_3}
use Rattle.rules.proofs.Integers.{sum_ℤ_cong}
use Rattle.rules.proofs.Loops.{figures_length, figures_at}
use Rattle.rules.proofs.Month.{Judged, accepted_is_judged, W_in_range, every_hour_has_its_figure}
use Rattle.rules.proofs.Refusals.{refused_not_accepted, both_accept, unless_exactly}
use Rattle.rules.proofs.Whole.{what_is_read_is_whole}

-- a number that is not negative is its size
its_size : (z : ℤ) → pos 0 ≤ℤ z → z ≡ pos (nat_abs z)
its_size (pos n) h = refl
its_size (negsuc n) h = absurd h.le

-- DEMAND 3 OF EVERY FILE that has what it asks
module _ {file : List ℕ} {m : MonthFile} (has : DistributionAsked file m) where
  some_share : 0 < W (P m) (share_of m)
  unfolding month_w
  some_share = has.shares_accepted.0

  demand : Demand3 (P m) (share_of m) (applied_wh m)
  demand = demand_3 (P m) (share_of m) some_share (applied_wh m)

  in_wh : (t : ℕ) → t < H m → residual (applied_flows m t) ≡ pos (applied_wh m t)
  unfolding applied_wh residual_wh
  in_wh t b = its_size (residual (applied_flows m t)) (has.applied_within_limits t b).0

  adds_up_holds : (t : ℕ) → t < H m → sum_ℤ (P m) (distributed m t) ≡ residual (applied_flows m t)
  unfolding distributed
  adds_up_holds t b = demand.adds_up_holds t ∙ sym (in_wh t b)

  pub the_distribution_meets : DistributionMeets m
  unfolding distributed
  the_distribution_meets =
      record {
        residual_is = in_wh;
        adds_up_holds = adds_up_holds;
        demand_3 = demand_3_of (distributed m) (P m) (H m) (share_of m) (applied_wh m) some_share (λ t i b l. refl);
      }

  -- a run of its hours, in which the month's figures are written
  module _ (start hours : ℕ) (inside : start + hours ≤ H m) (held : List ℤ)
      (same : (j i : ℕ) → j < hours → i < P m → written m held j i ≡ distributed m (start + j) i) where
    run_adds_up : (j : ℕ) → j < hours → sum_ℤ (P m) (written m held j) ≡ residual (applied_flows m (start + j))
    run_adds_up j b = sum_ℤ_cong (P m) (λ i l. same j i b l) ∙ adds_up_holds (start + j) (omega arith)

    over : (j part i : ℕ) → j + part ≤ hours → i < P m → written_over m held j part i ≡ sum_over (P m) (share_of m) (applied_wh m) (start + j) part i
    unfolding written_over sum_over distributed
    over j part i b l =
        sum_ℤ_cong part
        (λ u c.
        same (j + u) i (omega arith) l
        ∙ ap (λ (t : ℕ). distributed_figure (P m) (share_of m) (applied_wh m) t i) (omega arith))

    run_near :
        (j part i : ℕ) → j + part ≤ hours → i < P m
        → distance (month_w m) (written_over m held j part i) (exact_share (share_of m) (sum part (λ u. applied_wh m (start + j + u))) i) < 2 * month_w m
    unfolding month_w
    run_near j part i b l = rw (over j part i b l) (demand.near (start + j) part i)

    since_first : start ≡ 0 → (t i : ℕ) → t ≤ hours → i < P m → written_over m held 0 t i ≡ sum_since_first (P m) (share_of m) (applied_wh m) t i
    unfolding sum_since_first
    since_first z t i b l = over 0 t i (omega arith) l ∙ ap (λ (s : ℕ). sum_over (P m) (share_of m) (applied_wh m) s t i) (omega (arith, z))

    pub the_run_meets : 1 ≤ hours → length held ≡ hours * P m → RunMeets file m start hours held
    unfolding month_w
    the_run_meets some size =
        record {
          asked = has;
          some = some;
          inside = inside;
          size = size;
          adds_up_holds = run_adds_up;
          near = run_near;
          rounded = λ z t i b l. rw (since_first z t i b l) (demand.rounded t i);
          larger = λ z t i k b l l' s. rw (since_first z t k b l', since_first z t i b l) (demand.larger t i k s);
        }

-- a figure within its limit lies between the two ends
in_limits : (n : ℕ) {z : ℤ} → z ≡ pos n → n ≤ greatest_residual → (pos 0 ≤ℤ z) × (z ≤ℤ pos greatest_residual)
in_limits n e b = rw e (record { le = le→leb 0 n (omega arith) }, record { le = le→leb n greatest_residual b })

-- an accepted month has what demand 3 asks
pub judged_is_asked : {file : List ℕ} {m : MonthFile} → read_month optional file ≡ given m → Judged m → DistributionAsked file m
judged_is_asked {file} {m} is judged =
    record {
      read = is;
      shares_accepted = W_in_range m judged;
      applied_within_limits = λ t b. let has = every_hour_has_its_figure m judged t b in in_limits _ has.residual_is has.at_most;
    }

-- of a file that is accepted as a whole: what it is read as
read_accepted : (setting : R.Setting) (a : Told MonthFile) → verdict_on setting a ≡ accepted → (a ≡ given (month_read a)) × (month_verdict setting (month_read a) ≡ accepted)
unfolding verdict_on month_read
read_accepted setting (given m) e = (refl, e)
read_accepted setting (refusal r place) e = absurd (refused_not_accepted e)

-- THE CALL ON A RUN OF HOURS: of any answer r, and any contents of the lent outputs, that meet its promise
module _ {setting : Setting} {file : List ℕ} {start hours : ℕ} {r : Result ⊤ Refused} {d₀ : List ℤ} {p₀ : List ℕ} {x₀ l₀ d : List ℤ} {p : List ℕ} {x l : List ℤ}
    (is : Promised setting file start hours r d₀ p₀ x₀ l₀ d p x l) (ok : said r ≡ accepted) where
  abbrev m : MonthFile
  m = month_of file

  both : (file_verdict optional (asked setting) file ≡ accepted) × (asked_verdict (H m) (P m) start hours (length d₀) (length p₀) (length x₀) (length l₀) ≡ accepted)
  unfolding run_verdict
  both = both_accept (file_verdict optional (asked setting) file) _ (sym is.answer ∙ ok)

  pub month : (read_month optional file ≡ given m) × (month_verdict (asked setting) m ≡ accepted)
  unfolding file_verdict month_of
  month = read_accepted (asked setting) (read_month optional file) both.0

  pub run_in_month : (1 ≤ hours) × (start + hours ≤ H m)
  unfolding asked_verdict
  run_in_month =
      let first = (both_accept (unless (in_month (H m) start hours) out_of_range 0) _ both.1).0 in
      run_inside (H m) start hours ((unless_exactly _ out_of_range 0).0 first)

  holds : d ≡ figures (hours * P m) (distributed_in_run m start)
  unfolding afterwards
  holds = is.distributed ∙ ap (λ (v : Verdict). afterwards v (figures (hours * P m) (distributed_in_run m start)) d₀) ok

  as_written : (j i : ℕ) → j < hours → i < P m → written m d j i ≡ distributed m (start + j) i
  unfolding written at_ℤ distributed_in_run
  as_written j i b c =
      ap (λ (o : List ℤ). get_or o (j * P m + i) (pos 0)) holds
      ∙ figures_at (hours * P m) (distributed_in_run m start) (j * P m + i) (pos 0) (omega (arith, mul-le-mul_right (P m) b))
      ∙ in_run (distributed m) (P m) start j i c

  -- DEMAND 3 OF WHAT A CALLER GETS HOUR BY HOUR
  pub the_hours_meet : RunMeets file (month_of file) start hours d
  the_hours_meet =
      the_run_meets (judged_is_asked month.0 (accepted_is_judged (asked setting) m (what_is_read_is_whole optional file month.0) month.1))
      start hours run_in_month.1 d as_written run_in_month.0 (ap length holds ∙ figures_length (hours * P m) (distributed_in_run m start))
