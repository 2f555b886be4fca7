-- One hour of a month passed: its sums are the next ones, and its distances are the smallest or the largest so far where they are.
use mathlib.Core.List.{List}
use mathlib.Core.Path.{◌≡◌, refl, sym, ◌∙◌, ap, ap₂, subst}
use Prim.Native.Nat.{ℕ, zero, suc, ◌+◌, ◌-◌, ◌*◌, ◌<◌}
use native.Mathlib.Numerals.{add-one}
use native.Mathlib.Omega.{arith}
use borrow.Author.Tests.{ne_eqb}
use lib.Dec.{eqb, lit<}
use lib.IntN.{ℤ, pos, ◌-ℤ◌, ◌*ℤ◌}
use lib.ListN.{length, get_or}
use Rattle.apportion.specs.Filled.{Filled}
use Rattle.distribute.specs.declared.Carries.{Carries}
use Rattle.apportion.proofs.Arrays.{filled_as}
use Rattle.distribute.proofs.Running.{running_same}
use Rattle.report_distances.specs.Extremes.{distance_in, smallest_with, largest_with, With}
use Rattle.report_distances.specs.declared.Distances.{Distances}
use Rattle.hour_settled.specs.Column.{column, Column, EachInHour, addable}
use Rattle.hour_settled.specs.Sums.{Summable}
use Rattle.hour_settled.proofs.Totals.{summable, sum_is}
use Rattle.report_figures.specs.Passing.{HourAsked, HourPassed, Measured, PassedTo}
use Rattle.file_sections.specs.declared.Sections.{Sections}
use Rattle.month_walk.specs.Hours.{HourKnown, Carried}
use Rattle.month_walk.specs.Walking.{MonthKnown, HourOn}
use Rattle.month_walk.specs.declared.Walk.{Walk}
use Rattle.month_walk.proofs.Bounds.{few_parties, distributed_fits_holds, own_at_most}
use Rattle.month_walk.proofs.Walking.{hour_known, hour_on}
use Rattle.rules.specs.Limits.{greatest_distributed}
use Rattle.rules.specs.Demands.{exact_share}
use Rattle.rules.specs.Flows.{W}
use Rattle.rules.specs.HoursReport.{all_distributed, distance_after, distance_at, smaller, larger, smallest, largest, smallest_distance, largest_distance}
use Rattle.rules.specs.Month.{month_of, share_of, month_w, applied_wh, distributed, all_periodised}
use Rattle.rules.specs.MonthFile.{MonthFile, H, P}
use Rattle.rules.specs.Services.{at_ℤ}
use Rattle.rules.specs.Words.{sum, sum_ℤ, at}
use Rattle.rules.proofs.HoursReport.{by_carries, distance_is}
use Rattle.rules.proofs.Loops.{Filling, fill_next}
use Rattle.rules.proofs.Month.{Judged, some_share}
use Rattle.rules.proofs.Sums.{sum_cong}

-- The carries of the first hours tell the month's distance after them.
module _ (m : MonthFile) (j : Judged m) {hours : ℕ} {c : Carries} (a : Carried m hours c) where
  same_share : (i : ℕ) → i < P m → at c.share i ≡ share_of m i
  unfolding at
  same_share i b = a.share.below i b

  pub w_is : c.w ≡ month_w m
  unfolding month_w W
  w_is = a.good.w_is ∙ ap (λ (n : ℕ). W n (at c.share)) a.parties ∙ sum_cong (P m) same_share

  distance_told : (i : ℕ) → i < P m → distance_in c i ≡ distance_after m i hours
  unfolding distance_in exact_share month_w
  distance_told i b =
      rw (a.parties, a.residuals, w_is)
      (ap₂ (λ (y z : ℕ). pos y *ℤ pos (month_w m) -ℤ pos (z * sum hours (applied_wh m)))
      (running_same (P m) (at c.share) (share_of m) same_share (sum hours (applied_wh m)) i b)
      (same_share i b)
      ∙ by_carries (P m) (share_of m) (some_share m j) (sum hours (applied_wh m)) i
      ∙ sym (distance_is m (some_share m j) i hours))

-- The smallest with one hour more, and the largest.
module _ (m : MonthFile) where
  smallest_with_lem :
      (t : ℕ) (kept : List ℤ) (here : ℕ → ℤ)
      → ((last : ℕ) → suc last ≡ t → Filled (pos 0) (smallest_distance m last) (P m) kept)
      → (i : ℕ)
      → i < P m
      → here i ≡ distance_at m i t
      → smallest_with (eqb t 0) kept here i ≡ smallest_distance m t i
  unfolding smallest_with smallest_distance smallest at_ℤ
  smallest_with_lem zero kept here before i b e = e
  smallest_with_lem (suc t) kept here before i b e = rw (ne_eqb (suc t) 0 (λ z. omega arith)) (ap₂ smaller ((before t refl).below i b) e)

  largest_with_lem :
      (t : ℕ) (kept : List ℤ) (here : ℕ → ℤ)
      → ((last : ℕ) → suc last ≡ t → Filled (pos 0) (largest_distance m last) (P m) kept)
      → (i : ℕ)
      → i < P m
      → here i ≡ distance_at m i t
      → largest_with (eqb t 0) kept here i ≡ largest_distance m t i
  unfolding largest_with largest_distance largest at_ℤ
  largest_with_lem zero kept here before i b e = e
  largest_with_lem (suc t) kept here before i b e = rw (ne_eqb (suc t) 0 (λ z. omega arith)) (ap₂ larger ((before t refl).below i b) e)

  module _ (j : Judged m) {t : ℕ} {x : Distances} (before : Measured m t x) {c : Carries} (a : Carried m (t + 1) c) {r : Distances} (more : With x c (eqb t 0) r) where
    here_is : (i : ℕ) → i < P m → distance_in c i ≡ distance_at m i t
    unfolding distance_at
    here_is i b = distance_told m j (subst (λ (u : ℕ). Carried m u c) (add-one t) a) i b

    least : Filled (pos 0) (smallest_distance m t) (P m) r.smallest
    least =
        filled_as
        (subst (λ (n : ℕ). Filled (pos 0) (smallest_with (eqb t 0) x.smallest (distance_in c)) n r.smallest) a.parties more.smallest)
        (λ i b. smallest_with_lem t x.smallest (distance_in c) before.smallest i b (here_is i b))

    most : Filled (pos 0) (largest_distance m t) (P m) r.largest
    most =
        filled_as
        (subst (λ (n : ℕ). Filled (pos 0) (largest_with (eqb t 0) x.largest (distance_in c)) n r.largest) a.parties more.largest)
        (λ i b. largest_with_lem t x.largest (distance_in c) before.largest i b (here_is i b))

    pub measured_next : Measured m (t + 1) r
    measured_next =
        record {
          smallest =
              λ last e.
              let same : t ≡ last = omega (arith, e) in subst (λ (u : ℕ). Filled (pos 0) (smallest_distance m u) (P m) r.smallest) same least;
          largest =
              λ last e. let same : t ≡ last = omega (arith, e) in subst (λ (u : ℕ). Filled (pos 0) (largest_distance m u) (P m) r.largest) same most;
        }

-- ONE HOUR OF THE MONTH: what a walk that has come past it tells
module _ {file : List ℕ} {s : Sections} {applied curveNumbers beginnings : List ℕ} (known : MonthKnown file s applied curveNumbers beginnings)
    {t : ℕ} (b : t < H (month_of file)) {w : Walk} {window : List ℕ} (on : HourOn (month_of file) t w window)
    {x : Distances} {d : List ℤ} {p : List ℕ} (g : PassedTo (month_of file) t x d p) where
  abbrev m : MonthFile
  m = month_of file

  abbrev carried : Carried m w.t w.carries
  carried = on.walked.carried

  abbrev judged : Judged m
  judged = known.windows.judged

  abbrev h : HourKnown file s (get_or applied t 0) window w.held.hours (t - w.held.start) t
  h = hour_known (hour_on known b on)

  figures_summable : Summable w.carries.figures w.carries.parties
  figures_summable =
      rw carried.parties
      (summable (distributed m t) on.distributed (few_parties m judged) greatest_distributed (lit< tt) (λ i l. distributed_fits_holds m judged t i h.hour l))

  each_light : EachInHour addable window w.held.hours (t - w.held.start) (P m)
  unfolding EachInHour
  each_light i l = omega (arith, h.periodised_is i l, own_at_most m judged t i l, h.in_limit)

  pub hour_asked : HourAsked w t window (length d) (length p)
  hour_asked =
      let column_there : Column window w.held.hours (t - w.held.start) w.carries.parties = rw carried.parties h.asked in
      let light : EachInHour addable window w.held.hours (t - w.held.start) w.carries.parties = rw carried.parties each_light in
      let there : t < length d = omega (arith, g.distributed.size, h.hour) in
      record {
        good = carried.good;
        begun = on.hour.begun;
        summable = figures_summable;
        column_there = column_there;
        light = light;
        distributed_there = there;
        periodised_there = omega (arith, g.periodised.size, h.hour);
      }

  all_distributed_lem : sum_ℤ w.carries.parties (at_ℤ w.carries.figures) ≡ all_distributed m t
  unfolding all_distributed
  all_distributed_lem =
      ap (λ (n : ℕ). sum_ℤ n (at_ℤ w.carries.figures)) carried.parties ∙ sum_is (distributed m t) on.distributed refl

  all_periodised_lem : sum w.carries.parties (column window w.held.hours (t - w.held.start)) ≡ all_periodised m t
  unfolding all_periodised
  all_periodised_lem =
      ap (λ (n : ℕ). sum n (column window w.held.hours (t - w.held.start))) carried.parties
      ∙ sum_cong (P m) h.periodised_is

  pub one_hour_on : {r : Distances} {d' : List ℤ} {p' : List ℕ} → HourPassed x w t window d p r d' p' → PassedTo m w.t r d' p'
  one_hour_on {r} {d'} {p'} is = subst (λ (u : ℕ). PassedTo m u r d' p') (sym on.one_on) next
    where
      then_carried : Carried m (t + 1) w.carries
      then_carried = subst (λ (u : ℕ). Carried m u w.carries) on.one_on carried

      distributed_then : Filling (all_distributed m) (H m) d' (t + 1)
      distributed_then =
          subst (λ (o : List ℤ). Filling (all_distributed m) (H m) o (t + 1)) (sym is.distributed) (fill_next g.distributed h.hour all_distributed_lem)

      periodised_then : Filling (all_periodised m) (H m) p' (t + 1)
      periodised_then =
          subst (λ (o : List ℕ). Filling (all_periodised m) (H m) o (t + 1)) (sym is.periodised) (fill_next g.periodised h.hour all_periodised_lem)

      next : PassedTo m (t + 1) r d' p'
      next =
          record { measured = measured_next m judged g.measured then_carried is.distances; distributed = distributed_then; periodised = periodised_then }
