-- The walk: before the first hour, one step, and what a step leaves known of its hour.
use mathlib.Core.List.{List}
use mathlib.Core.Path.{◌≡◌, refl, sym, ◌∙◌, ap, subst}
use Prim.Native.Nat.{ℕ, ◌+◌, ◌-◌, ◌*◌, ◌≤◌, ◌<◌, zero-le}
use native.Mathlib.Nat.{not-suc-le-zero}
use native.Mathlib.Omega.{arith}
use lib.IntN.{ℤ}
use lib.ListN.{length, get_or}
use Rattle.std.specs.Prelude.{Result, Ok, Err, IsOk}
use Rattle.answer.specs.Said.{said}
use Rattle.answer.specs.declared.Refused.{Refused}
use Rattle.distribute.specs.Good.{Ready, Next}
use Rattle.distribute.specs.declared.Carries.{Carries}
use Rattle.file_sections.specs.declared.Sections.{Sections}
use Rattle.file_sections.proofs.AcceptedFile.{month_whole, hours_are}
use Rattle.hour_settled.specs.Column.{column, Column}
use Rattle.month_walk.specs.declared.Held.{Held}
use Rattle.month_walk.specs.declared.Walk.{Walk}
use Rattle.month_walk.specs.Hours.{HourKnown}
use Rattle.month_walk.specs.Walking.{MonthKnown, Beginning, Holds, Holding, HoldsHour, OpenedIs, Walked, begun, SomeWindow, HourOn, SteppedIs, HourAsked, window_places}
use Rattle.month_walk.proofs.Bounds.{few_hours, few_parties}
use Rattle.month_walk.proofs.Carrying as C
use Rattle.month_prepare.proofs.Hours.{no_figures, given_same}
use Rattle.rules.specs.Limits.{greatest_periodised, most_hours}
use Rattle.rules.specs.Month.{month_of, applied_wh, periodised, all_periodised, periodised_verdict}
use Rattle.rules.specs.MonthFile.{MonthFile, H, P}
use Rattle.rules.specs.Refusals as R
use Rattle.rules.specs.Words.{figures}
use Rattle.rules.proofs.Loops.{figures_length, figures_at}
use Rattle.rules.proofs.Month.{Judged, periodised_at_most}
use Rattle.rules.proofs.Refusals.{in_turn_exactly, refused_not_accepted}
use Rattle.rules.proofs.Whole.{heading_facts}

-- before the first hour: there is no window yet, and its places may hold anything
pub walk_begins : {file : List ℕ} {c : Carries} → Beginning file c → {window : List ℕ} → length window ≡ window_places → Walked (month_of file) (begun c) window
unfolding R.in_turn figures R.first
walk_begins {file} {c} begin {window} size =
    record { carried = C.carried_start (month_of file) begin.started; holds = holds; begun = zero-le; come = zero-le; last = λ b. absurd (omega (arith, b)) }
  where
    holds : Holds (month_of file) (begun c).held window
    holds =
        record { is = record { size = size; inside = zero-le; fits = omega arith; each = λ i k b l. absurd (not-suc-le-zero l) }; passed = refl }

-- up to the last hour of a window none is refused with 14
pub in_limit : {m : MonthFile} {w : Walk} {window : List ℕ} → Walked m w window → (u : ℕ) → u < w.t → all_periodised m u ≤ greatest_periodised
in_limit {m} {w} a u b =
    periodised_at_most m u
    ((in_turn_exactly (w.held.start + w.held.hours) (periodised_verdict m)).0 a.holds.passed u (omega (arith, a.come)))

-- a walk stays in the month, and past its last hour none of them is refused
pub walk_inside : {m : MonthFile} {w : Walk} {window : List ℕ} → Walked m w window → w.t ≤ H m
walk_inside {m} {w} a = omega (arith, a.come, a.holds.is.inside)

pub walk_passed : {m : MonthFile} {w : Walk} {window : List ℕ} → Walked m w window → R.in_turn w.t (periodised_verdict m) ≡ R.accepted
walk_passed {m} {w} a =
    (in_turn_exactly w.t (periodised_verdict m)).1
    (λ u b. (in_turn_exactly (w.held.start + w.held.hours) (periodised_verdict m)).0 a.holds.passed u (omega (arith, a.come)))

-- what the window holds once an hour has been walked
pub walk_window : {m : MonthFile} {w : Walk} {window : List ℕ} → Walked m w window → 1 ≤ w.t → SomeWindow m window
walk_window {m} {w} a b = record { held = w.held; some = omega (arith, a.come, a.last b); is = a.holds.is }

module _ {file : List ℕ} {s : Sections} {applied curveNumbers beginnings : List ℕ} (known : MonthKnown file s applied curveNumbers beginnings) where
  abbrev m : MonthFile
  m = month_of file

  abbrev judged : Judged m
  judged = known.windows.judged

  -- a month has an hour
  pub some_hours : 1 ≤ s.heading.hours
  unfolding H
  some_hours =
      omega (arith, hours_are file s known.windows.accepted, (heading_facts m.heading (month_whole file s known.windows.accepted).head).hours.0)

  -- the residual of an hour
  module _ {t : ℕ} (b : t < H m) where
    pub residual_there : t < length applied
    residual_there = omega (arith, ap length known.applied_is, figures_length (H m) (applied_wh m))

    pub residual_is : get_or applied t 0 ≡ applied_wh m t
    residual_is = ap (λ (l : List ℕ). get_or l t 0) known.applied_is ∙ figures_at (H m) (applied_wh m) t 0 b

    pub few : t < most_hours
    few = omega (arith, few_hours m judged)

  -- A STEP
  module _ {w : Walk} {window : List ℕ} (at : Walked m w window) (b : w.t < H m) where
    pub holding : Holding m w.held w.t window
    holding = record { holds = at.holds; begun = at.begun; come = at.come; hour = b }

    pub ready : Ready w.carries (get_or applied w.t 0)
    ready = C.ready m judged b at.carried (residual_is b)

    module _ {opened : Result Held Refused} {window' : List ℕ} (is : OpenedIs m w.t opened window') where
      pub step_stops : {x : Refused} → opened ≡ Err x → {r : Result Walk Refused} → r ≡ Err x → SteppedIs m w.t r window'
      step_stops {x} e on =
          record { window_is = is.window_is; on = λ w' f. absurd (no_figures on f); stopped = λ y f. ap said on ∙ sym (ap said e) ∙ is.stopped x e }

      pub step_on :
          {held : Held}
          → opened ≡ Ok held
          → {c : Carries}
          → Next w.carries (get_or applied w.t 0) c
          → SteppedIs m w.t (Ok (record { carries = c; t = w.t + 1; held = held })) window'
      step_on {held} e {c} next =
          let hour = is.opened held e in
          let carried = C.carried_next m judged b at.carried (residual_is b) next in
          let come : w.t + 1 ≤ held.start + held.hours = omega (arith, hour.left) in
          let begun : held.start ≤ w.t + 1 = omega (arith, hour.begun) in
          let walked : Walked m (record { carries = c; t = w.t + 1; held = held }) window' =
          record { carried = carried; holds = hour.holds; begun = begun; come = come; last = λ b. omega (arith, hour.begun) } in
          let given = C.figures_are m judged b at.carried (residual_is b) next in
          let on : HourOn m w.t (record { carries = c; t = w.t + 1; held = held }) window' =
          record { walked = walked; one_on = refl; hour = hour; distributed = given } in
          record {
            window_is = is.window_is;
            on = λ w' f. subst (λ (x : Walk). HourOn m w.t x window') (given_same f) on;
            stopped = λ y f. absurd (no_figures f refl);
          }

-- where no hour of the month is refused with 14, a step goes on
pub step_goes_on : {m : MonthFile} {t : ℕ} {r : Result Walk Refused} {window : List ℕ} → SteppedIs m t r window → R.in_turn (H m) (periodised_verdict m) ≡ R.accepted → IsOk r
step_goes_on {r = Ok w} is none = refl
step_goes_on {r = Err x} is none = absurd (refused_not_accepted (is.stopped x refl ∙ none))

-- an hour of a window
module _ {file : List ℕ} {s : Sections} {t residual : ℕ} {x : Held} {distributed : List ℤ} {window : List ℕ} (a : HourAsked file s t residual x distributed window) where
  abbrev h : HoldsHour (month_of file) x t window
  h = a.hour

  in_month_holds : t < H (month_of file)
  in_month_holds = omega (arith, h.left, h.holds.is.inside)

  limit_here : all_periodised (month_of file) t ≤ greatest_periodised
  limit_here =
      periodised_at_most (month_of file) t
      ((in_turn_exactly (x.start + x.hours) (periodised_verdict (month_of file))).0 h.holds.passed t h.left)

  column_there : Column window x.hours (t - x.start) (P (month_of file))
  column_there =
      let hour : t - x.start < x.hours = omega (arith, h.left, h.begun) in
      let size : P (month_of file) * x.hours ≤ length window = omega (arith, h.holds.is.fits, h.holds.is.size) in
      record { few = few_parties (month_of file) a.judged; hour = hour; size = size; short = omega (arith, h.holds.is.size) }

  periodised_is : (i : ℕ) → i < P (month_of file) → column window x.hours (t - x.start) i ≡ periodised (month_of file) t i
  periodised_is i b =
      let e : x.start + (t - x.start) ≡ t = omega (arith, h.begun) in
      subst (λ (u : ℕ). column window x.hours (t - x.start) i ≡ periodised (month_of file) u i) e
      (h.holds.is.each i (t - x.start) b column_there.hour)

  pub hour_known : HourKnown file s residual window x.hours (t - x.start) t
  hour_known =
      record {
        accepted = a.accepted;
        judged = a.judged;
        hour = in_month_holds;
        residual_is = a.residual_is;
        asked = column_there;
        periodised_is = periodised_is;
        in_limit = limit_here;
      }

-- what a step leaves known of its hour
pub hour_on :
    {file : List ℕ} {s : Sections} {applied curveNumbers beginnings : List ℕ}
    → MonthKnown file s applied curveNumbers beginnings
    → {t : ℕ}
    → t < H (month_of file)
    → {w : Walk} {window : List ℕ}
    → HourOn (month_of file) t w window
    → HourAsked file s t (get_or applied t 0) w.held w.carries.figures window
hour_on known b on =
    record { accepted = known.windows.accepted; judged = known.windows.judged; residual_is = residual_is known b; distributed_are = on.distributed; hour = on.hour }
