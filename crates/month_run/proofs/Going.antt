-- The hours of a run one after the other: where the loop stands, and what a step leaves of it. No hour is refused, since none of the month's is.
use mathlib.Core.List.{List}
use mathlib.Core.Path.{◌≡◌, refl, sym, ◌∙◌, ap, subst}
use Prim.Native.Nat.{ℕ, ◌+◌, ◌-◌, ◌*◌, ◌<◌, ◌≤◌, zero-le}
use native.Mathlib.Nat.{le_refl, zero-mul}
use native.Mathlib.Omega.{arith}
use lib.IntN.{ℤ}
use lib.ListN.{length, get_or}
use Rattle.std.specs.Prelude.{Result, Ok}
use Rattle.answer.specs.declared.Refused.{Refused}
use Rattle.distribute.specs.declared.Carries.{Carries}
use Rattle.file_sections.specs.declared.Sections.{Sections}
use Rattle.month_run.specs.InRun.{distributed_in_run, periodised_in_run, loss_in_run}
use Rattle.month_run.specs.Running.{RunKnown, RunLent, Running, RunIs}
use Rattle.month_walk.specs.Walking.{Beginning, Walked, begun, StepAsked, HourOn, SteppedIs, HourAsked, window_places}
use Rattle.month_walk.specs.declared.Walk.{Walk}
use Rattle.month_walk.proofs.Walking.{walk_begins, residual_there, few, hour_on}
use Rattle.rules.specs.Limits.{most_hours}
use Rattle.rules.specs.Month.{month_of}
use Rattle.rules.specs.MonthFile.{MonthFile, H, P}
use Rattle.rules.specs.Run.{difference_in_run}
use Rattle.rules.proofs.Loops.{Filling, fill_start, fill_end}

-- The hours that the walk has come past are written, of those that the run has.
pub record Going (m : MonthFile) (start hours : ℕ) (window : List ℕ) (w : Walk) (d : List ℤ) (p : List ℕ) (x l : List ℤ) : Type 0 where
  pub walked : Walked m w window
  pub bound : w.t ≤ start + hours
  pub running : Running m start hours w.t d p x l

-- hour 0 is before the run, or its first
none_lost : {A : Type 0} (start : ℕ) (f : ℕ → A) {n : ℕ} {out : List A} → length out ≡ n → Filling f n out (0 - start)
none_lost start f {n} {out} e =
    let nothing : 0 - start ≡ 0 = omega arith in
    subst (λ (k : ℕ). Filling f n out k) (sym nothing) (fill_start f e)

none_filled : {A : Type 0} (start parties : ℕ) (f : ℕ → A) {n : ℕ} {out : List A} → length out ≡ n → Filling f n out ((0 - start) * parties)
none_filled start parties f {n} {out} e =
    let nothing : 0 - start ≡ 0 = omega arith in
    subst (λ (k : ℕ). Filling f n out k) (sym (ap (λ (k : ℕ). k * parties) nothing ∙ zero-mul parties)) (fill_start f e)

module _ {file : List ℕ} {s : Sections} {applied curveNumbers beginnings : List ℕ} (known : RunKnown file s applied curveNumbers beginnings) where
  abbrev m : MonthFile
  m = month_of file

  -- before the first hour nothing is written
  pub goes :
      {c : Carries}
      → Beginning file c
      → {window : List ℕ}
      → length window ≡ window_places
      → {start : ℕ} {d : List ℤ} {p : List ℕ} {x l : List ℤ}
      → RunLent m start (length d) (length p) (length x) (length l)
      → Going m start (length l) window (begun c) d p x l
  goes begin size {start} {d} {p} {x} {l} lent = record { walked = walk_begins begin size; bound = zero-le; running = none_run }
    where
      none_run : Running m start (length l) 0 d p x l
      none_run =
          record {
            distributed = none_filled start (P m) (distributed_in_run m start) lent.distributed_size;
            periodised = none_filled start (P m) (periodised_in_run m start) lent.periodised_size;
            differences = none_filled start (P m) (difference_in_run m start) lent.differences_size;
            losses = none_lost start (loss_in_run m start) refl;
          }

  -- an hour is left
  module _ {start hours : ℕ} (inside : start + hours ≤ H m) {window : List ℕ} {w : Walk} {d : List ℤ} {p : List ℕ} {x l : List ℤ}
      (g : Going m start hours window w d p x l) (b : w.t < start + hours) where
    in_month_holds : w.t < H m
    in_month_holds = omega (arith, inside)

    pub residual_here_lem : w.t < length applied
    residual_here_lem = residual_there known.month in_month_holds

    pub few_here : w.t < most_hours
    few_here = few known.month in_month_holds

    -- the run has as many hours as losses are asked for
    pub in_run : w.t < start + length l
    in_run = omega (arith, g.running.losses.size)

    pub running_here : Running m start (length l) w.t d p x l
    running_here = subst (λ (n : ℕ). Running m start n w.t d p x l) (sym g.running.losses.size) g.running

    pub step_asked : StepAsked m w window
    step_asked = record { walked = g.walked; hour = in_month_holds }

    module _ {r : Walk} {stepped : Result Walk Refused} {window' : List ℕ} (is : SteppedIs m w.t stepped window') (done : stepped ≡ Ok r) where
      on : HourOn m w.t r window'
      on = is.on r done

      pub one_on : r.t ≡ w.t + 1
      one_on = on.one_on

      pub hour_asked : HourAsked file s w.t (get_or applied w.t 0) r.held r.carries.figures window'
      hour_asked = hour_on known.month in_month_holds on

      pub goes_on : {d' : List ℤ} {p' : List ℕ} {x' l' : List ℤ} → Running m start (length l) (w.t + 1) d' p' x' l' → Going m start hours window' r d' p' x' l'
      goes_on {d'} {p'} {x'} {l'} run =
          let bound : r.t ≤ start + hours = omega (arith, one_on) in
          let same = subst (λ (n : ℕ). Running m start n (w.t + 1) d' p' x' l') g.running.losses.size run in
          record { walked = on.walked; bound = bound; running = subst (λ (t : ℕ). Running m start hours t d' p' x' l') (sym one_on) same }

  -- none is left
  pub ends :
      {start hours : ℕ} {window : List ℕ} {w : Walk} {d : List ℤ} {p : List ℕ} {x l : List ℤ}
      → Going m start hours window w d p x l
      → start + hours ≤ w.t
      → RunIs m start hours d p x l
  ends {start} {hours} {window} {w} g b =
      let e : w.t - start ≡ hours = omega (arith, g.bound) in
      let all : hours * P m ≤ (w.t - start) * P m = rw e (le_refl (hours * P m)) in
      record {
        distributed = fill_end g.running.distributed all;
        periodised = fill_end g.running.periodised all;
        differences = fill_end g.running.differences all;
        losses = fill_end g.running.losses (omega (arith, e));
      }
