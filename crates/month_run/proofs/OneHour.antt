-- One hour of a run: its places in the lent outputs are the next ones, and what is written there is the hour's.
use mathlib.Core.List.{List}
use mathlib.Core.Path.{◌≡◌, sym, ◌∙◌, ap, ap₂, subst}
use Prim.Native.Nat.{ℕ, ◌+◌, ◌-◌, ◌*◌, ◌/◌, ◌%◌, ◌≤◌, ◌<◌}
use native.Mathlib.Nat.{add-zero, mul-le-mul_right, mul-add-div_right, mul-add-mod_self_right, div-eq_of_lt, mod-eq_of_lt}
use native.Mathlib.Omega.{arith}
use lib.IntN.{ℤ}
use lib.ListN.{length}
use Rattle.file_sections.specs.declared.Sections.{Sections}
use Rattle.file_sections.proofs.AcceptedFile.{parties_are}
use Rattle.hour_settled.specs.declared.Quantities.{Quantities}
use Rattle.month_walk.specs.Hours.{QuantitiesAre}
use Rattle.month_walk.specs.Walking.{HourAsked}
use Rattle.month_walk.specs.declared.Held.{Held}
use Rattle.month_walk.proofs.Bounds.{few_parties}
use Rattle.month_run.specs.InRun.{distributed_in_run, periodised_in_run, loss_in_run}
use Rattle.month_run.specs.Running.{Running, HourLent, HourWritten}
use Rattle.rules.specs.Month.{month_of, distributed, periodised, difference, loss}
use Rattle.rules.specs.MonthFile.{MonthFile, P}
use Rattle.rules.specs.Run.{difference_in_run}
use Rattle.rules.proofs.Loops.{Filling, fill_next}

-- place t x n + i is hour t, party i
pub at_place : (n t i : ℕ) → i < n → ((t * n + i) / n ≡ t) × ((t * n + i) % n ≡ i)
at_place n t i l =
    let some : 0 < n = omega arith in
    (mul-add-div_right some t i ∙ ap (λ (q : ℕ). t + q) (div-eq_of_lt l) ∙ add-zero t, mul-add-mod_self_right t n i ∙ mod-eq_of_lt l)

-- a figure that each hour has for each party
pub in_run : {A : Type 0} (figure : ℕ → ℕ → A) (n start t i : ℕ) → i < n → figure (start + (t * n + i) / n) ((t * n + i) % n) ≡ figure (start + t) i
in_run figure n start t i l =
    ap₂ (λ (h p : ℕ). figure (start + h) p) (at_place n t i l).0 (at_place n t i l).1

-- before the run begins nothing is written
pub not_begun :
    {m : MonthFile} {start all t : ℕ} {d : List ℤ} {p : List ℕ} {x l : List ℤ}
    → Running m start all t d p x l
    → t < start
    → Running m start all (t + 1) d p x l
not_begun {m} {start} {all} {t} {d} {p} {x} {l} g b =
    let e : t - start ≡ t + 1 - start = omega arith in
    record {
      distributed = subst (λ (j : ℕ). Filling (distributed_in_run m start) (all * P m) d (j * P m)) e g.distributed;
      periodised = subst (λ (j : ℕ). Filling (periodised_in_run m start) (all * P m) p (j * P m)) e g.periodised;
      differences = subst (λ (j : ℕ). Filling (difference_in_run m start) (all * P m) x (j * P m)) e g.differences;
      losses = subst (λ (j : ℕ). Filling (loss_in_run m start) all l j) e g.losses;
    }

module _ {file : List ℕ} {s : Sections} {t residual : ℕ} {v : Held} {figures : List ℤ} {window : List ℕ} (h : HourAsked file s t residual v figures window)
    {start all : ℕ} (b : t < start + all) (begun : start ≤ t)
    {d : List ℤ} {p : List ℕ} {x l : List ℤ} (g : Running (month_of file) start all t d p x l) where
  abbrev m : MonthFile
  m = month_of file

  abbrev j : ℕ
  j = t - start

  n_is : s.heading.parties ≡ P m
  n_is = parties_are file s h.accepted

  inside : j < all
  inside = omega arith

  room : j * P m + P m ≤ all * P m
  room = omega (arith, mul-le-mul_right (P m) inside)

  lent_for : HourLent (P m) j (length d) (length p) (length x) (length l)
  lent_for =
      record {
        few = few_parties m h.judged;
        distributed_fits_holds = omega (arith, room, g.distributed.size);
        periodised_fits = omega (arith, room, g.periodised.size);
        differences_fits = omega (arith, room, g.differences.size);
        losses_fit = omega (arith, inside, g.losses.size);
      }

  pub hour_lent : HourLent s.heading.parties j (length d) (length p) (length x) (length l)
  hour_lent = rw n_is lent_for

  module _ {quantities : Quantities} (is : QuantitiesAre m t quantities) {d' : List ℤ} {p' : List ℕ} {x' l' : List ℤ}
      (put : HourWritten quantities s.heading.parties j d p x l d' p' x' l') where
    written : HourWritten quantities (P m) j d p x l d' p' x' l'
    written = subst (λ (n : ℕ). HourWritten quantities n j d p x l d' p' x' l') n_is put

    hour_is : start + j ≡ t
    hour_is = omega arith

    -- a figure of this hour is the run's
    here : {A : Type 0} (figure : ℕ → ℕ → A) (i : ℕ) → i < P m → figure t i ≡ figure (start + (j * P m + i) / P m) ((j * P m + i) % P m)
    here figure i e = ap (λ (u : ℕ). figure u i) (sym hour_is) ∙ sym (in_run figure (P m) start j i e)

    on : {A : Type 0} {series : ℕ → A} {out : List A} → Filling series (all * P m) out (j * P m + P m) → Filling series (all * P m) out ((t + 1 - start) * P m)
    on {A} {series} {out} f =
        let next : t + 1 - start ≡ j + 1 = omega arith in
        let e : j * P m + P m ≡ (j + 1) * P m = omega arith in
        subst (λ (i : ℕ). Filling series (all * P m) out i) (e ∙ ap (λ (k : ℕ). k * P m) (sym next)) f

    distributed_on : Filling (distributed_in_run m start) (all * P m) d' ((t + 1 - start) * P m)
    unfolding distributed_in_run
    distributed_on =
        on (written.distributed (distributed_in_run m start) (all * P m) g.distributed room (λ i e. is.distributed.below i e ∙ here (distributed m) i e))

    periodised_on : Filling (periodised_in_run m start) (all * P m) p' ((t + 1 - start) * P m)
    unfolding periodised_in_run
    periodised_on =
        on (written.periodised (periodised_in_run m start) (all * P m) g.periodised room (λ i e. is.periodised.below i e ∙ here (periodised m) i e))

    differences_on : Filling (difference_in_run m start) (all * P m) x' ((t + 1 - start) * P m)
    unfolding difference_in_run
    differences_on =
        on (written.differences (difference_in_run m start) (all * P m) g.differences room (λ i e. is.differences.below i e ∙ here (difference m) i e))

    losses_on : Filling (loss_in_run m start) all l' (t + 1 - start)
    unfolding loss_in_run
    losses_on =
        let next : j + 1 ≡ t + 1 - start = omega arith in
        let filled = fill_next g.losses inside (is.loss ∙ ap (loss m) (sym hour_is)) in
        subst (λ (k : ℕ). Filling (loss_in_run m start) all l' k) next
        (subst (λ (o : List ℤ). Filling (loss_in_run m start) all o (j + 1)) (sym written.losses) filled)

    pub hour_on : Running m start all (t + 1) d' p' x' l'
    hour_on = record { distributed = distributed_on; periodised = periodised_on; differences = differences_on; losses = losses_on }
