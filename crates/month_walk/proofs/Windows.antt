-- The hours of a window: each can be added up, and which of them are refused with 14.
use mathlib.Core.List.{List}
use mathlib.Core.Path.{◌≡◌, refl, sym}
use Prim.Native.Nat.{ℕ, ◌+◌, ◌≤◌, ◌<◌}
use borrow.Author.Tests.{le-leb, lt-leb}
use Rattle.hour_settled.specs.Column.{column, Column, EachInHour, addable}
use Rattle.month_walk.specs.Hours.{window_verdict, Readable}
use Rattle.rules.specs.Limits.{greatest_periodised}
use Rattle.rules.specs.Refusals.{periodised_too_large, accepted, refused, unless}
use Rattle.rules.specs.Words.{sum}

pub hour_readable : {window : List ℕ} {n hours start k : ℕ} → Readable window n hours start → k < hours → Column window hours k n × EachInHour addable window hours k n
unfolding EachInHour
hour_readable {window} {n} {hours} {start} {k} r b =
    (record { few = r.few; hour = b; size = r.size; short = r.short }, λ i l. r.light i k l b)

module _ (window : List ℕ) (n hours start k : ℕ) {total : ℕ} (is : total ≡ sum n (column window hours k)) where
  pub hour_passes : total ≤ greatest_periodised → window_verdict window n hours start k ≡ accepted
  unfolding window_verdict unless
  hour_passes b = rw (sym is, le-leb total greatest_periodised b) refl

  pub hour_refused : greatest_periodised < total → window_verdict window n hours start k ≡ refused periodised_too_large (start + k)
  unfolding window_verdict unless
  hour_refused b = rw (sym is, lt-leb total greatest_periodised b) refl
