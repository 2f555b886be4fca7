-- `month_window::window` meets its contract: after j readings each place has the figures of the j (`Windows`). Assumes nothing.
use mathlib.Core.Path.{◌≡◌}
use Prim.Native.Nat.{◌+◌}
use Rattle.month_window.proofs.Windows.{Counted}
use Rattle.rules.specs.Record.{reading}
use Rattle.rules.proofs.Places.{sizes_before}
use Rattle.rules.specs.Month.{month_of}
use Rattle.month_window.proofs.window.Given as goal

abbrev pub invariant-loop-j : goal.invariant-loop-j
invariant-loop-j l = Counted (month_of l.file) l.start l.hours l.out l.j × (l.place ≡ l.initial.place + sizes_before reading (month_of l.file).readings l.j)
