-- `month_series::judge_readings` meets its contract: what is left of the readings says what the whole says, and each is read behind those before it. Assumes nothing.
use mathlib.Core.Path.{◌≡◌}
use Prim.Native.Nat.{◌+◌}
use lib.ListN.{length}
use Rattle.rules.specs.Month.{month_of, reading_verdict}
use Rattle.rules.proofs.Loops.{Looking}
use Rattle.rules.specs.Record.{reading}
use Rattle.rules.proofs.Places.{sizes_before}
use Rattle.month_series.proofs.judge_readings.Given as goal

abbrev pub invariant-loop-j : goal.invariant-loop-j
invariant-loop-j l = Looking (reading_verdict (month_of l.file)) (length (month_of l.file).readings) l.j × (l.place ≡ l.initial.place + sizes_before reading (month_of l.file).readings l.j)
