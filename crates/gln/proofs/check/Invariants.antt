-- `gln::check` meets its contract: what is left of the bytes says what the whole says. Assumes nothing.
use Prim.Native.Nat.{◌-◌}
use Rattle.gln.proofs.Walk.{Walking}
use Rattle.gln.proofs.check.Given as goal

abbrev pub invariant-loop-position : goal.invariant-loop-position
invariant-loop-position l = Walking l.part l.number l.weighted (l.position - 1)
