-- `standard_input::read_month`: what is filled so far is what was read so far; the measure is what is still free.
use Rattle.std.proofs.Common.{◌-◌, ◌≤◌, length, take}
use Rattle.std.specs.Io.KnownBytes.{Consumes}
use Rattle.standard_input.proofs.read_month.Given as goal

abbrev pub invariant-loop-filled : goal.invariant-loop-filled
invariant-loop-filled g l = (l.filled ≤ length l.buffer) × Consumes (g.R.Read.remaining l.initial.from) (g.R.Read.remaining l.from) (take l.filled l.buffer)

abbrev pub decreases-loop-filled : goal.decreases-loop-filled
decreases-loop-filled g l = length l.buffer - l.filled
