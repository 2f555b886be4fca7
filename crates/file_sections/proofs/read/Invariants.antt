-- `file_sections::read` meets its contract: what is left of the file says what the whole says (`Walking`). Assumes nothing.
use Prim.Native.Nat.{◌-◌}
use lib.ListN.{length}
use Rattle.setting.specs.Asked.{prices_asked}
use Rattle.file_sections.proofs.Walking.{Walking}
use Rattle.file_sections.proofs.read.Given as goal

abbrev pub invariant-loop-at : goal.invariant-loop-at
invariant-loop-at l = Walking (prices_asked l.initial.w.prices_asked) l.file l.w l.at

abbrev pub decreases-loop-at : goal.decreases-loop-at
decreases-loop-at l = length l.file - l.at
