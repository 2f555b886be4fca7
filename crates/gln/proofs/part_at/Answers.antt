-- `gln::part_at` meets its contract: the code tests what the definition tests, without a sum that could wrap. Assumes nothing.
use native.Mathlib.Omega.{arith}
use Rattle.gln.proofs.Walk.{part_there, part_past}
use Rattle.gln.proofs.part_at.Goals as goal

pub returns-then-file-lt-GLN_DIGITS : goal.returns-then-file-lt-GLN_DIGITS
returns-then-file-lt-GLN_DIGITS c = part_past _ _ (omega arith)

pub returns-then-file-at : goal.returns-then-file-at
returns-then-file-at c = part_past _ _ (omega arith)

pub returns : goal.returns
returns c = part_there _ _ (omega arith)
