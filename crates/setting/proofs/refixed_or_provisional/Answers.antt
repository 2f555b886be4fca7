-- `setting::refixed_or_provisional` meets its contract. Assumes nothing.
use native.Mathlib.Omega.{arith}
use Rattle.setting.proofs.Judging.{provisional_passes, final_without, final_with}
use borrow.Author.Rules.{rules}
use Rattle.setting.proofs.refixed_or_provisional.Goals as goal

pub returns-then-refixed-eq0 : goal.returns-then-refixed-eq0
returns-then-refixed-eq0 c = search (rules, final_without, arith)

pub returns-in-Provisional : goal.returns-in-Provisional
returns-in-Provisional c = search (rules, provisional_passes, final_with, arith)

pub returns-else-refixed-eq0 : goal.returns-else-refixed-eq0
returns-else-refixed-eq0 c = search (rules, provisional_passes, final_with, arith)
