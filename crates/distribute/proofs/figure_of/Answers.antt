-- `distribute::figure_of` meets its contract: both numbers are below half of 64 bits. Assumes nothing.
use Rattle.distribute.proofs.Totals.{machine_minus_fits, machine_minus_is}
use native.Mathlib.Omega.{arith}
use borrow.Author.Rules.{rules}
use Rattle.distribute.proofs.figure_of.Goals as goal

pub overflow_sub-result : goal.overflow_sub-result
overflow_sub-result c = search (rules, machine_minus_fits, arith)

pub returns : goal.returns
returns c = search (rules, machine_minus_is, arith)
