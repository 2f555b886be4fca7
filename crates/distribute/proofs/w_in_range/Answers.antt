-- `distribute::w_in_range` meets its contract: its test is the check's, of the same sum. Assumes nothing.
use mathlib.Core.Path.{sym}
use borrow.Author.Rules.{rules}
use Rattle.answer.proofs.Checks.{passes, stops}
use Rattle.distribute.specs.Shares.{w_verdict}
use Rattle.distribute.proofs.Shares.{shares_add_up, w_tested}
use Rattle.distribute.proofs.w_in_range.Goals as goal

pub total-w-requires : goal.total-w-requires
total-w-requires c = (search rules, shares_add_up c.requires c.padded-share.ensures)

pub returns-then-not-w : goal.returns-then-not-w
unfolding w_verdict
returns-then-not-w c = sym (stops _ _ (w_tested c.requires c.padded-share.ensures c.total-w.ensures) (search rules))

pub returns : goal.returns
unfolding w_verdict
returns c = sym (passes _ _ (w_tested c.requires c.padded-share.ensures c.total-w.ensures) (search rules))
