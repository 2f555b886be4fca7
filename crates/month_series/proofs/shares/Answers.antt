-- `month_series::shares` meets its contract: the beginning of the lent list is the load shares so far. Assumes nothing.
use mathlib.Core.Path.{◌∙◌}
use Rattle.file_sections.proofs.AcceptedFile.{parties_are}
use Rattle.file_fields.proofs.FieldsRead.{share_read}
use Rattle.rules.proofs.Loops.{fill_start, fill_next, fill_end}
use native.Mathlib.Omega.{arith}
use Rattle.month_series.proofs.shares.Goals as goal

pub loop-i-init : goal.loop-i-init
loop-i-init c = fill_start _ (c.requires.out_len ∙ parties_are _ _ c.requires.accepted)

pub loop-i-preserved : goal.loop-i-preserved
loop-i-preserved c = fill_next c.loop-i.invariant (omega arith) (share_read _ _ c.requires.accepted c.load_share.ensures)

pub returns : goal.returns
returns c = fill_end c.loop-i.invariant (omega arith)
