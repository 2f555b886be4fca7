-- `record_write::kind_of` meets its contract: each case has its kind. Assumes nothing.
use mathlib.Core.Path.{sym, ◌∙◌, ap}
use Rattle.record_write.specs.Writing.{kind_of}
use Rattle.record_write.proofs.kind_of.Goals as goal

pub returns-in-Party : goal.returns-in-Party
returns-in-Party c = c.party_kind.ensures ∙ sym (ap kind_of c.in-Party.is)
