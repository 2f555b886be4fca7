-- `distribute::Carries::start` meets its contract: `Start` says why. Assumes nothing.
use Rattle.distribute.proofs.Start as S
use borrow.Author.Rules.{rules}
use borrow.Author.Rules.{rules}
use Rattle.distribute.proofs.Carries.start.Goals as goal

pub total-w-requires : goal.total-w-requires
total-w-requires c = (search rules, S.sum_fits _ c.requires _ c.padded-share.ensures)

pub returns : goal.returns
returns c = S.started _ c.requires _ c.padded-share.ensures _ c.total-w.ensures
