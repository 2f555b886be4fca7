-- `report_distances::Distances::with` meets its contract: `ByCarries` says why, from what the parts give. Assumes nothing.
use borrow.Author.Rules.{rules}
use Rattle.report_distances.proofs.ByCarries.{near, with_first, with_more}
use Rattle.report_distances.proofs.Distances.with.Goals as goal

pub distances_of-here-requires : goal.distances_of-here-requires
distances_of-here-requires c = (search rules, near c.requires)

pub returns-then-first : goal.returns-then-first
returns-then-first c = with_first c.requires c.distances_of-here.ensures _ c.if-first.true

pub returns : goal.returns
returns c = with_more c.requires c.distances_of-here.ensures _ c.if-first.false c.widened.ensures
