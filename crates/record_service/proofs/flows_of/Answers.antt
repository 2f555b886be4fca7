-- `record_service::flows_of` meets its contract: each number goes to its field. Assumes nothing.
use lib.IntN.{pos}
use lib.ListN.{get_or}
use mir.Facts.{to_z-of_z}
use mir.Syntax.{w64}
use mir.Val.{SFits}
use borrow.Author.Rules.{rules}
use Rattle.record_service.proofs.flows_of.Goals as goal

pub returns : goal.returns
returns c =
    let f : SFits w64 (get_or c.args.numbers.now 2 (pos 0)) = search rules in
    rw (to_z-of_z f, c.u8_of.ensures, c.u64_of.ensures, c.u64_of-2.ensures, c.u64_of-3.ensures)
