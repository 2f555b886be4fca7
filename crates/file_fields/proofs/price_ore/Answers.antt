-- `file_fields::price_ore` meets its contract: `Readers` says what stands there. Assumes nothing.
use borrow.Author.Rules.{rules}
use mir.Facts.{to_z-of_z}
use mir.Syntax.{w64}
use mir.Val.{SFits}
use Rattle.file_fields.proofs.Readers as R
use Rattle.file_fields.proofs.price_ore.Goals as goal

pub from_record-requires : goal.from_record-requires
from_record-requires c = R.price_room _ _ _ c.requires

pub price_in-requires : goal.price_in-requires
price_in-requires c = R.price_enough _ _ _ c.requires c.from_record.ensures

pub returns : goal.returns
returns c =
    let fits : SFits w64 c.price_in.result = search rules in
    rw (to_z-of_z fits) (R.price_is _ _ _ c.requires c.price_in.ensures c.from_record.ensures)
