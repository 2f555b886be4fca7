-- `record_service::reading_of` meets its contract: each number goes to its field. Assumes nothing.
use Rattle.record_service.proofs.reading_of.Goals as goal

pub returns : goal.returns
returns c = rw (c.u8_of.ensures, c.u16_of.ensures, c.u16_of-2.ensures, c.u32_of.ensures)
