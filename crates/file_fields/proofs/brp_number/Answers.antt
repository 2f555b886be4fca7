-- `file_fields::brp_number` meets its contract: an accepted file's GLNs are valid, so the check gives the number. Assumes nothing.
use Rattle.file_fields.proofs.FieldsRead.{number_is}
use Rattle.file_fields.proofs.brp_number.Goals as goal

pub returns : goal.returns
returns c = number_is _ _ _ c.requires c.brp_gln_of.ensures c.check.ensures c.unwrap_or.ensures
