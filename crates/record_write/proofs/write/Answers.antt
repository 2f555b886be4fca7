-- `record_write::write` meets its contract: the rule of the fields first, then the part it is written to. Assumes nothing.
use mathlib.Core.List.{[]}
use Rattle.answer.proofs.Checks.{handed}
use Rattle.record_write.proofs.WriteOne.{no_fault, verdict_of_room, verdict_of_fault}
use Rattle.record_write.proofs.write.Goals as goal

pub returns-in_err-fault : goal.returns-in_err-fault
returns-in_err-fault c = verdict_of_fault _ _ _ _ c.fault.ensures c.in_err-fault.was (handed c.from_residual.ensures)

pub put_record-requires : goal.put_record-requires
put_record-requires c = no_fault _ _ [] _ c.fault.ensures c.in_ok-fault.was

pub returns : goal.returns
returns c = verdict_of_room _ _ _ _ c.fault.ensures c.in_ok-fault.was c.put_record.ensures
