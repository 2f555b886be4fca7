-- `record_bytes::fields::put_number` meets its contract: what is left to write, on what is written, gives the whole. Assumes nothing.
use Rattle.record_bytes.proofs.Bytes.{Putting}
use Rattle.record_bytes.proofs.fields.put_number.Given as goal

abbrev pub invariant-loop-k : goal.invariant-loop-k
invariant-loop-k l = Putting l.initial.d l.at l.width l.value l.d l.left l.k
