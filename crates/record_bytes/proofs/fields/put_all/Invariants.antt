-- `record_bytes::fields::put_all` meets its contract: the numbers left, on what is written, give the whole. Assumes nothing.
use Rattle.record_bytes.proofs.Bytes.{Gluing}
use Rattle.record_bytes.proofs.fields.put_all.Given as goal

abbrev pub invariant-loop-i : goal.invariant-loop-i
invariant-loop-i l = Gluing l.initial.d l.widths l.values l.d l.at l.i
