-- `plan_service::put_records` meets its contract: the first k places of each list have the numbers of the first k records (`Lent`). Assumes nothing.
use Rattle.plan_service.proofs.Lent.{Put}
use Rattle.plan_service.proofs.put_records.Given as goal

abbrev pub invariant-loop-k : goal.invariant-loop-k
invariant-loop-k l = Put l.records l.months l.out_a l.out_b l.out_before l.out_whole l.k
