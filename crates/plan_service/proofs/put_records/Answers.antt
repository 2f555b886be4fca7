-- `plan_service::put_records` meets its contract: the first k places of each list have the numbers of the first k records (`Lent`). Assumes nothing.
use mathlib.Core.Path.{refl}
use native.Mathlib.Omega.{arith}
use Rattle.plan_service.specs.Planned.{from_in, to_in, before_in, whole_in}
use Rattle.plan_service.proofs.Lent.{put_start, put_next, put_end}
use Rattle.plan_service.proofs.put_records.Goals as goal

pub loop-k-init : goal.loop-k-init
loop-k-init c = put_start c.requires

pub loop-k-preserved : goal.loop-k-preserved
unfolding from_in to_in before_in whole_in
loop-k-preserved c = put_next c.loop-k.invariant (omega arith) refl refl c.before_of.ensures c.whole_of.ensures

pub returns : goal.returns
returns c = put_end c.loop-k.invariant (omega arith)
