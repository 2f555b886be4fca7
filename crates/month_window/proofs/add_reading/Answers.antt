-- `month_window::add_reading` meets its contract: where hours of the reading lie in the window, the periodisation of its part adds the figures of that run to the
-- party's places (`Adding`), and else there is nothing to add. Assumes nothing.
use native.Mathlib.Omega.{arith}
use Rattle.month_window.proofs.Adding.{ordered, none_added, run_asked, run_added}
use Rattle.month_window.proofs.add_reading.Goals as goal

pub weight_between-own-requires : goal.weight_between-own-requires
weight_between-own-requires c = ordered c.requires (omega arith) (omega arith)

pub weight_between-skipped-requires : goal.weight_between-skipped-requires
weight_between-skipped-requires c = ordered c.requires (omega arith) (omega arith)

pub add-requires : goal.add-requires
add-requires c =
    let both = run_asked c.requires c.max-begin.ensures c.min-end.ensures c.if-begin-end.true c.weight_between-own.ensures c.weight_between-skipped.ensures
    c.slot-low.ensures c.slot-high.ensures c.spread_of.ensures in record { part = both.0; room = both.1 }

pub returns-then-begin-end : goal.returns-then-begin-end
returns-then-begin-end c =
    run_added c.requires c.max-begin.ensures c.min-end.ensures c.if-begin-end.true c.weight_between-own.ensures c.weight_between-skipped.ensures
    c.slot-low.ensures c.slot-high.ensures c.spread_of.ensures c.add.ensures

pub returns-else-begin-end : goal.returns-else-begin-end
returns-else-begin-end c = none_added c.requires c.max-begin.ensures c.min-end.ensures c.if-begin-end.false
