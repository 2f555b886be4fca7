-- `month_series::hours` meets its contract: hour after hour, what is left of the series says what the whole says. Assumes nothing.
use mathlib.Core.Path.{◌∙◌, ap}
use native.Mathlib.Omega.{arith}
use Rattle.month_series.proofs.Series.{judge_start, judge_next, judge_stop, judge_end, hours_many, flows_right}
use Rattle.rules.specs.Flows.{flows_in_range}
use Rattle.month_series.proofs.hours.Goals as goal

pub loop-t-init : goal.loop-t-init
loop-t-init c = judge_start _ (c.requires.out_len ∙ hours_many _ _ c.requires.accepted _)

pub judge_flows-requires : goal.judge_flows-requires
judge_flows-requires c = ap flows_in_range c.flows_at-f.ensures ∙ flows_right _ _ c.requires.accepted _ _ (omega arith)

pub loop-t-preserved : goal.loop-t-preserved
loop-t-preserved c =
    judge_next c.loop-t.invariant (omega arith) c.flows_at-f.ensures c.judge_flows.ensures c.in-Ok.is c.estimated_one-estimated.ensures

pub returns-in-Err : goal.returns-in-Err
returns-in-Err c = judge_stop c.loop-t.invariant (omega arith) c.flows_at-f.ensures c.judge_flows.ensures c.in-Err.is c.from.ensures

pub returns : goal.returns
returns c = judge_end c.loop-t.invariant (omega arith)
