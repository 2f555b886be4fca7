-- `month_series::judge_flows` meets its contract: the residual of the flows, judged. Assumes nothing.
use mir.Facts.{to_z-of_z}
use mir.Syntax.{w64}
use mir.Val.{SFits}
use Rattle.month_series.proofs.OneHour.{flows_within, judged_is}
use borrow.Author.Rules.{rules}
use Rattle.month_series.proofs.judge_flows.Goals as goal

pub residual_of-wh-requires : goal.residual_of-wh-requires
residual_of-wh-requires c = let fits : SFits w64 c.args.f.net_wh = search rules in rw (to_z-of_z fits) (flows_within _ c.requires)

pub returns : goal.returns
returns c =
    let fits : SFits w64 c.args.f.net_wh = search rules in
    let wh_fits : SFits w64 c.residual_of-wh.result = search rules in
    judged_is _ c.judge.result (to_z-of_z fits) c.residual_of-wh.ensures (to_z-of_z wh_fits) c.judge.ensures
