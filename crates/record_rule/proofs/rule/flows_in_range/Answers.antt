-- `record_rule::rule::flows_in_range` meets its contract: the code tests what the rule tests, flow by flow. Assumes nothing.
use mir.Facts.{to_z-of_z}
use mir.Syntax.{w64}
use mir.Val.{SFits}
use Rattle.rules.specs.Flows.{flows_in_range, silent_is_zero}
use borrow.Author.Rules.{rules}
use Rattle.record_rule.proofs.Judging.{zero_bits}
use Rattle.record_rule.proofs.rule.flows_in_range.Goals as goal

pub returns : goal.returns
unfolding flows_in_range silent_is_zero
returns c =
    let f : SFits w64 c.args.f.net_wh = search rules in
    rw (c.net_in_range.ensures, to_z-of_z f, zero_bits c.args.f.net_wh f)
