-- `report_text::applied_status` meets its contract: by whether there is a refixed series. Assumes nothing.
use Rattle.report_text.proofs.Statuses.{none_refixed, refixed_asked, all_refixed}
use Rattle.report_text.proofs.applied_status.Goals as goal

pub returns-then-s-eq0 : goal.returns-then-s-eq0
returns-then-s-eq0 c = none_refixed c.requires c.if-s-eq0.true c.fixed_status.ensures

pub refixed_flows-flows-requires : goal.refixed_flows-flows-requires
refixed_flows-flows-requires c = refixed_asked c.requires c.if-s-eq0.false

pub returns : goal.returns
returns c = all_refixed c.requires c.if-s-eq0.false c.refixed_flows-flows.ensures
