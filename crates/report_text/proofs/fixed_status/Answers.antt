-- `report_text::fixed_status` meets its contract: the status that is read. Assumes nothing.
use Rattle.report_text.proofs.Statuses.{fixed_status_is}
use Rattle.report_text.proofs.fixed_status.Goals as goal

pub returns : goal.returns
returns c = fixed_status_is c.requires c.fixed_flows-flows.ensures
