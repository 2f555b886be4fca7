-- `curve_numbers::curve_number` meets its contract: the one function that looks into the curve number. Assumes nothing.
use Rattle.rules.specs.Flows.{curve_number}
use Rattle.curve_numbers.proofs.curve_number.Goals as goal

pub returns : goal.returns
unfolding curve_number
returns c = c.rounded_down.ensures
