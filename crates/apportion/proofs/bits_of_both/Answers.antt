-- `apportion::bits_of_both` meets its contract: a number's bits are among those of both. Assumes nothing.
use Rattle.apportion.proofs.Thresholds.{bits_of_both}
use Rattle.apportion.proofs.bits_of_both.Goals as goal

pub returns : goal.returns
returns c = bits_of_both _ _
