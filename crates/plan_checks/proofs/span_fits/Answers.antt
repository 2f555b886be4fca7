-- `plan_checks::span_fits` meets its contract: each check is the next of the rule's (`Checking`). Assumes nothing.
use Rattle.answer.proofs.Checks.{handed}
use Rattle.plan_checks.proofs.Checking.{parts_refused, parts_inside, too_long, not_too_long}
use Rattle.plan_checks.proofs.span_fits.Goals as goal

pub returns-in_err-each_part : goal.returns-in_err-each_part
returns-in_err-each_part c = parts_refused _ _ _ _ c.each_part.ensures c.in_err-each_part.was (handed c.from_residual.ensures)

pub reading_hours-requires : goal.reading_hours-requires
reading_hours-requires c = parts_inside _ _ _ _ c.each_part.ensures c.in_ok-each_part.was c.requires

pub returns-then-reading_hours-gt-MOST_WEIGHTS : goal.returns-then-reading_hours-gt-MOST_WEIGHTS
returns-then-reading_hours-gt-MOST_WEIGHTS c = too_long _ _ _ _ c.each_part.ensures c.in_ok-each_part.was c.reading_hours.ensures c.if-reading_hours-gt-MOST_WEIGHTS.true

pub returns : goal.returns
returns c = not_too_long _ _ _ _ c.each_part.ensures c.in_ok-each_part.was c.reading_hours.ensures c.if-reading_hours-gt-MOST_WEIGHTS.false
