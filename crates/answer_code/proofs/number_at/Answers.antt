-- `answer_code::number_at` meets its contract: up to the greatest place the sum is within 64 bits. Assumes nothing.
use Rattle.answer_code.proofs.Told.{within_place, past_place}
use Rattle.answer_code.proofs.number_at.Goals as goal

pub returns-then-place-le-GREATEST_PLACE : goal.returns-then-place-le-GREATEST_PLACE
returns-then-place-le-GREATEST_PLACE c = within_place _ _ c.if-place-le-GREATEST_PLACE.true

pub returns : goal.returns
returns c = past_place _ _ c.if-place-le-GREATEST_PLACE.false
