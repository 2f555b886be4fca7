-- `record_bytes::fields::unsigned` meets its contract: -1 - z is how far below the largest number a negative z stands. Assumes nothing.
use Rattle.record_bytes.proofs.Complement.{plain_fits, plain_is, distance_fits, distance_cast, distance_room, complement_is}
use Rattle.record_bytes.proofs.fields.unsigned.Goals as goal

pub overflow_cast-result : goal.overflow_cast-result
overflow_cast-result c = plain_fits c.ranges.z 0 c.if-z-ge0.true

pub returns-then-z-ge0 : goal.returns-then-z-ge0
returns-then-z-ge0 c = plain_is c.ranges.z _ c.if-z-ge0.true

pub overflow_sub-result : goal.overflow_sub-result
overflow_sub-result c = distance_fits c.ranges.z 0 c.if-z-ge0.false

pub overflow_cast-result-2 : goal.overflow_cast-result-2
overflow_cast-result-2 c = distance_cast c.ranges.z 0 c.if-z-ge0.false

pub overflow_sub-result-2 : goal.overflow_sub-result-2
overflow_sub-result-2 c = distance_room c.ranges.z _ c.if-z-ge0.false c.requires

pub returns : goal.returns
returns c = complement_is c.ranges.z _ c.if-z-ge0.false
