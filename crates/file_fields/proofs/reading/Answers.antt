-- `file_fields::reading` meets its contract: a reading of either kind is read by its own function (`Readers`). Assumes nothing.
use native.Mathlib.Omega.{arith}
use Rattle.file_fields.proofs.OneRecord.{from_there}
use Rattle.file_fields.proofs.Readers as R
use Rattle.file_fields.proofs.reading.Goals as goal

pub slice_bounds-part-count : goal.slice_bounds-part-count
slice_bounds-part-count c = omega (arith, R.inside c.args.file.now c.args.at c.requires)

pub slice_bounds-part-start : goal.slice_bounds-part-start
slice_bounds-part-start c = omega (arith, R.inside c.args.file.now c.args.at c.requires)

pub bounds-part-0 : goal.bounds-part-0
bounds-part-0 c = omega (arith, R.some_byte _ _ c.requires (from_there c.args.file.now c.args.at))

pub long_reading_in-requires : goal.long_reading_in-requires
long_reading_in-requires c = R.long_enough _ _ c.requires (from_there c.args.file.now c.args.at) c.if-part-eq-LONG_READING.true

pub returns-then-part-eq-LONG_READING : goal.returns-then-part-eq-LONG_READING
returns-then-part-eq-LONG_READING c = R.long_is _ _ c.requires (from_there c.args.file.now c.args.at) c.if-part-eq-LONG_READING.true c.long_reading_in.ensures

pub reading_in-requires : goal.reading_in-requires
reading_in-requires c = R.short_enough _ _ c.requires (from_there c.args.file.now c.args.at) c.if-part-eq-LONG_READING.false

pub returns : goal.returns
returns c = R.short_is _ _ c.requires (from_there c.args.file.now c.args.at) c.if-part-eq-LONG_READING.false c.reading_in.ensures
