-- `file_reader::step_at` meets its contract: the step is given all bytes from the place on. Assumes nothing.
use native.Mathlib.Omega.{arith}
use Rattle.file_reader.proofs.Part.{before_the_end, asked, judged}
use Rattle.file_reader.proofs.step_at.Goals as goal

pub slice_bounds-step-count : goal.slice_bounds-step-count
slice_bounds-step-count c = omega (arith, before_the_end c.args.file.now c.args.at c.args.w c.requires)

pub slice_bounds-step-start : goal.slice_bounds-step-start
slice_bounds-step-start c = omega (arith, before_the_end c.args.file.now c.args.at c.args.w c.requires)

pub step-requires : goal.step-requires
step-requires c = asked c.args.file.now c.args.at _ c.requires

pub returns : goal.returns
returns c = judged c.args.file.now c.args.at _ c.step.ensures
