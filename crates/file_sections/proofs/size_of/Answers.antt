-- `file_sections::size_of` meets its contract: the body after the kind byte. Assumes nothing.
use native.Mathlib.Omega.{arith}
use Rattle.record.proofs.BodyShort.{body_short}
use Rattle.file_sections.proofs.size_of.Goals as goal

pub overflow_add-result : goal.overflow_add-result
overflow_add-result c = omega (arith, c.body_length.ensures, body_short c.args.kind)

pub returns-clause-bound : goal.returns-clause-bound
returns-clause-bound c = omega (arith, c.body_length.ensures, body_short c.args.kind)
