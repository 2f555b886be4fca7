-- `file_step::judged` meets its contract: a party by its GLN, an end by its count, and the others go on. Assumes nothing.
use mathlib.Core.Path.{◌∙◌, ap}
use Rattle.gln.specs.Gln.{gln_answer}
use Rattle.std.specs.Prelude.{Ok}
use Rattle.record.specs.Record.{glns_in}
use Rattle.file_step.proofs.Exits.{of_a_party, others}
use Rattle.file_step.proofs.judged.Goals as goal

pub returns-in-Party : goal.returns-in-Party
returns-in-Party c = of_a_party _ _ _ c.in-Party.is (c.check.ensures ∙ ap gln_answer c.gln_in.ensures) c.risen.ensures

pub returns-in-End : goal.returns-in-End
returns-in-End c = rw c.in-End.is c.counted.ensures

pub returns-in_default : goal.returns-in_default
returns-in_default c = ap Ok c.moved.ensures ∙ others c.args.w (glns_in c.args.rest.now).gln c.args.size c.args.r c.in_default.not-Party c.in_default.not-End
