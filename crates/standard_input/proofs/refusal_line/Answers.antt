-- `standard_input::refusal_line` meets its contract: the line of an input that is too long at the start of the buffer, or nothing. Assumes nothing.
use mathlib.Core.Path.{ap}
use Rattle.standard_input.specs.Reading.{ended, ended_text}
use Rattle.standard_input.specs.declared.Ending.{Ending}
use Rattle.text.proofs.Stands.{line_put, no_line}
use Rattle.standard_input.proofs.refusal_line.Goals as goal

pub returns-in-Whole : goal.returns-in-Whole
returns-in-Whole c = no_line _ (ap (λ (e : Ending). ended_text (ended e)) c.in-Whole.is)

pub returns-in-TooLong : goal.returns-in-TooLong
returns-in-TooLong c =
    line_put (ap (λ (e : Ending). ended_text (ended e)) c.in-TooLong.is) c.put_refusal.ensures.text
    c.put_refusal.ensures.within

pub returns-in-Failed : goal.returns-in-Failed
returns-in-Failed c = no_line _ (ap (λ (e : Ending). ended_text (ended e)) c.in-Failed.is)
