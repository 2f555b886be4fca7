-- `report_text::refusal_line` meets its contract: the line at the start of the buffer, or nothing. Assumes nothing.
use mathlib.Core.Path.{ap}
use Rattle.std.specs.Prelude.{Result}
use Rattle.answer.specs.declared.Refused.{Refused}
use Rattle.report_text.specs.Reporting.{verdict}
use Rattle.report_text.specs.declared.Lines.{Lines}
use Rattle.text.specs.Text.{refusal_text}
use Rattle.text.proofs.Stands.{line_put, no_line}
use Rattle.report_text.proofs.refusal_line.Goals as goal

pub returns-in-Ok : goal.returns-in-Ok
returns-in-Ok c = no_line _ (ap (λ (x : Result Lines Refused). refusal_text (verdict x)) c.in-Ok.is)

pub returns-in-Err : goal.returns-in-Err
returns-in-Err c =
    line_put (ap (λ (x : Result Lines Refused). refusal_text (verdict x)) c.in-Err.is) c.put_refusal.ensures.text
    c.put_refusal.ensures.within
