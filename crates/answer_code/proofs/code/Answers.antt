-- `answer_code::code` meets its contract: done tells 0, and a refusal its number at its place. Assumes nothing.
use mathlib.Core.Path.{sym, ap}
use Rattle.answer.specs.Said.{said}
use Rattle.answer_code.proofs.Told.{accepted_code, refused_code}
use Rattle.answer_code.proofs.code.Goals as goal

pub returns-in-Ok : goal.returns-in-Ok
returns-in-Ok c = accepted_code (ap said (sym c.in-Ok.is))

pub returns-in-Err : goal.returns-in-Err
returns-in-Err c = refused_code c.in-Err.is c.number.ensures c.number_at.ensures
