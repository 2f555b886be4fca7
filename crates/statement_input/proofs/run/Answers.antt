-- `statement_input::run` meets its contract: of an input that is known the statement is written. Assumes nothing.
use Rattle.std.proofs.Common.{rules}
use Rattle.std.proofs.lemmas.Result.{on_ok_weaker}
use Rattle.rules.specs.Statement.{statement_per}
use Rattle.setting.specs.Asked.{asked}
use Rattle.standard_input.proofs.Endings.{known_written, answered_by}
use Rattle.statement_text.specs.Stating.{per_of}
use Rattle.statement_input.proofs.run.Goals as goal

pub returns-in_default : goal.returns-in_default
returns-in_default g c = record {
  reported =
      on_ok_weaker _ (known_written (statement_per (per_of c.args.per) (asked c.args.setting)) _ _ _ _ c.in_default.not-Failed c.read_month-input.ensures.known c.bytes_read.ensures.bytes)
      c.print_input.ensures.written;
  answered =
      on_ok_weaker _ (answered_by (statement_per (per_of c.args.per) (asked c.args.setting)) _ _ _ _ c.in_default.not-Failed c.bytes_read.ensures.full) c.print_input.ensures.written;
  unread = λ e. search rules;
}
