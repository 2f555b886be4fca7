-- `statement_input::print_input` meets its contract: what is printed of an input is its statement. Assumes nothing.
use mathlib.Core.Path.{◌≡◌}
use Prim.Native.Nat.{◌-◌}
use native.Mathlib.Omega.{arith}
use borrow.Author.Rules.{rules}
use Rattle.std.proofs.lemmas.Result.{on_ok_weaker}
use Rattle.rules.specs.Statement.{statement_per}
use Rattle.setting.specs.Asked.{asked}
use Rattle.standard_input.proofs.Endings.{text_written}
use Rattle.statement_text.specs.Stating.{per_of}
use Rattle.statement_input.proofs.Texts.{input_printed}
use Rattle.statement_input.proofs.print_input.Goals as goal

pub slice_bounds-print-end : goal.slice_bounds-print-end
slice_bounds-print-end g c =
    let within = (input_printed (per_of c.args.per) (asked c.args.setting) _ c.args.ending c.requires c.input_text-n.ensures).0 in search rules

pub returns : goal.returns
returns g c =
    let text = (input_printed (per_of c.args.per) (asked c.args.setting) _ c.args.ending c.requires c.input_text-n.ensures).1 in
    let all : c.input_text-n.result - 0 ≡ c.input_text-n.result = omega arith in
    record {
      written = on_ok_weaker _ (text_written (statement_per (per_of c.args.per) (asked c.args.setting)) _ _ _ _ _ text) (rw all at c.print.ensures.written);
      unwritten = c.print.ensures.unwritten;
    }
