-- `settle_c::settle_reconciliation` meets its contract: the service answers by its checks, and only an accepted hour has a loss to hand on. Assumes nothing.
use mathlib.Core.Path.{◌∙◌}
use mir.Facts.{to_z-of_z}
use mir.Syntax.{w64}
use Rattle.settle_c.proofs.Hour.{loss_given, loss_kept, code_given, code_refused, lists_left}
use borrow.Author.Rules.{rules}
use Rattle.settle_c.proofs.settle_reconciliation.Goals as goal

pub returns-in-Ok : goal.returns-in-Ok
returns-in-Ok c =
    let p = rw (to_z-of_z c.ranges.price_ore) at c.reconciliation-answered.ensures in
    record {
      answer = code_given p c.in-Ok.is;
      holds_loss = to_z-of_z {w = w64} (search rules) ∙ loss_given p _ c.in-Ok.is;
      holds_differences = (lists_left p).0;
      holds_amounts = (lists_left p).1;
    }

pub returns-in-Err : goal.returns-in-Err
returns-in-Err c =
    let p = rw (to_z-of_z c.ranges.price_ore) at c.reconciliation-answered.ensures in
    record {
      answer = code_refused p c.in-Err.is c.code.ensures;
      holds_loss = loss_kept p _ c.in-Err.is;
      holds_differences = (lists_left p).0;
      holds_amounts = (lists_left p).1;
    }
