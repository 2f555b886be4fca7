-- `statement_input::file_text` meets its contract: what is printed is the statement of the file. Assumes nothing.
use Rattle.statement_input.proofs.Texts.{lines_printed, refusal_printed}
use borrow.Author.Rules.{rules}
use Rattle.statement_input.proofs.file_text.Goals as goal

pub returns-in_default : goal.returns-in_default
returns-in_default c = refusal_printed _ _ _ _ c.statement-stated.ensures c.requires c.in_default.is (search rules) c.refusal_line.ensures

pub returns : goal.returns
returns c = lines_printed _ _ _ _ c.statement-stated.ensures c.in-Ok.is
