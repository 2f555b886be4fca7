-- `statement_input::input_text` meets its contract: the text by how the reading ended. Assumes nothing.
use Rattle.statement_input.proofs.Texts.{of_whole, of_too_long, of_failed}
use borrow.Author.Rules.{rules}
use Rattle.statement_input.proofs.input_text.Goals as goal

pub returns-in-Whole : goal.returns-in-Whole
returns-in-Whole c = of_whole _ _ _ c.in-Whole.is c.file_text.ensures

pub returns-in-TooLong : goal.returns-in-TooLong
returns-in-TooLong c = of_too_long _ _ _ c.in-TooLong.is (search rules) c.refusal_line.ensures

pub returns-in-Failed : goal.returns-in-Failed
returns-in-Failed c = of_failed _ _ _ c.in-Failed.is
