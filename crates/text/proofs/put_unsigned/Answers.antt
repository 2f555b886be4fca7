-- `text::put_unsigned` meets its contract: a space, then a number. Assumes nothing.
use borrow.Author.Rules.{rules}
use Rattle.rules.specs.Words.{ascii}
use Rattle.text.proofs.put_unsigned.Goals as goal

pub returns : goal.returns
unfolding ascii
returns c = search rules
