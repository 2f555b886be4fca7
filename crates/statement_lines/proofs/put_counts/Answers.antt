-- `statement_lines::put_counts` meets its contract: each word and its number after the one before. Assumes nothing.
use Rattle.rules.specs.Words.{ascii}
use Rattle.statement_lines.proofs.Lines.{counts}
use borrow.Author.Rules.{rules}
use Rattle.statement_lines.proofs.put_counts.Goals as goal

pub returns : goal.returns
unfolding ascii
returns c =
    record {
      text = counts _ _ _ c.put_word_number-after_hours.ensures.text c.put_word_number-after_parties.ensures.text
          c.put_word_number.ensures.text;
      within = search rules;
    }
