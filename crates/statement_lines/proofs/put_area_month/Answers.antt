-- `statement_lines::put_area_month` meets its contract: each word and its number after the one before. Assumes nothing.
use Rattle.rules.specs.Words.{ascii}
use Rattle.statement_lines.proofs.Lines.{area_month_lem}
use borrow.Author.Rules.{rules}
use Rattle.statement_lines.proofs.put_area_month.Goals as goal

pub returns : goal.returns
unfolding ascii
returns c =
    record {
      text = area_month_lem _ _ _ c.put_word_width-after_area.ensures.text c.put_unsigned-after_year.ensures.text
          c.put_word_width.ensures.text;
      within = search rules;
    }
