-- `text::put_refusal` meets its contract: a number of at most two digits, then the place, and the newline. Assumes nothing.
use native.Mathlib.Omega.{arith}
use Rattle.answer.specs.Said.{named}
use Rattle.rules.specs.Statement.{newline}
use Rattle.rules.specs.Words.{ascii}
use Rattle.text.proofs.RefusalLine.{number_ends, refusal_text_lem}
use Rattle.text.proofs.put_refusal.Goals as goal

pub put_word_number-after_place-requires : goal.put_word_number-after_place-requires
unfolding ascii
put_word_number-after_place-requires c = omega (arith, (number_ends (named c.args.refusal) c.number-number.ensures c.put_word_number-after_number.ensures.text))

pub put_bytes-requires : goal.put_bytes-requires
unfolding ascii
put_bytes-requires c = omega (arith, (number_ends (named c.args.refusal) c.number-number.ensures c.put_word_number-after_number.ensures.text))

pub returns : goal.returns
unfolding ascii newline
returns c =
    record {
      text = refusal_text_lem (named c.args.refusal) c.number-number.ensures c.put_word_number-after_number.ensures.text _
          c.put_word_number-after_place.ensures.text c.put_bytes.ensures;
      within = omega (arith, (number_ends (named c.args.refusal) c.number-number.ensures c.put_word_number-after_number.ensures.text));
    }
