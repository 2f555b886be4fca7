-- `text::put_word_width` meets its contract: a word, then a number with its digits. Assumes nothing.
use native.Mathlib.Omega.{arith}
use Rattle.text.proofs.Puts.{put_then}
use Rattle.text.proofs.Digits.{width_size}
use Rattle.text.proofs.put_word_width.Goals as goal

pub returns : goal.returns
returns c = record { text = put_then c.put_bytes-digits.ensures c.put_width.ensures; within = omega (arith, width_size c.args.width c.args.n) }
