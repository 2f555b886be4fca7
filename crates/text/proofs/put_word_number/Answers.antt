-- `text::put_word_number` meets its contract: a word, then a number of at most 20 digits. Assumes nothing.
use native.Mathlib.Omega.{arith}
use Rattle.text.proofs.Puts.{put_then}
use Rattle.text.proofs.Digits.{number_size}
use Rattle.text.proofs.put_word_number.Goals as goal

pub put_number-requires : goal.put_number-requires
put_number-requires c = omega (arith, number_size c.args.n c.ranges.n.fits)

pub returns : goal.returns
returns c = record { text = put_then c.put_bytes-digits.ensures c.put_number.ensures; within = omega (arith, number_size c.args.n c.ranges.n.fits) }
