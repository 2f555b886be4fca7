-- The cycle of calls of `text::put_number` meets its contract: the digits of the number divided by ten, and then its last. Assumes nothing.
use native.Mathlib.Omega.{arith}
use Rattle.text.proofs.Puts.{put_as, put_then}
use Rattle.text.proofs.Digits.{decimal_one, decimal_more, one_size, more_size}
use Rattle.text.proofs.+put_number.Goals as goal

pub put_digit-requires : goal.put_digit-requires
put_digit-requires t c = omega (arith, one_size c.args.n (omega arith))

pub returns-then-n-lt10 : goal.returns-then-n-lt10
returns-then-n-lt10 t c = put_as (decimal_one _ (omega arith)) c.put_digit.ensures

pub put_number-last-requires : goal.put_number-last-requires
put_number-last-requires t c = (omega arith, omega (arith, more_size c.args.n (omega arith)))

pub put_digit-requires-2 : goal.put_digit-requires-2
put_digit-requires-2 t c = omega (arith, more_size c.args.n (omega arith))

pub returns : goal.returns
returns t c = put_as (decimal_more _ (omega arith)) (put_then c.put_number-last.ensures c.put_digit-2.ensures)
