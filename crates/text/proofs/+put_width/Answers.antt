-- The cycle of calls of `text::put_width` meets its contract: the digits of the number divided by ten, one fewer, and then its last. Assumes nothing.
use native.Mathlib.Omega.{arith}
use Prim.Native.Nat.{◌-◌, ◌/◌}
use Rattle.text.proofs.Puts.{put_none, put_as, put_then}
use Rattle.text.proofs.Digits.{width_size, width_none, width_more}
use Rattle.text.proofs.+put_width.Goals as goal

pub returns-then-width-lt1 : goal.returns-then-width-lt1
returns-then-width-lt1 t c = put_as (width_none _ _ c.if-width-lt1.true) (put_none _ _)

pub put_digit-requires : goal.put_digit-requires
put_digit-requires t c = omega (arith, width_size (c.args.width - 1) (c.args.n / 10))

pub returns : goal.returns
returns t c = put_as (width_more _ _ c.if-width-lt1.false) (put_then c.put_width-units.ensures c.put_digit.ensures)
