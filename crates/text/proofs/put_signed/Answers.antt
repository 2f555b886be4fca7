-- `text::put_signed` meets its contract: the size after a minus, or by itself. Assumes nothing.
use native.Mathlib.Omega.{arith}
use Rattle.text.proofs.Puts.{put_as, put_then}
use Rattle.text.proofs.Signs.{signed_size, plain_text, minus_text}
use Rattle.text.proofs.put_signed.Goals as goal

pub put_number-requires : goal.put_number-requires
put_number-requires c = omega (arith, signed_size c.ranges.z c.unsigned_abs-n.ensures.value)

pub returns-then-z-lt0 : goal.returns-then-z-lt0
returns-then-z-lt0 c =
    record {
      text = put_as (minus_text c.ranges.z c.if-z-lt0.true c.unsigned_abs-n.ensures.value)
          (put_then c.put_bytes-digits.ensures c.put_number.ensures);
      within = omega (arith, signed_size c.ranges.z c.unsigned_abs-n.ensures.value);
    }

pub put_number-requires-2 : goal.put_number-requires-2
put_number-requires-2 c = omega (arith, signed_size c.ranges.z c.unsigned_abs-n.ensures.value)

pub returns : goal.returns
returns c = record { text = put_as (plain_text c.ranges.z c.if-z-lt0.false c.unsigned_abs-n.ensures.value) c.put_number-2.ensures; within = omega (arith, signed_size c.ranges.z c.unsigned_abs-n.ensures.value) }
