-- `text::put_bytes` meets its contract: the part that it fills holds the bytes. Assumes nothing.
use native.Mathlib.Omega.{arith}
use Rattle.text.proofs.Puts.{put_copied}
use Rattle.text.proofs.put_bytes.Goals as goal

pub returns : goal.returns
returns c = put_copied _ _ _ _ _ c.copy_from_slice.ensures.after (omega arith) c.requires
