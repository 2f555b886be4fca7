-- A text stands at the start of a buffer: so many of its first bytes are the text. That is what a program prints.
use mathlib.Core.List.{List, []}
use mathlib.Core.Path.{◌≡◌, refl, sym, ◌∙◌}
use Prim.Native.Nat.{ℕ, ◌≤◌, zero-le}
use native.Mathlib.Nat.{zero-add}
use native.Mathlib.Omega.{arith}
use lib.ListN.{length, take, drop, length-append}
use lib.Seq.{take_at}
use Rattle.text.specs.Text.{Put, LinePut, at_start}
use Rattle.text.proofs.Puts.{put_as, put_at_start}

abbrev pub Stands : ℕ → List ℕ → List ℕ → Type 0
Stands n buffer text = (n ≤ length buffer) × (take n buffer ≡ text)

pub stands_at_start : (text lent : List ℕ) → Stands (length text) (at_start text lent) text
unfolding at_start
stands_at_start text lent = (omega (arith, length-append text (drop (length text) lent)), take_at text (drop (length text) lent) (length text) refl)

-- a text that was put at the start of a buffer with room for it
pub put_stands : {text before after : List ℕ} {end : ℕ} → Put text before 0 after end → end ≤ length before → Stands end after text
unfolding at_start
put_stands {text} {before} {after} {end} put room =
    let long : end ≡ length text = put.ends ∙ zero-add (length text) in
    rw (put_at_start put room, long) (stands_at_start text before)

-- a line within its room, in a buffer that has it
pub line_stands : {text before after : List ℕ} {room end : ℕ} → LinePut text before 0 room after end → room ≤ length before → Stands end after text
line_stands line room = put_stands line.put (omega (arith, line.within))

-- what was put is the text that is asked; or nothing was, where none is
pub line_put : {text line before after : List ℕ} {room end : ℕ} → text ≡ line → Put line before 0 after end → end ≤ room → LinePut text before 0 room after end
line_put e put room = record { put = put_as (sym e) put; within = omega (arith, room) }

pub no_line : {text : List ℕ} {room : ℕ} (before : List ℕ) → text ≡ [] → LinePut text before 0 room before 0
no_line before e = record { put = put_as (sym e) (record { is = refl; ends = refl }); within = zero-le }
