-- Lines put one after the other, of which none takes more than so much room.
use mathlib.Core.List.{List}
use mathlib.Core.Path.{◌≡◌, sym, subst}
use Prim.Native.Nat.{ℕ, ◌+◌, ◌*◌, ◌≤◌, ◌<◌, zero-le}
use native.Mathlib.Nat.{le_antisymm, mul-le-mul_right}
use native.Mathlib.Numerals.{add-one}
use native.Mathlib.Omega.{arith}
use lib.ListN.{length}
use Rattle.rules.specs.Statement.{joined}
use Rattle.rules.specs.Words.{figures}
use Rattle.rules.proofs.Lines.{joined_last}
use Rattle.text.specs.Text.{Put, LinePut}
use Rattle.text.proofs.Puts.{put_none, put_then, put_as, put_length}

-- the lines of the first i of n
pub record Going (f : ℕ → List ℕ) (n room : ℕ) (before : List ℕ) (place : ℕ) (out : List ℕ) (end i : ℕ) : Type 0 where
  pub bound : i ≤ n
  pub put : Put (joined (figures i f)) before place out end
  pub within : end ≤ place + i * room

pub go_start : (f : ℕ → List ℕ) (n room : ℕ) (before : List ℕ) (place : ℕ) → Going f n room before place before place 0
unfolding joined figures
go_start f n room before place = record { bound = zero-le; put = put_none before place; within = omega arith }

module _ {f : ℕ → List ℕ} {n room : ℕ} {before : List ℕ} {place : ℕ} {out : List ℕ} {end i : ℕ} (g : Going f n room before place out end i) where
  pub go_next : i < n → {out' : List ℕ} {end' : ℕ} → LinePut (f i) out end room out' end' → Going f n room before place out' end' (i + 1)
  unfolding figures
  go_next b l =
      record { bound = omega arith; put = rw (add-one i) (put_as (sym (joined_last (figures i f) (f i))) (put_then g.put l.put)); within = omega (arith, g.within, l.within) }

  -- `most` lines have room
  pub go_room : i < n → (most : ℕ) → n ≤ most → place + most * room ≤ length before → end + room ≤ length out
  go_room b most few lent =
      omega (arith, g.within, put_length g.put, mul-le-mul_right {m = i + 1} {n = most} room (omega arith))

  pub go_end : n ≤ i → (most : ℕ) → n ≤ most → LinePut (joined (figures n f)) before place (most * room) out end
  go_end b most few =
      let e : i ≡ n = le_antisymm g.bound b in
      record { put = subst (λ (k : ℕ). Put (joined (figures k f)) before place out end) e g.put; within = omega (arith, g.within, mul-le-mul_right {m = i} {n = most} room (omega arith)) }
