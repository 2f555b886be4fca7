-- Columns from the texts put one after the other: a space, and a number that is passed on in bits.
use mathlib.Core.List.{List, ◌++◌}
use mathlib.Core.Path.{ap}
use Prim.Native.Nat.{ℕ}
use lib.IntN.{ℤ}
use mir.Facts.{to_z-of_z}
use mir.Syntax.{w64}
use mir.Val.{SFits, to_z, of_z}
use Rattle.rules.specs.Statement.{decimal, signed_decimal}
use Rattle.rules.specs.Words.{ascii}
use Rattle.text.specs.Text.{Put}
use Rattle.text.proofs.Puts.{put_then, put_pair, put_as}

pub column : {b : List ℕ} {p : ℕ} {z : ℤ} → SFits w64 z → {m a : List ℕ} {q e : ℕ} → Put (ascii " ") b p m q → Put (signed_decimal (to_z w64 (of_z w64 z))) m q a e
    → Put (ascii " " ++ signed_decimal z) b p a e
column f h k = put_then h (put_as (ap signed_decimal (to_z-of_z f)) k)

pub energies :
    {b : List ℕ} {p : ℕ} {z : ℤ} → SFits w64 z → (n : ℕ) {m a : List ℕ} {q e : ℕ}
    → Put (ascii " " ++ signed_decimal (to_z w64 (of_z w64 z))) b p m q
    → Put (ascii " " ++ decimal n) m q a e
    → Put (ascii " " ++ signed_decimal z ++ ascii " " ++ decimal n) b p a e
energies f n h k = rw (to_z-of_z f) at (put_pair (ascii " ") (decimal n) h k)
