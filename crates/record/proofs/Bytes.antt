-- A number as bytes, read: what the library reads of two, four and eight bytes is the rules' number of them, the first counting most.
use mathlib.Core.Bool.{Bool, true, false, cond}
use mathlib.Core.List.{List, [], ◌∷◌}
use mathlib.Core.Path.{◌≡◌, refl, ap}
use Prim.Native.Nat.{ℕ, suc, ◌+◌, ◌-◌, ◌≤◌}
use native.Mathlib.Omega.{arith}
use lib.Dec.{ltb}
use lib.IntN.{pos, negsuc}
use lib.ListN.{length, get_or, take, drop, length-drop}
use lib.Seq.{drop-cons, length-take-le}
use mir.Syntax.{w16, w32, w64}
use mir.Val.{sel, to_z}
use Rattle.std.specs.Int.{from_be_bytes}
use Rattle.rules.specs.Record.{number_onto, signed}

-- so many bytes from a place on, where they stand, are so many
pub there : (n : ℕ) (s : List ℕ) (p : ℕ) → p + n ≤ length s → length (take n (drop p s)) ≡ n
there n s p h = length-take-le n (drop p s) (omega (arith, length-drop p s))

pub one_byte : (s : List ℕ) (p : ℕ) → p + 1 ≤ length s → get_or s p 0 ≡ number_onto 0 (take 1 (drop p s))
unfolding number_onto
one_byte s p h = rw (drop-cons s p 0 (omega arith)) (omega arith)

pub two_bytes : (l : List ℕ) → length l ≡ 2 → from_be_bytes w16 l ≡ number_onto 0 l
unfolding number_onto
two_bytes (a ∷ b ∷ []) e = omega arith
two_bytes [] e = absurd (omega arith)
two_bytes (a ∷ []) e = absurd (omega arith)
two_bytes (a ∷ b ∷ c ∷ l) e = absurd (omega arith)

pub four_bytes : (l : List ℕ) → length l ≡ 4 → from_be_bytes w32 l ≡ number_onto 0 l
unfolding number_onto
four_bytes (a ∷ b ∷ c ∷ d ∷ []) e = omega arith
four_bytes [] e = absurd (omega arith)
four_bytes (a ∷ []) e = absurd (omega arith)
four_bytes (a ∷ b ∷ []) e = absurd (omega arith)
four_bytes (a ∷ b ∷ c ∷ []) e = absurd (omega arith)
four_bytes (a ∷ b ∷ c ∷ d ∷ f ∷ l) e = absurd (omega arith)

pub eight_bytes : (l : List ℕ) → length l ≡ 8 → from_be_bytes w64 l ≡ number_onto 0 l
unfolding number_onto
eight_bytes (a ∷ b ∷ c ∷ d ∷ f ∷ g ∷ h ∷ i ∷ []) e = omega arith
eight_bytes [] e = absurd (omega arith)
eight_bytes (a ∷ []) e = absurd (omega arith)
eight_bytes (a ∷ b ∷ []) e = absurd (omega arith)
eight_bytes (a ∷ b ∷ c ∷ []) e = absurd (omega arith)
eight_bytes (a ∷ b ∷ c ∷ d ∷ []) e = absurd (omega arith)
eight_bytes (a ∷ b ∷ c ∷ d ∷ f ∷ []) e = absurd (omega arith)
eight_bytes (a ∷ b ∷ c ∷ d ∷ f ∷ g ∷ []) e = absurd (omega arith)
eight_bytes (a ∷ b ∷ c ∷ d ∷ f ∷ g ∷ h ∷ []) e = absurd (omega arith)
eight_bytes (a ∷ b ∷ c ∷ d ∷ f ∷ g ∷ h ∷ i ∷ j ∷ l) e = absurd (omega arith)

-- "two's complement", as the library reads it and as the rules do
alike : (t : Bool) (n : ℕ) {a b : ℕ} → a ≡ b → sel t (pos n) (negsuc a) ≡ cond t (pos n) (negsuc b)
alike true n e = refl
alike false n e = ap negsuc e

pub signed_4 : (n : ℕ) → to_z w32 n ≡ signed 4 n
unfolding signed
signed_4 n = let e : 4294967296 - suc n ≡ 4294967295 - n = omega arith in alike (ltb n 2147483648) n e

pub signed_8 : (n : ℕ) → to_z w64 n ≡ signed 8 n
unfolding signed
signed_8 n = let e : 18446744073709551616 - suc n ≡ 18446744073709551615 - n = omega arith in alike (ltb n 9223372036854775808) n e
