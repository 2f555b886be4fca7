-- A list of numbers as a record's fields: the signs are right where no number left is wrong, and a number is held in its field as the nearest that fits.
use mathlib.Core.Bool.{Bool, true, false, cond, ◌&&◌, ◌||◌}
use mathlib.Core.List.{List}
use mathlib.Core.Path.{◌≡◌, refl, sym, ◌∙◌, ap}
use Prim.Native.Nat.{ℕ, suc, ◌+◌, ◌≤◌, ◌<◌, zero-le}
use native.Mathlib.Numerals.{add-one}
use native.Mathlib.Omega.{arith}
use borrow.Author.Tests.{le-leb, lt-leb}
use lib.Dec.{eqb, leb}
use lib.IntN.{ℤ, pos, nat_abs}
use lib.ListN.{length, get_or, drop, drop_of_length-le}
use lib.Seq.{drop-cons}
use lib.Signed.{mag, le_z, nat_abs-le}
use mir.Facts.{to_z-of_z}
use mir.Syntax.{w64}
use mir.Val.{SFits, to_z, of_z}
use Rattle.record_service.specs.Held.{signs_from, held_in}
use Rattle.record_bytes.proofs.Complement.{above, below}

-- any number of 64 bits has room in eight bytes
pub eight_bytes : (z : ℤ) → SFits w64 z → true ≡ leb (nat_abs z) 18446744073709551615
eight_bytes z f = sym (le-leb (nat_abs z) 18446744073709551615 (omega (arith, nat_abs-le z f.sfits)))

-- a number held in its field
module _ {z : ℤ} (f : SFits w64 z) (most : ℕ) where
  module _ (h : le_z (pos 0) (to_z w64 (of_z w64 z)) ≡ true) where
    itself : to_z w64 (of_z w64 z) ≡ pos (mag z)
    itself = to_z-of_z f ∙ (above z (rw (to_z-of_z f) at h)).1

    held_is : held_in most z ≡ cond (leb (mag z) most) (mag z) most
    unfolding held_in
    held_is = ap (held_in most) (above z (rw (to_z-of_z f) at h)).1

    pub within_field : nat_abs (to_z w64 (of_z w64 z)) ≤ most → (nat_abs (to_z w64 (of_z w64 z)) ≡ held_in most z) × (nat_abs (to_z w64 (of_z w64 z)) ≤ most)
    within_field r =
        let small : mag z ≤ most = rw itself at r in
        rw itself (sym (held_is ∙ rw (le-leb (mag z) most small)), small)

    pub beyond_field : most < nat_abs (to_z w64 (of_z w64 z)) → (most ≡ held_in most z) × (most ≤ most)
    beyond_field r =
        let large : most < mag z = rw itself at r in
        (sym (held_is ∙ rw (lt-leb (mag z) most large)), omega arith)

  pub below_field : le_z (pos 0) (to_z w64 (of_z w64 z)) ≡ false → (0 ≡ held_in most z) × (0 ≤ most)
  unfolding held_in
  below_field h = (sym (ap (held_in most) (below z (rw (to_z-of_z f) at h))), zero-le)

-- the signs of the numbers from place i on say what all say
pub record Signing (signed : ℕ) (numbers : List ℤ) (i : ℕ) : Type 0 where
  pub left : signs_from signed i (drop i numbers) ≡ signs_from signed 0 numbers

pub sign_start : (signed : ℕ) (numbers : List ℤ) → Signing signed numbers 0
sign_start signed numbers = record { left = refl }

module _ {signed : ℕ} {numbers : List ℤ} {i : ℕ} (h : Signing signed numbers i) (b : i < length numbers) where
  abbrev right_here : Bool
  right_here = eqb i signed || le_z (pos 0) (get_or numbers i (pos 0))

  here : right_here && signs_from signed (suc i) (drop (suc i) numbers) ≡ signs_from signed 0 numbers
  unfolding signs_from
  here = ap (signs_from signed i) (sym (drop-cons numbers i (pos 0) b)) ∙ h.left

  pub sign_wrong : right_here ≡ false → false ≡ signs_from signed 0 numbers
  sign_wrong e = ap (λ (x : Bool). x && signs_from signed (suc i) (drop (suc i) numbers)) (sym e) ∙ here

  pub sign_next : right_here ≡ true → Signing signed numbers (i + 1)
  sign_next e = rw (add-one i) (record { left = ap (λ (x : Bool). x && signs_from signed (suc i) (drop (suc i) numbers)) (sym e) ∙ here })

pub sign_end : {signed : ℕ} {numbers : List ℤ} {i : ℕ} → Signing signed numbers i → length numbers ≤ i → true ≡ signs_from signed 0 numbers
unfolding signs_from
sign_end {signed} {numbers} {i} h b = ap (signs_from signed i) (sym (drop_of_length-le numbers b)) ∙ h.left
