-- "With status 0 a figure other than 0 is refused with 4": what the code tests of a net supply's bits is what the rules test of the number.
use mathlib.Core.Bool.{◌&&◌, ◌||◌}
use mathlib.Core.Path.{◌≡◌, refl, sym, ◌∙◌}
use Prim.Native.Nat.{ℕ, suc, ◌-◌, ◌^◌}
use native.Mathlib.Omega.{arith}
use borrow.Author.Tests.{ne_eqb}
use lib.Dec.{eqb, leb}
use lib.IntN.{ℤ, pos, negsuc, nat_abs}
use mir.Syntax.{w64}
use mir.Val.{SFits, of_z}
use Rattle.rules.specs.Flows.{silent_is_zero}
use Rattle.residual.specs.Hour.{flows_here}

-- the bits of a signed number are 0 only of 0
zero_bits : (z : ℤ) → SFits w64 z → eqb (of_z w64 z) 0 ≡ eqb (nat_abs z) 0
zero_bits (pos n) f = refl
zero_bits (negsuc n) f = ne_eqb (2 ^ 64 - suc n) 0 (λ e. omega (arith, f.sfits, e)) ∙ sym (ne_eqb (suc n) 0 (λ e. omega arith))

pub silent_is :
    (status : ℕ) {net : ℤ} (production hourly flex : ℕ)
    → SFits w64 net
    → leb 1 status || (eqb (of_z w64 net) 0 && eqb production 0 && eqb hourly 0 && eqb flex 0) ≡ silent_is_zero (flows_here status net production hourly flex)
unfolding silent_is_zero
silent_is status {net} production hourly flex f = rw (zero_bits net f)
