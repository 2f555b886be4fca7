-- Flows within their limits: no sum on the way to a residual leaves 64 bits, so that the machine's number is the residual itself. Each step's number is
-- read back from its bits (`kept`), and the next step goes on from there.
use mathlib.Core.Path.{◌≡◌, refl}
use Prim.Native.Nat.{ℕ, ◌+◌, ◌≤◌}
use native.Mathlib.Omega.{arith}
use lib.IntN.{ℤ, pos, negsuc, nat_abs, neg_ℤ, ◌+ℤ◌, ◌-ℤ◌}
use lib.Signed.{mag}
use mir.Facts.{to_z-of_z, to_z_pos}
use mir.Syntax.{w64}
use mir.Val.{SFits, to_z, of_z}
use Rattle.rules.specs.Flows.{residual}
use Rattle.rules.specs.Limits.{greatest_flow}
use Rattle.rules.proofs.Integers.{size_of_opposite, size_of_sum}
use Rattle.residual.specs.Hour.{flows_here, WithinLimits}

mag_size : (z : ℤ) → mag z ≤ nat_abs z
mag_size (pos n) = omega arith
mag_size (negsuc n) = omega arith

-- four flows together are far inside 64 bits
sized : (z : ℤ) → nat_abs z ≤ 32000000000 → SFits w64 z
sized z h = record { sfits = omega (arith, mag_size z) }

kept : {z : ℤ} {r : ℤ} → z ≡ r → nat_abs r ≤ 32000000000 → to_z w64 (of_z w64 z) ≡ r
kept {z} {r} e h = rw e (to_z-of_z (sized r h))

fitting : {z : ℤ} {r : ℤ} → z ≡ r → nat_abs r ≤ 32000000000 → SFits w64 z
fitting {z} {r} e h = rw e (sized r h)

more : (z : ℤ) (n : ℕ) → nat_abs (z +ℤ pos n) ≤ nat_abs z + n
more z n = size_of_sum z (pos n)

less : (z : ℤ) (n : ℕ) → nat_abs (z -ℤ pos n) ≤ nat_abs z + n
less z n = omega (arith, size_of_sum z (neg_ℤ (pos n)), size_of_opposite (pos n))

flow : (n : ℕ) → n ≤ greatest_flow → to_z w64 n ≡ pos n
flow n h = to_z_pos w64 {n = n} (omega arith)

-- the machine's numbers, one step after the other
abbrev step1 : ℤ → ℕ → ℤ
step1 net production = to_z w64 (of_z w64 net) +ℤ to_z w64 production

abbrev step2 : ℤ → ℕ → ℕ → ℤ
step2 net production hourly = to_z w64 (of_z w64 (step1 net production)) -ℤ to_z w64 hourly

abbrev step3 : ℤ → ℕ → ℕ → ℕ → ℤ
step3 net production hourly flex = to_z w64 (of_z w64 (step2 net production hourly)) -ℤ to_z w64 flex

module _ {net : ℤ} {production hourly flex : ℕ} (small : WithinLimits net production hourly flex) where
  is1 : step1 net production ≡ net +ℤ pos production
  is1 = rw (kept {z = net} refl (omega arith), flow production (omega arith))

  size1 : nat_abs (net +ℤ pos production) ≤ 16000000000
  size1 = omega (arith, more net production)

  is2 : step2 net production hourly ≡ net +ℤ pos production -ℤ pos hourly
  is2 = rw (kept is1 (omega (arith, size1)), flow hourly (omega arith))

  size2 : nat_abs (net +ℤ pos production -ℤ pos hourly) ≤ 24000000000
  size2 = omega (arith, size1, less (net +ℤ pos production) hourly)

  is3 : step3 net production hourly flex ≡ net +ℤ pos production -ℤ pos hourly -ℤ pos flex
  is3 = rw (kept is2 (omega (arith, size2)), flow flex (omega arith))

  size3 : nat_abs (net +ℤ pos production -ℤ pos hourly -ℤ pos flex) ≤ 32000000000
  size3 = omega (arith, size2, less (net +ℤ pos production -ℤ pos hourly) flex)

  pub fits1 : SFits w64 (step1 net production)
  fits1 = fitting is1 (omega (arith, size1))

  pub fits2 : SFits w64 (step2 net production hourly)
  fits2 = fitting is2 (omega (arith, size2))

  -- the status is no part of the residual
  pub residual_is : to_z w64 (of_z w64 (step3 net production hourly flex)) ≡ residual (flows_here 0 net production hourly flex)
  unfolding residual
  residual_is = kept is3 size3

-- whichever flow is taken off last
pub fits3 :
    {net : ℤ} {production hourly flex : ℕ}
    → WithinLimits net production hourly flex
    → {last : ℕ}
    → last ≤ greatest_flow
    → SFits w64 (step3 net production hourly last)
fits3 {net} {production} {hourly} small {last} b =
    let with_it : WithinLimits net production hourly last =
    record { net_within = small.net_within; production_within = small.production_within; hourly_within = small.hourly_within; flex_within = b } in
    fitting (is3 with_it) (size3 with_it)
