-- One hour by its status and the range of its residual: what each arm of the match decides is what the rules judge. The machine's number `z` is the
-- residual `r` itself, read back from its bits.
use mathlib.Core.Bool.{true, false}
use mathlib.Core.Path.{◌≡◌, refl}
use Prim.Native.Nat.{ℕ, zero, suc}
use native.Mathlib.Omega.{arith}
use borrow.Author.Tests.{ltb-true, ltb-false, le-leb, lt-leb}
use lib.IntN.{ℤ, pos, negsuc, nat_abs}
use lib.Signed.{lt_z}
use Rattle.rules.specs.Flows.{judged_by, figure, no_figure}
use Rattle.rules.specs.Limits.{greatest_residual}
use Rattle.rules.specs.Refusals.{missing_hour, residual_negative, residual_too_large}
use Rattle.rules.proofs.Whole.{true_not_false}

pub is_missing : (status : ℕ) (r : ℤ) → status ≡ 0 → no_figure missing_hour ≡ judged_by status r
unfolding judged_by
is_missing zero r e = refl
is_missing (suc status) r e = absurd (omega arith)

pub is_negative : (status : ℕ) (r : ℤ) → (status ≡ 0 → ⊥) → lt_z r (pos 0) ≡ true → no_figure residual_negative ≡ judged_by status r
unfolding judged_by
is_negative zero r present below = absurd (present refl)
is_negative (suc status) (pos n) present below = absurd (omega (arith, ltb-true n 0 below))
is_negative (suc status) (negsuc n) present below = refl

pub is_figure : (status : ℕ) (r : ℤ) → (status ≡ 0 → ⊥) → lt_z r (pos 0) ≡ false → lt_z r (pos (suc greatest_residual)) ≡ true → figure (nat_abs r) ≡ judged_by status r
unfolding judged_by
is_figure zero r present low high = absurd (present refl)
is_figure (suc status) (pos n) present low high = rw (le-leb n greatest_residual (omega (arith, ltb-true n (suc greatest_residual) high)))
is_figure (suc status) (negsuc n) present low high = absurd (true_not_false low)

pub is_too_large : (status : ℕ) (r : ℤ) → (status ≡ 0 → ⊥) → lt_z r (pos 0) ≡ false → lt_z r (pos (suc greatest_residual)) ≡ false → no_figure residual_too_large ≡ judged_by status r
unfolding judged_by
is_too_large zero r present low high = absurd (present refl)
is_too_large (suc status) (pos n) present low high = rw (lt-leb n greatest_residual (omega (arith, ltb-false n (suc greatest_residual) high)))
is_too_large (suc status) (negsuc n) present low high = absurd (true_not_false low)
