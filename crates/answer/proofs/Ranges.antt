-- One value of a list at most `most`, or above it, as a check of its place; and every value of a list that was accepted.
use mathlib.Core.Bool.{Bool, true}
use mathlib.Core.List.{List}
use mathlib.Core.Path.{◌≡◌, sym, ◌∙◌, ap₂}
use Prim.Native.Nat.{ℕ, ◌≤◌, ◌<◌}
use borrow.Author.Tests.{le-leb, lt-leb, leb-true}
use lib.Dec.{leb}
use lib.IntN.{ℤ, pos, neg_ℤ}
use lib.ListN.{length, get_or}
use mir.Facts.{to_z-of_z}
use mir.Syntax.{w64}
use mir.Val.{SFits, to_z, of_z}
use Rattle.answer.specs.Ranges.{between_ℤ}
use Rattle.rules.specs.Refusals.{Refusal, Verdict, accepted, refused, unless}
use Rattle.rules.specs.Services.{at_ℤ, check_at, each_at, check_at_ℤ, each_at_ℤ}
use Rattle.rules.specs.Words.{at, at_most, within_ℤ}
use Rattle.rules.proofs.Refusals.{in_turn_exactly, unless_exactly}

pub value_passes : (l : List ℕ) (most : ℕ) (r : Refusal) (i : ℕ) → get_or l i 0 ≤ most → check_at l (at_most most) r i ≡ accepted
unfolding check_at at at_most unless
value_passes l most r i h = rw (le-leb (get_or l i 0) most h)

pub value_stops : (l : List ℕ) (most : ℕ) (r : Refusal) (i : ℕ) → most < get_or l i 0 → check_at l (at_most most) r i ≡ refused r i
unfolding check_at at at_most unless
value_stops l most r i h = rw (lt-leb (get_or l i 0) most h)

-- every value of a list that was accepted has passed its test
pub each_at_most : (l : List ℕ) (most : ℕ) (r : Refusal) → each_at l (at_most most) r ≡ accepted → (i : ℕ) → i < length l → at l i ≤ most
unfolding each_at check_at at_most
each_at_most l most r e i b =
    leb-true (at l i) most
    ((unless_exactly (leb (at l i) most) r i).0 ((in_turn_exactly (length l) (check_at l (at_most most) r)).0 e i b))

pub each_passes : (l : List ℤ) (test : ℤ → Bool) (r : Refusal) → each_at_ℤ l test r ≡ accepted → (i : ℕ) → i < length l → test (at_ℤ l i) ≡ true
unfolding each_at_ℤ check_at_ℤ
each_passes l test r e i b =
    (unless_exactly (test (at_ℤ l i)) r i).0 ((in_turn_exactly (length l) (check_at_ℤ l test r)).0 e i b)

-- a range whose ends the code has in bits
pub by_its_ends :
    (l : List ℤ) (r : Refusal) {lowest greatest : ℤ}
    → SFits w64 lowest
    → SFits w64 greatest
    → {v : Verdict}
    → each_at_ℤ l (between_ℤ (to_z w64 (of_z w64 lowest)) (to_z w64 (of_z w64 greatest))) r ≡ v
    → v ≡ each_at_ℤ l (between_ℤ lowest greatest) r
by_its_ends l r f g e = sym e ∙ ap₂ (λ (low high : ℤ). each_at_ℤ l (between_ℤ low high) r) (to_z-of_z f) (to_z-of_z g)

-- the range -most .. most, of a figure that the code has in bits
pub within_tested :
    (most : ℕ) {z : ℤ}
    → SFits w64 z
    → {b : Bool}
    → b ≡ between_ℤ (neg_ℤ (pos most)) (pos most) (to_z w64 (of_z w64 z))
    → b ≡ within_ℤ most z
unfolding between_ℤ within_ℤ
within_tested most f e = e ∙ rw (to_z-of_z f)
