-- "S is their sum" (01 "Periodised consumption"): the weights of a reading a..b add up to what the curve adds up to before b less what it adds up to before a.
-- And the loop that adds them up: its sums so far stand in the lent list, and none leaves 64 bits.
use mathlib.Core.List.{List}
use mathlib.Core.Path.{◌≡◌, refl, ◌∙◌, ap}
use Prim.Native.Nat.{ℕ, suc, ◌+◌, ◌-◌, ◌*◌, ◌≤◌, ◌<◌}
use native.Mathlib.Numerals.{add-one}
use native.Mathlib.Omega.{arith}
use lib.ListN.{length, set}
use Rattle.month_series.specs.Series.{beginning}
use Rattle.rules.specs.Month.{curve, weight_of, S}
use Rattle.rules.specs.MonthFile.{MonthFile}
use Rattle.rules.specs.Record.{Reading}
use Rattle.rules.specs.Words.{sum, at, figures}
use Rattle.rules.proofs.Loops.{Filling, fill_start, fill_next, fill_end}
use Rattle.rules.proofs.Sums.{sum_split}

-- the weights before b are those before a and those from a on
pub beginning_split : (weight : ℕ → ℕ) {a b : ℕ} → a ≤ b → beginning weight b ≡ beginning weight a + sum (b - a) (λ k. weight (a + k))
unfolding beginning
beginning_split weight {a} {b} h =
    let e : b ≡ a + (b - a) = omega arith in
    ap (λ (n : ℕ). sum n weight) e ∙ sum_split a (b - a) weight

pub beginning_rises : (weight : ℕ → ℕ) {a b : ℕ} → a ≤ b → beginning weight a ≤ beginning weight b
beginning_rises weight h = omega (arith, beginning_split weight h)

-- S BY TWO BEGINNINGS OF THE CURVE
pub S_by_beginnings : (m : MonthFile) (r : Reading) → r.a ≤ r.b → S m r ≡ beginning (curve m) r.b - beginning (curve m) r.a
unfolding S weight_of
S_by_beginnings m r h = omega (arith, beginning_split (curve m) h)

-- A loop at hour t of a curve of 32-bit numbers: its beginnings up to t are written, and the sum so far is the next.
pub record Adding (curve out : List ℕ) (so_far t : ℕ) : Type 0 where
  pub within : t ≤ length curve
  pub filling : Filling (beginning (at curve)) (suc (length curve)) out t
  pub is : so_far ≡ beginning (at curve) t
  pub small : so_far ≤ t * 4294967295

pub add_start : {curve out : List ℕ} → length out ≡ suc (length curve) → Adding curve out 0 0
unfolding beginning sum
add_start e = record { within = omega arith; filling = fill_start _ e; is = refl; small = omega arith }

module _ {curve out : List ℕ} {so_far t : ℕ} (l : Adding curve out so_far t) where
  pub add_next : t < length curve → at curve t ≤ 4294967295 → Adding curve (set out t so_far) (so_far + at curve t) (t + 1)
  unfolding beginning sum
  add_next b h =
      record {
        within = omega arith;
        filling = fill_next l.filling (omega arith) l.is;
        is = rw (add-one t) (ap (λ (n : ℕ). n + at curve t) l.is);
        small = omega (arith, l.small);
      }

  pub add_end : length curve ≤ t → set out (length curve) so_far ≡ figures (suc (length curve)) (beginning (at curve))
  add_end b =
      let all : length curve ≡ t = omega (arith, l.within) in
      ap (λ (k : ℕ). set out k so_far) all ∙ fill_end (fill_next l.filling (omega (arith, all)) l.is) (omega arith)
