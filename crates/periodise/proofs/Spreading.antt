-- What a loop over a reading's hours keeps: the remainder of E x (weights so far), whatever it does with each hour's figure (`Standing`); and what the loop that
-- adds the figures keeps besides (`Adding`). Each need of such a loop is one citation.
use mathlib.Core.List.{List}
use mathlib.Core.Path.{◌≡◌, refl, sym, ◌∙◌, ap}
use Prim.Native.Nat.{ℕ, suc, ◌+◌, ◌*◌, ◌/◌, ◌%◌, ◌≤◌, ◌<◌, ◌^◌, max}
use native.Mathlib.Nat.{add-zero, mod-lt, mul-zero, zero-mod}
use native.Mathlib.Omega.{arith}
use lib.ListN.{length, set}
use lib.Seq.{get_or-set_other}
use Rattle.rules.specs.Words.{sum, at, figures}
use Rattle.rules.proofs.Loops.{Filling, fill_start, fill_next, fill_end}
use Rattle.rules.specs.Limits.{greatest_whole}
use Rattle.rules.specs.Periodised.{periodised_figure}
use Rattle.rules.proofs.Sums.{sum_member, sum_rises}
use Rattle.periodise.specs.Growth.{grown_from, Within, Part, Turning, Turned, Room}
use Rattle.periodise.proofs.Growth.{growth_is, rest_is}

-- before the i-th of the reading's hours
pub record Standing (e before whole : ℕ) (weight : ℕ → ℕ) (divisor left i : ℕ) : Type 0 where
  pub divides : divisor ≡ max whole 1
  pub kept : left ≡ e * (before + sum i weight) % divisor

module _ {e before whole : ℕ} {weight : ℕ → ℕ} {divisor : ℕ} where
  module _ {left skip skipped : ℕ} (passed : skipped ≡ sum skip weight) where
    pub stand_start : divisor ≡ max whole 1 → left ≡ e * (before + skipped) % divisor → Standing e before whole weight divisor left skip
    stand_start d k = record { divides = d; kept = k ∙ ap (λ (x : ℕ). e * (before + x) % divisor) passed }

  module _ {hours : ℕ} (w : Within e before whole weight hours) {left i : ℕ} (s : Standing e before whole weight divisor left i) (b : i < hours) where
    so_far : before + sum (suc i) weight ≤ whole
    so_far = omega (arith, w.inside, sum_rises weight b)

    pub turn_asks : Turning e (weight i) left divisor
    turn_asks =
        let d : divisor ≡ max whole 1 = s.divides in
        record {
          energy = w.energy;
          inside = omega (arith, w.inside, sum_member hours weight b);
          most = omega (arith, w.most);
          kept = rw s.kept (mod-lt (e * (before + sum i weight)) (omega arith));
        }

    module _ {wh rest : ℕ} (t : Turned e (weight i) left divisor wh rest) where
      -- the hour's figure is the growth
      pub turn_gives : wh ≡ periodised_figure e before whole weight i
      turn_gives =
          t.figure ∙ ap (λ (x : ℕ). (x + e * weight i) / divisor) s.kept
          ∙ ap (λ (x : ℕ). (e * (before + sum i weight) % x + e * weight i) / x) s.divides
          ∙ sym (growth_is e before whole weight i so_far)

      pub stand_next : {next : ℕ} → next ≡ suc i → Standing e before whole weight divisor rest next
      stand_next n =
          record {
            divides = s.divides;
            kept = rw n (t.keeps ∙ ap (λ (x : ℕ). (x + e * weight i) % divisor) s.kept ∙ rest_is e before whole weight i divisor);
          }

-- with nothing before the first hour nothing is left
pub stand_first : {e whole : ℕ} {weight : ℕ → ℕ} {divisor : ℕ} → divisor ≡ max whole 1 → Standing e 0 whole weight divisor 0 0
unfolding sum
stand_first {e} d = record { divides = d; kept = rw (mul-zero e, zero-mod) }

-- the hours from i on hold what they held
pub record Untouched (old out : List ℕ) (i : ℕ) : Type 0 where
  pub same : (k : ℕ) → i ≤ k → at out k ≡ at old k

untouched_start : (old : List ℕ) → Untouched old old 0
untouched_start old = record { same = λ k b. refl }

untouched_next : {old out : List ℕ} {i : ℕ} (v : ℕ) → Untouched old out i → Untouched old (set out i v) (i + 1)
unfolding at
untouched_next {old} {out} {i} v u =
    record { same = λ k b. get_or-set_other out i k v 0 (λ e. omega arith) ∙ u.same k (omega arith) }

-- the figures of i hours of the run are added
pub record Adding (old : List ℕ) (e before whole : ℕ) (part : List ℕ) (skip divisor : ℕ) (out : List ℕ) (left i : ℕ) : Type 0 where
  pub standing : Standing e before whole (at part) divisor left (skip + i)
  pub filled : Filling (grown_from old e before whole (at part) skip) (length old) out i
  pub ahead : Untouched old out i

-- what lies before the run lies inside the whole
pub run_inside : {e before whole : ℕ} {part : List ℕ} {skip skipped lent : ℕ} → Part e before whole part skip skipped lent → before + skipped ≤ greatest_whole
run_inside {part = part} {skip = skip} p =
    let rises : sum skip (at part) ≤ sum (length part) (at part) = sum_rises (at part) (omega (arith, p.run)) in
    omega (arith, p.passed, p.spread.inside, p.spread.most)

module _ {old : List ℕ} {e before whole : ℕ} {part : List ℕ} {skip skipped : ℕ} (p : Part e before whole part skip skipped (length old)) where
  pub add_start : {divisor left : ℕ} → divisor ≡ max whole 1 → left ≡ e * (before + skipped) % divisor → Adding old e before whole part skip divisor old left 0
  add_start d k =
      record {
        standing = rw (add-zero skip) (stand_start p.passed d k);
        filled = fill_start _ refl;
        ahead = untouched_start old;
      }

  module _ {divisor : ℕ} {out : List ℕ} {left i : ℕ} (s : Adding old e before whole part skip divisor out left i) where
    module _ (b : i < length old) where
      pub in_part : skip + i < length part
      in_part = omega (arith, p.run, b)

      pub add_asks : Turning e (at part (skip + i)) left divisor
      add_asks = turn_asks p.spread s.standing in_part

      module _ {wh rest : ℕ} (t : Turned e (at part (skip + i)) left divisor wh rest) where
        grown : at out i + wh ≡ grown_from old e before whole (at part) skip i
        unfolding grown_from
        grown = omega (arith, s.ahead.same i (omega arith), turn_gives p.spread s.standing in_part t)

        pub add_fits : Room old e before whole (at part) skip → at out i + wh < 2 ^ 64
        unfolding Room
        add_fits room = rw grown (room i b)

        pub add_next : Adding old e before whole part skip divisor (set out i (at out i + wh)) rest (i + 1)
        add_next =
            record {
              standing = stand_next p.spread s.standing in_part t (omega arith);
              filled = fill_next s.filled b grown;
              ahead = untouched_next _ s.ahead;
            }

    pub add_end : length old ≤ i → out ≡ figures (length old) (grown_from old e before whole (at part) skip)
    add_end b = fill_end s.filled b
