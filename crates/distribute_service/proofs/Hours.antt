-- The hours of a distribution one after the other: the list is filled hour by hour.
use mathlib.Core.List.{List}
use mathlib.Core.Path.{◌≡◌, sym, ◌∙◌, ap, ap₂, subst}
use Prim.Native.Nat.{ℕ, zero, suc, ◌+◌, ◌*◌, ◌/◌, ◌%◌, ◌≤◌, ◌<◌, zero-le}
use native.Mathlib.Nat.{add-zero, zero-mul, le_antisymm, mul-le-mul, mul-le-mul_right, mul-add-div_right, mul-add-mod_self_right, div-eq_of_lt, mod-eq_of_lt}
use native.Mathlib.Numerals.{add-one}
use native.Mathlib.Omega.{arith}
use lib.IntN.{ℤ, pos, ◌-ℤ◌}
use lib.ListN.{length, get_or}
use Rattle.distribute.specs.declared.Carries.{Carries}
use Rattle.apportion.specs.Filled.{Filled}
use Rattle.distribute.specs.Good.{Good, Started, Ready, Next, share_in, figure_after}
use Rattle.distribute.proofs.Running.{running_same}
use Rattle.distribute.specs.Written.{FilledOn}
use Rattle.distribute_service.specs.Service.{Distributable}
use Rattle.rules.specs.Distributed.{running_after, distributed_figure}
use Rattle.rules.specs.Limits.{greatest_residual}
use Rattle.rules.specs.Services.{distributed_at, distribution_figures}
use Rattle.rules.specs.Words.{sum, at}
use Rattle.rules.proofs.Loops.{Filling, fill_start, fill_end}

-- The loop over the hours: after t of them the list holds their figures, and the carries are those of their residuals.
pub record Distributing (shares residuals : List ℕ) (lent : List ℤ) (c : Carries) (place t : ℕ) : Type 0 where
  pub bound : t ≤ length residuals
  pub place_is : place ≡ t * length shares
  pub good : Good c
  pub parties : c.parties ≡ length shares
  pub share : Filled 0 (at shares) (length shares) c.share
  pub sum_is : c.sum_wh ≡ sum t (at residuals)
  pub filling : Filling (distributed_at shares residuals) (length residuals * length shares) lent place

module _ (shares residuals : List ℕ) (size : ℕ) (asked : Distributable shares residuals size) where
  pub hours_start : {lent : List ℤ} {c : Carries} → length lent ≡ size → Started shares c → Distributing shares residuals lent c 0 0
  unfolding sum
  hours_start {lent} {c} e started =
      record {
        bound = zero-le;
        place_is = sym (zero-mul (length shares));
        good = started.good;
        parties = started.parties;
        share = started.share;
        sum_is = started.sum;
        filling = fill_start (distributed_at shares residuals) (e ∙ asked.size);
      }

  -- the residuals so far are few enough to be added up
  sum_bound : (t : ℕ) → t ≤ length residuals → sum t (at residuals) ≤ t * greatest_residual
  unfolding sum
  sum_bound zero b = omega arith
  sum_bound (suc t) b = omega (arith, sum_bound t (omega arith), asked.residuals_fit t b)

  module _ {lent : List ℤ} {c : Carries} {place t : ℕ} (d : Distributing shares residuals lent c place t) (b : t < length residuals) where
    pub ready : Ready c (get_or residuals t 0)
    unfolding at
    ready =
        record {
          good = d.good;
          at_most = asked.residuals_fit t b;
          sum_fits = omega (arith, d.sum_is, sum_bound t d.bound, asked.residuals_fit t b, asked.few_hours);
        }

    room : t * length shares + length shares ≤ length residuals * length shares
    room = omega (arith, mul-le-mul_right (length shares) b)

    pub place_fits : place + length shares ≤ length lent
    place_fits = omega (arith, d.place_is, d.filling.size, room)

    pub place_small : place + length shares < 18446744073709551616
    place_small =
        omega (arith, d.place_is, room, mul-le-mul asked.few_hours asked.startable.few)

    same_share : (k : ℕ) → k < length shares → at c.share k ≡ at shares k
    unfolding at
    same_share k l = d.share.below k l

    -- place t x n + i is hour t, party i
    at_place : (i : ℕ) → i < length shares → distributed_at shares residuals (place + i) ≡ distributed_figure (length shares) (at shares) (at residuals) t i
    unfolding distributed_at
    at_place i l =
        let some : 0 < length shares = omega arith in
        let there : place + i ≡ t * length shares + i = omega (arith, d.place_is) in
        let hour : (t * length shares + i) / length shares ≡ t = mul-add-div_right some t i ∙ ap (λ (q : ℕ). t + q) (div-eq_of_lt l) ∙ add-zero t in
        let party : (t * length shares + i) % length shares ≡ i = mul-add-mod_self_right t (length shares) i ∙ mod-eq_of_lt l in
        ap₂ (λ (h p : ℕ). distributed_figure (length shares) (at shares) (at residuals) h p)
        (ap (λ (x : ℕ). x / length shares) there ∙ hour)
        (ap (λ (x : ℕ). x % length shares) there ∙ party)

    figure_there : (i : ℕ) → i < length shares → figure_after c.parties (share_in c) c.sum_wh (at residuals t) i ≡ distributed_at shares residuals (place + i)
    unfolding figure_after distributed_figure running_after sum
    figure_there i l =
        rw (d.parties, d.sum_is)
        (ap₂ (λ (x y : ℕ). pos x -ℤ pos y)
        (running_same (length shares) (at c.share) (at shares) same_share (sum t (at residuals) + at residuals t) i l)
        (running_same (length shares) (at c.share) (at shares) same_share (sum t (at residuals)) i l)
        ∙ sym (at_place i l))

    pub hours_next :
        {e : Carries} {lent' : List ℤ}
        → Next c (get_or residuals t 0) e
        → FilledOn (pos 0) e.figures (length shares) place lent lent'
        → Distributing shares residuals lent' e (place + length shares) (t + 1)
    unfolding sum at
    hours_next {e} {lent'} next on =
        record {
          bound = omega arith;
          place_is = omega (arith, d.place_is);
          good = next.good;
          parties = next.parties ∙ d.parties;
          share = subst (λ (l : List ℕ). Filled 0 (at shares) (length shares) l) (sym next.share) d.share;
          sum_is = rw (add-one t) (next.sum ∙ ap (λ (x : ℕ). x + get_or residuals t 0) d.sum_is);
          filling = on _ _ d.filling (omega (arith, d.place_is, room)) there;
        }
      where
        there : (i : ℕ) → i < length shares → get_or e.figures i (pos 0) ≡ distributed_at shares residuals (place + i)
        there i l = next.figures.below i (omega (arith, d.parties)) ∙ figure_there i l

  pub hours_end :
      {lent : List ℤ} {c : Carries} {place t : ℕ}
      → Distributing shares residuals lent c place t
      → length residuals ≤ t
      → lent ≡ distribution_figures shares residuals
  unfolding distribution_figures
  hours_end {lent} {c} {place} {t} d b =
      let all : t ≡ length residuals = le_antisymm d.bound b in
      fill_end d.filling (omega (arith, d.place_is, ap (λ (h : ℕ). h * length shares) all))
