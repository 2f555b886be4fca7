-- The service's order of refusals, test by test: each test that is passed leaves the checks that stand behind it.
use mathlib.Core.List.{List}
use mathlib.Core.Path.{◌≡◌, sym, ◌∙◌, ap}
use Prim.Native.Nat.{ℕ, ◌*◌, ◌≤◌, ◌<◌}
use native.Mathlib.Omega.{arith}
use borrow.Author.Tests.{eq-eqb, ne_eqb, le-leb, lt-leb, leb-true}
use lib.Dec.{leb}
use lib.ListN.{length}
use Rattle.std.specs.Prelude.{Result, Ok, Err, ⊤}
use Rattle.answer.specs.Said.{said, verdict_of}
use Rattle.answer.specs.declared.Refused.{Refused}
use Rattle.rules.specs.Limits.{greatest_curve_number, greatest_energy, most_weights}
use Rattle.rules.specs.Refusals.{curve_too_large, span_fault, energy_too_large, wrong_length, Verdict, accepted, refused, unless, and_then, first}
use Rattle.rules.specs.Periodised.{periodised_figure}
use Rattle.rules.specs.Refusals as R
use Rattle.rules.specs.Services.{periodisation_checks, periodisation_figures, each_at, check_at}
use Rattle.rules.specs.Words.{sum, at, figures, within, at_most}
use Rattle.answer.proofs.Checks.{refused_stops, done_passes}
use Rattle.periodise.specs.Growth.{Within}
use Rattle.periodise_service.specs.Follow.{follow_check}
use Rattle.rules.proofs.Refusals.{in_turn_exactly, unless_exactly}
use Rattle.rules.proofs.Sums.{sum_at_most}

-- the weights of a list in which none is refused add up to at most so much
weights_at_most : (l : List ℕ) (most : ℕ) (r : R.Refusal) → each_at l (at_most most) r ≡ accepted → sum (length l) (at l) ≤ length l * most
unfolding each_at check_at at_most
weights_at_most l most r h = sum_at_most (length l) (at l) most each
  where
    each : (i : ℕ) → i < length l → at l i ≤ most
    each i b =
        leb-true (at l i) most
        ((unless_exactly (leb (at l i) most) r i).0 ((in_turn_exactly (length l) (check_at l (at_most most) r)).0 h i b))

module _ (e : ℕ) (weights : List ℕ) (lent : ℕ) where
  pub lent_wrong : (lent ≡ length weights → ⊥) → refused wrong_length 0 ≡ first (periodisation_checks e weights lent)
  unfolding periodisation_checks first and_then unless
  lent_wrong h = simp ne_eqb

  module _ (as_long : lent ≡ length weights) where
    pub no_hours : length weights < 1 → refused span_fault 0 ≡ first (periodisation_checks e weights lent)
    unfolding periodisation_checks first and_then unless within
    no_hours h = simp (eq-eqb, lt-leb)

    module _ (some : 1 ≤ length weights) where
      pub too_many_hours : most_weights < length weights → refused span_fault 0 ≡ first (periodisation_checks e weights lent)
      unfolding periodisation_checks first and_then unless within
      too_many_hours h = simp (eq-eqb, le-leb, lt-leb)

      module _ (few : length weights ≤ most_weights) where
        pub energy_wrong : greatest_energy < e → refused energy_too_large 0 ≡ first (periodisation_checks e weights lent)
        unfolding periodisation_checks first and_then unless within
        energy_wrong h =
            simp (eq-eqb, le-leb, lt-leb)

-- E and the lengths are in order
pub record Shaped (e : ℕ) (weights : List ℕ) (lent : ℕ) : Type 0 where
  pub as_long : lent ≡ length weights
  pub some : 1 ≤ length weights
  pub few : length weights ≤ most_weights
  pub fits : e ≤ greatest_energy

-- each weight is within its limit
abbrev each_checked : List ℕ → Verdict
each_checked weights = each_at weights (at_most greatest_curve_number) curve_too_large

module _ {e : ℕ} {weights : List ℕ} {lent : ℕ} (shape : Shaped e weights lent) where
  -- what is left: each weight, and then that there is something to follow
  weights_next : first (periodisation_checks e weights lent) ≡ and_then (each_checked weights) (and_then (follow_check e (sum (length weights) (at weights))) accepted)
  unfolding periodisation_checks first and_then unless within follow_check
  weights_next =
      simp
      (eq-eqb lent (length weights) shape.as_long, le-leb 1 (length weights) shape.some, le-leb (length weights) most_weights shape.few, le-leb e greatest_energy shape.fits)

  pub weights_stop : {each : Result ⊤ Refused} {r : Refused} → said each ≡ each_checked weights → each ≡ Err r → verdict_of r ≡ first (periodisation_checks e weights lent)
  weights_stop judged h = sym (ap said h) ∙ refused_stops judged h _ ∙ sym weights_next

-- and the weights, which add up to s
pub record Summed (e : ℕ) (weights : List ℕ) (lent s : ℕ) : Type 0 where
  pub shape : Shaped e weights lent
  pub each : each_checked weights ≡ accepted
  pub total : s ≡ sum (length weights) (at weights)

module _ {e : ℕ} {weights : List ℕ} {lent s : ℕ} (k : Summed e weights lent s) where
  follow_next : first (periodisation_checks e weights lent) ≡ and_then (follow_check e s) accepted
  unfolding and_then
  follow_next =
      weights_next k.shape
      ∙ ap (λ (v : Verdict). and_then v (and_then (follow_check e (sum (length weights) (at weights))) accepted)) k.each
      ∙ ap (λ (x : ℕ). and_then (follow_check e x) accepted) (sym k.total)

  module _ {follow : Result ⊤ Refused} (follows : said follow ≡ follow_check e s) where
    pub follow_stop : {r : Refused} → follow ≡ Err r → verdict_of r ≡ first (periodisation_checks e weights lent)
    follow_stop h = sym (ap said h) ∙ refused_stops follows h _ ∙ sym follow_next

    pub all_pass : follow ≡ Ok tt → accepted ≡ first (periodisation_checks e weights lent)
    all_pass h = sym (follow_next ∙ done_passes follows h _)

  -- what the core asks
  pub core_asks : Within e 0 s (at weights) (length weights)
  core_asks =
      record {
        energy = k.shape.fits;
        inside = omega (arith, k.total);
        most = omega (arith, k.total, k.shape.few, weights_at_most weights greatest_curve_number curve_too_large k.each);
      }

  -- what it gives is the service's figures
  pub core_gives : {out : List ℕ} → out ≡ figures (length weights) (periodised_figure e 0 s (at weights)) → out ≡ periodisation_figures e weights
  unfolding periodisation_figures
  core_gives g =
      g ∙ ap (λ (x : ℕ). figures (length weights) (periodised_figure e 0 x (at weights))) k.total
