-- The hours of five lists: what the ranges say of one hour, what its judgement says as a check, and that an hour that was judged has a figure of 32 bits.
use mathlib.Core.Bool.{Bool, true, false, ◌&&◌}
use mathlib.Core.List.{List, [], ◌∷◌}
use mathlib.Core.Path.{◌≡◌, refl, ◌∙◌, ap}
use Prim.Native.Nat.{ℕ, zero, suc, ◌≤◌, ◌<◌}
use native.Mathlib.Omega.{arith}
use borrow.Author.Tests.{leb-true, eqb-true}
use lib.Dec.{T, leb, eqb}
use lib.IntN.{ℤ, pos, negsuc, nat_abs}
use lib.ListN.{length}
use lib.Signed.{non_neg}
use mir.Syntax.{w32}
use mir.Val.{Fits}
use Rattle.answer.specs.Said.{said}
use Rattle.std.specs.Prelude.{Result, ⊤}
use Rattle.answer.specs.declared.Refused.{Refused}
use Rattle.rules.specs.Flows.{residual, silent_is_zero, judged, judged_by, verdict_of, residual_wh}
use Rattle.rules.specs.Limits.{missing, greatest_flow, greatest_residual}
use Rattle.rules.specs.Refusals.{out_of_range, accepted, first, in_turn}
use Rattle.rules.specs.Services.{at_ℤ, flows_of, silent_check, hour_check, residual_at, residual_checks}
use Rattle.rules.specs.Words.{at}
use Rattle.rules.proofs.Refusals.{refused_not_accepted, accepted_exactly, in_turn_exactly, unless_exactly}
use Rattle.rules.proofs.Whole.{within_size, both_pass}
use Rattle.residual.specs.declared.NoResidual.{NoResidual}
use Rattle.residual.specs.Hour.{judgement, flows_here}
use Rattle.answer.proofs.Checks.{grouped, past}
use Rattle.answer.proofs.Ranges.{each_at_most, each_passes}
use Rattle.residual_service.specs.Passes.{residual_here, WithinLimitsAt, residual_shape, ranges_of, SameLengths, Ranged, Judged}

-- what an accepted shape says of the lengths
module _ (statuses nets productions hourlies flexes lent : ℕ) (e : residual_shape statuses nets productions hourlies flexes lent ≡ accepted) where
  shape_tests : (eqb lent statuses ≡ true) × (eqb nets statuses && eqb productions statuses && eqb hourlies statuses && eqb flexes statuses ≡ true)
  unfolding residual_shape
  shape_tests =
      let all = (accepted_exactly _).0 e in
      ((unless_exactly _ _ _).0 all.0, (unless_exactly _ _ _).0 all.1.0)

  pub shape_lent : lent ≡ statuses
  shape_lent = eqb-true lent statuses shape_tests.0

  pub shape_same : (nets ≡ statuses) × (productions ≡ statuses) × (hourlies ≡ statuses) × (flexes ≡ statuses)
  shape_same =
      let t3 = both_pass (eqb nets statuses && eqb productions statuses && eqb hourlies statuses) (eqb flexes statuses) shape_tests.1 in
      let t2 = both_pass (eqb nets statuses && eqb productions statuses) (eqb hourlies statuses) t3.0 in
      let t1 = both_pass (eqb nets statuses) (eqb productions statuses) t2.0 in
      (eqb-true nets statuses t1.0, eqb-true productions statuses t1.1, eqb-true hourlies statuses t2.1, eqb-true flexes statuses t3.1)

-- a judgement that accepts has a figure
has_figure : (status : ℕ) (r : ℤ) (t : ℕ) → verdict_of (judged_by status r) t ≡ accepted → T (non_neg r) × (nat_abs r ≤ greatest_residual)
unfolding verdict_of judged_by
has_figure zero r t e = absurd (refused_not_accepted e)
has_figure (suc status) (negsuc n) t e = absurd (refused_not_accepted e)
has_figure (suc status) (pos n) t e = (tt, go (leb n greatest_residual) refl)
  where
    go : (b : Bool) → leb n greatest_residual ≡ b → n ≤ greatest_residual
    go true k = leb-true n greatest_residual k
    go false k = absurd (refused_not_accepted (rw k at e))

never : (r : ℤ) (t : ℕ) → verdict_of (judged_by missing r) t ≡ accepted → ⊥
unfolding verdict_of judged_by
never r t e = refused_not_accepted e

module _ (statuses : List ℕ) (nets : List ℤ) (productions hourlies flexes : List ℕ) where
  -- the checks of the service in the parts that the code goes through
  pub in_parts :
      (lent : ℕ) → first
      (residual_shape (length statuses) (length nets) (length productions) (length hourlies) (length flexes) lent
      ∷ ranges_of statuses nets productions hourlies flexes
      ∷ in_turn (length statuses) (silent_check statuses nets productions hourlies flexes)
      ∷ in_turn (length statuses) (hour_check statuses nets productions hourlies flexes)
      ∷ [])
      ≡ first (residual_checks statuses nets productions hourlies flexes lent)
  unfolding residual_checks residual_shape ranges_of
  in_parts lent = past _ _ _ (grouped (_ ∷ _ ∷ _ ∷ _ ∷ _ ∷ []) _) ∙ grouped (_ ∷ _ ∷ _ ∷ []) _

  pub shape_lengths :
      (lent : ℕ)
      → residual_shape (length statuses) (length nets) (length productions) (length hourlies) (length flexes) lent ≡ accepted
      → SameLengths statuses nets productions hourlies flexes
  shape_lengths lent e =
      let same = shape_same (length statuses) (length nets) (length productions) (length hourlies) (length flexes) lent e in
      record { nets_many = same.0; productions_many = same.1; hourlies_many = same.2; flexes_many = same.3 }

  pub within_limits : Ranged statuses nets productions hourlies flexes → (t : ℕ) → t < length statuses → WithinLimitsAt nets productions hourlies flexes t
  unfolding ranges_of
  within_limits h t b =
      let all = (accepted_exactly _).0 h.ranges in
      let same : SameLengths statuses nets productions hourlies flexes = h.lengths in
      record {
        of_nets = omega arith;
        of_productions = omega arith;
        of_hourlies = omega arith;
        of_flexes = omega arith;
        limits = record {
          net_within = within_size greatest_flow (at_ℤ nets t) (each_passes nets _ out_of_range all.1.0 t (omega arith));
          production_within = each_at_most productions greatest_flow out_of_range all.1.1.0 t (omega arith);
          hourly_within = each_at_most hourlies greatest_flow out_of_range all.1.1.1.0 t (omega arith);
          flex_within = each_at_most flexes greatest_flow out_of_range all.1.1.1.1.0 t (omega arith);
        };
      }

  -- one hour: what the code's test of a silent hour says
  pub silent_said :
      (t : ℕ) {net : ℤ} {b : Bool}
      → net ≡ at_ℤ nets t
      → b ≡ silent_is_zero (flows_here (at statuses t) net (at productions t) (at hourlies t) (at flexes t))
      → b ≡ silent_is_zero (flows_of statuses nets productions hourlies flexes t)
  unfolding flows_of
  silent_said t e s = s ∙ rw e

  -- one hour: what the code says of it is its check
  pub hour_said :
      (t : ℕ) {wh z : ℤ} (hour : Result ℕ NoResidual) (here : Result ⊤ Refused) → wh ≡ residual_here nets productions hourlies flexes t
      → z ≡ wh
      → judgement hour ≡ judged_by (at statuses t) z
      → said here ≡ verdict_of (judgement hour) t
      → said here ≡ hour_check statuses nets productions hourlies flexes t
  unfolding hour_check judged flows_of residual
  hour_said t hour here r e j s = s ∙ rw (j, e, r)

  -- an hour of lists that were judged: its residual is a figure of 32 bits
  pub judged_fits :
      Judged statuses nets productions hourlies flexes
      → (t : ℕ)
      → t < length statuses
      → T (non_neg (residual (flows_of statuses nets productions hourlies flexes t))) × Fits w32 (nat_abs (residual (flows_of statuses nets productions hourlies flexes t)))
  unfolding hour_check judged flows_of
  judged_fits h t b =
      let r = residual (flows_of statuses nets productions hourlies flexes t) in
      let f = has_figure (at statuses t) r t ((in_turn_exactly (length statuses) (hour_check statuses nets productions hourlies flexes)).0 h.hours t b) in
      (f.0, record { fits = omega (arith, f.1) })

  -- what the code writes for such an hour is its figure, and no other
  pub written_fits :
      Judged statuses nets productions hourlies flexes
      → (t : ℕ)
      → t < length statuses
      → {z : ℤ}
      → z ≡ residual_here nets productions hourlies flexes t
      → T (non_neg z) × Fits w32 (nat_abs z)
  unfolding flows_of residual
  written_fits h t b e = rw e (judged_fits h t b)

  pub written_is :
      (t : ℕ) {z : ℤ}
      → z ≡ residual_here nets productions hourlies flexes t
      → nat_abs z ≡ residual_at statuses nets productions hourlies flexes t
  unfolding residual_at residual_wh flows_of residual
  written_is t e = ap nat_abs e

  -- A MISSING HOUR IS NEVER A ZERO: where the service accepts, no hour has status 0
  pub no_missing_hour :
      (lent : ℕ)
      → first (residual_checks statuses nets productions hourlies flexes lent) ≡ accepted
      → (t : ℕ)
      → t < length statuses
      → at statuses t ≡ missing
      → ⊥
  unfolding residual_checks hour_check judged flows_of residual
  no_missing_hour lent e t b silent =
      let hours = ((accepted_exactly _).0 e).1.1.1.1.1.1.1.1.1.0 in
      never (residual (flows_of statuses nets productions hourlies flexes t)) t
      (rw silent at ((in_turn_exactly (length statuses) (hour_check statuses nets productions hourlies flexes)).0 hours t b))
