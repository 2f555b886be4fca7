-- The passes of the distribution service: together they are its checks, and what those that accept leave of shares, residuals and the lent list.
use mathlib.Core.Bool.{true, ◌&&◌}
use mathlib.Core.List.{List, [], ◌∷◌}
use mathlib.Core.Path.{◌≡◌, ◌∙◌}
use Prim.Native.Nat.{ℕ, ◌*◌, ◌≤◌}
use native.Mathlib.Nat.{mul_comm}
use borrow.Author.Tests.{eqb-true}
use lib.Dec.{eqb}
use lib.ListN.{length}
use Rattle.answer.proofs.Checks.{grouped}
use Rattle.answer.proofs.Ranges.{each_at_most}
use Rattle.distribute.specs.Good.{Startable}
use Rattle.distribute.specs.Shares.{w_verdict, FewShares}
use Rattle.distribute_service.specs.Service.{shape_verdict, Distributable}
use Rattle.rules.specs.Flows.{W}
use Rattle.rules.specs.Limits.{most_hours, most_parties, greatest_share, greatest_w, greatest_residual}
use Rattle.rules.specs.Refusals.{out_of_range, residual_too_large, accepted, first}
use Rattle.rules.specs.Services.{each_at, distribution_checks}
use Rattle.rules.specs.Words.{at, at_most, within}
use Rattle.rules.proofs.Refusals.{accepted_exactly, unless_exactly}
use Rattle.rules.proofs.Whole.{both_pass, within_is}

w_within : (shares : List ℕ) → w_verdict shares ≡ accepted → (1 ≤ W (length shares) (at shares)) × (W (length shares) (at shares) ≤ greatest_w)
unfolding w_verdict
w_within shares weighed = within_is 1 greatest_w (W (length shares) (at shares)) ((unless_exactly _ _ _).0 weighed)

module _ (shares residuals : List ℕ) (lent : ℕ) where
  -- the checks of the service in the parts that the code goes through
  pub in_parts :
      first
      (shape_verdict lent (length shares) (length residuals)
      ∷ each_at shares (at_most greatest_share) out_of_range
      ∷ w_verdict shares
      ∷ each_at residuals (at_most greatest_residual) residual_too_large
      ∷ [])
      ≡ first (distribution_checks shares residuals lent)
  unfolding distribution_checks shape_verdict w_verdict
  in_parts = grouped (_ ∷ _ ∷ []) _

  module _ (shaped : shape_verdict lent (length shares) (length residuals) ≡ accepted) where
    lent_right_holds : eqb lent (length shares * length residuals) ≡ true
    unfolding shape_verdict
    lent_right_holds = (unless_exactly _ _ _).0 ((accepted_exactly _).0 shaped).0

    ranges_right : within 1 most_hours (length residuals) && within 1 most_parties (length shares) ≡ true
    unfolding shape_verdict
    ranges_right = (unless_exactly _ _ _).0 ((accepted_exactly _).0 shaped).1.0

    hours_right : (1 ≤ length residuals) × (length residuals ≤ most_hours)
    hours_right = within_is 1 most_hours (length residuals) (both_pass _ (within 1 most_parties (length shares)) ranges_right).0

    parties_right : (1 ≤ length shares) × (length shares ≤ most_parties)
    parties_right = within_is 1 most_parties (length shares) (both_pass (within 1 most_hours (length residuals)) _ ranges_right).1

    pub few_shares : each_at shares (at_most greatest_share) out_of_range ≡ accepted → FewShares shares
    few_shares fitting = record { few = parties_right.1; fit = each_at_most shares greatest_share out_of_range fitting }

    pub distributable :
        w_verdict shares ≡ accepted
        → each_at residuals (at_most greatest_residual) residual_too_large ≡ accepted
        → Distributable shares residuals lent
    distributable weighed limited =
        record {
          startable = startable;
          some_parties = parties_right.0;
          few_hours = hours_right.1;
          residuals_fit = each_at_most residuals greatest_residual residual_too_large limited;
          size = eqb-true lent (length shares * length residuals) lent_right_holds ∙ mul_comm (length shares) (length residuals);
        }
      where
        w_right : (1 ≤ W (length shares) (at shares)) × (W (length shares) (at shares) ≤ greatest_w)
        w_right = w_within shares weighed

        startable : Startable shares
        startable = record { few = parties_right.1; some = w_right.0; w_fits = w_right.1 }
