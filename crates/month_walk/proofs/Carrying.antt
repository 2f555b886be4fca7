-- The carries handed on by an hour of the month. "The carry is handed on from hour to hour."
use mathlib.Core.List.{List}
use mathlib.Core.Path.{◌≡◌, sym, ◌∙◌, ap₂, subst}
use Prim.Native.Nat.{ℕ, ◌+◌, ◌<◌}
use native.Mathlib.Numerals.{add-one}
use native.Mathlib.Omega.{arith}
use lib.IntN.{pos, ◌-ℤ◌}
use lib.ListN.{length}
use Rattle.apportion.specs.Filled.{Filled}
use Rattle.distribute.specs.Good.{Started, Ready, Next, share_in, figure_after}
use Rattle.distribute.specs.declared.Carries.{Carries}
use Rattle.apportion.proofs.Arrays.{filled_as}
use Rattle.distribute.proofs.Running.{running_same}
use Rattle.month_walk.specs.Hours.{DistributedIs, Carried}
use Rattle.month_walk.proofs.Bounds.{few_hours, sums_fit_ℕ}
use Rattle.rules.specs.Distributed.{running_after, distributed_figure}
use Rattle.rules.specs.Month.{share_of, applied_wh, distributed}
use Rattle.rules.specs.MonthFile.{MonthFile, H, P}
use Rattle.rules.specs.Words.{sum, at, figures}
use Rattle.rules.proofs.Loops.{figures_length, figures_at}
use Rattle.rules.proofs.Month.{Judged, applied_in_range}

-- before the first hour
module _ (m : MonthFile) {c : Carries} (started : Started (figures (P m) (share_of m)) c) where
  shares_many : length (figures (P m) (share_of m)) ≡ P m
  shares_many = figures_length (P m) (share_of m)

  pub carried_start : Carried m 0 c
  unfolding sum at
  carried_start =
      record {
        good = started.good;
        parties = started.parties ∙ shares_many;
        share =
            filled_as (subst (λ (n : ℕ). Filled 0 (at (figures (P m) (share_of m))) n c.share) shares_many started.share)
            (λ k b. figures_at (P m) (share_of m) k 0 b);
        residuals = started.sum;
      }

-- one hour
module _ (m : MonthFile) (j : Judged m) {t : ℕ} (b : t < H m) {c : Carries} (a : Carried m t c) {residual : ℕ} (is : residual ≡ applied_wh m t) where
  pub ready : Ready c residual
  ready =
      record {
        good = a.good;
        at_most = omega (arith, is, applied_in_range m j t b);
        sum_fits =
            omega (
              arith,
              a.residuals,
              sums_fit_ℕ t (applied_wh m) (λ u l. applied_in_range m j u (omega arith)),
              is,
              applied_in_range m j t b,
              few_hours m j,
            );
      }

  module _ {d : Carries} (next : Next c residual d) where
    same_share : (i : ℕ) → i < P m → at c.share i ≡ share_of m i
    unfolding at
    same_share i l = a.share.below i l

    figure_is : (i : ℕ) → i < P m → figure_after c.parties (share_in c) c.sum_wh residual i ≡ distributed m t i
    unfolding figure_after distributed distributed_figure running_after sum
    figure_is i l =
        rw (a.parties, a.residuals, is)
        (ap₂ (λ (y z : ℕ). pos y -ℤ pos z)
        (running_same (P m) (at c.share) (share_of m) same_share (sum t (applied_wh m) + applied_wh m t) i l)
        (running_same (P m) (at c.share) (share_of m) same_share (sum t (applied_wh m)) i l))

    pub figures_are : DistributedIs m t d.figures
    figures_are =
        filled_as
        (subst (λ (n : ℕ). Filled (pos 0) (figure_after c.parties (share_in c) c.sum_wh residual) n d.figures) a.parties next.figures)
        figure_is

    pub carried_next : Carried m (t + 1) d
    unfolding sum
    carried_next =
        record {
          good = next.good;
          parties = next.parties ∙ a.parties;
          share = subst (λ (l : List ℕ). Filled 0 (share_of m) (P m) l) (sym next.share) a.share;
          residuals = rw (add-one t) (next.sum ∙ ap₂ (λ (y z : ℕ). y + z) a.residuals is);
        }
