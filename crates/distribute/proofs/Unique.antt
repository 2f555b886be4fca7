-- No second result fits what the crate promises.
use mathlib.Core.List.{List}
use mathlib.Core.Path.{◌≡◌, sym, ◌∙◌, ap, ap₂, subst}
use Prim.Native.Nat.{ℕ}
use lib.IntN.{pos}
use lib.ListN.{length}
use Rattle.distribute.specs.declared.Carries.{Carries}
use Rattle.apportion.specs.Filled.{Filled}
use Rattle.distribute.specs.Good.{Good, Started, Next, share_in, extra_after, figure_after}
use Rattle.apportion.proofs.Arrays.{filled_once}
use Rattle.rules.specs.Distributed.{remainder, left_over}
use Rattle.rules.specs.Flows.{W}
use Rattle.rules.specs.Words.{at}

-- two states of the same shares after the same residuals, with the same figures, are one
same_state :
    (d e : Carries)
    → Good d
    → Good e
    → d.parties ≡ e.parties
    → d.share ≡ e.share
    → d.sum_wh ≡ e.sum_wh
    → d.figures ≡ e.figures
    → d ≡ e
same_state d e g h parties share sum figures =
    λ i. record { parties = parties i; w = w i; sum_wh = sum i; left = left i; share = share i; remainder = remainders i; extra = extras i; figures = figures i }
  where
    w : d.w ≡ e.w
    w = g.w_is ∙ ap₂ (λ (n : ℕ) (s : List ℕ). W n (at s)) parties share ∙ sym h.w_is

    left : d.left ≡ e.left
    left =
        g.left
        ∙ ap₂ (λ (n : ℕ) (s : List ℕ). left_over n (at s) d.sum_wh) parties share
        ∙ ap (λ (r : ℕ). left_over e.parties (at e.share) r) sum
        ∙ sym h.left

    remainders : d.remainder ≡ e.remainder
    remainders =
        filled_once 0 (remainder e.parties (at e.share) e.sum_wh) e.parties d.remainder e.remainder
        (subst (λ (r : ℕ). Filled 0 (remainder e.parties (at e.share) r) e.parties d.remainder) sum
        (subst (λ (s : List ℕ). Filled 0 (remainder e.parties (at s) d.sum_wh) e.parties d.remainder) share
        (subst (λ (n : ℕ). Filled 0 (remainder n (at d.share) d.sum_wh) n d.remainder) parties g.remainders)))
        h.remainders

    extras : d.extra ≡ e.extra
    extras =
        filled_once 0 (extra_after e.parties (at e.share) e.sum_wh) e.parties d.extra e.extra
        (subst (λ (r : ℕ). Filled 0 (extra_after e.parties (at e.share) r) e.parties d.extra) sum
        (subst (λ (s : List ℕ). Filled 0 (extra_after e.parties (at s) d.sum_wh) e.parties d.extra) share
        (subst (λ (n : ℕ). Filled 0 (extra_after n (at d.share) d.sum_wh) n d.extra) parties g.extras)))
        h.extras

-- `Carries::step`
pub step_unique : (c : Carries) (residual : ℕ) (d e : Carries) → Next c residual d → Next c residual e → d ≡ e
step_unique c residual d e p q =
    same_state d e p.good q.good (p.parties ∙ sym q.parties) (p.share ∙ sym q.share) (p.sum ∙ sym q.sum)
    (filled_once (pos 0) (figure_after c.parties (share_in c) c.sum_wh residual) c.parties d.figures e.figures
    p.figures q.figures)

-- `Carries::start`
pub start_unique : (shares : List ℕ) (d e : Carries) → Started shares d → Started shares e → d ≡ e
start_unique shares d e p q =
    same_state d e p.good q.good (p.parties ∙ sym q.parties)
    (filled_once 0 (at shares) (length shares) d.share e.share p.share q.share)
    (p.sum ∙ sym q.sum)
    (filled_once (pos 0) (λ k. pos 0) (length shares) d.figures e.figures p.figures q.figures)
