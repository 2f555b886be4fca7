-- DEMAND 3 of the distribution service's list: each figure is the definition's.
use mathlib.Core.List.{List}
use mathlib.Core.Path.{◌≡◌, ◌∙◌, ap, ap₂}
use Prim.Native.Nat.{ℕ, ◌+◌, ◌*◌, ◌<◌}
use native.Mathlib.Nat.{add-zero, mul-le-mul_right, mul-add-div_right, mul-add-mod_self_right, div-eq_of_lt, mod-eq_of_lt}
use native.Mathlib.Omega.{arith}
use lib.IntN.{pos}
use lib.ListN.{length, get_or}
use Rattle.distribute.specs.Demand.{Demand3Of}
use Rattle.distribute.proofs.Demand.{demand_3_of}
use Rattle.rules.specs.Distributed.{distributed_figure}
use Rattle.rules.specs.Flows.{W}
use Rattle.rules.specs.Services.{distributed_at, distribution_figures}
use Rattle.rules.specs.Words.{at}
use Rattle.rules.proofs.Loops.{figures_at}

-- place t x parties + i of the service's list is party i's figure in hour t
pub in_the_list :
    (shares residuals : List ℕ) (t i : ℕ)
    → t < length residuals
    → i < length shares
    → get_or (distribution_figures shares residuals) (t * length shares + i) (pos 0)
    ≡ distributed_figure (length shares) (at shares) (at residuals) t i
unfolding distribution_figures distributed_at
in_the_list shares residuals t i b l =
    let some : 0 < length shares = omega arith in
    figures_at (length residuals * length shares) (distributed_at shares residuals) (t * length shares + i) (pos 0)
    (omega (arith, mul-le-mul_right (length shares) b))
    ∙ ap₂ (λ (h p : ℕ). distributed_figure (length shares) (at shares) (at residuals) h p)
    (mul-add-div_right some t i ∙ ap (λ (q : ℕ). t + q) (div-eq_of_lt l) ∙ add-zero t)
    (mul-add-mod_self_right t (length shares) i ∙ mod-eq_of_lt l)

-- DEMAND 3 OF THE DISTRIBUTION SERVICE: of the figures that it gives for shares with W from 1 up
pub service_meets_demand_3 :
    (shares residuals : List ℕ)
    → 0 < W (length shares) (at shares)
    → Demand3Of (λ t i. get_or (distribution_figures shares residuals) (t * length shares + i) (pos 0)) (length shares) (length residuals) (at shares) (at residuals)
service_meets_demand_3 shares residuals some =
    demand_3_of (λ t i. get_or (distribution_figures shares residuals) (t * length shares + i) (pos 0)) (length shares)
    (length residuals)
    (at shares)
    (at residuals)
    some
    (in_the_list shares residuals)
