-- DEMAND 3 of what the code gives: of a table whose figures are the definition's, of which demand 3 is proved, and so of a run of the carries' method.
use mathlib.Core.List.{List}
use mathlib.Core.Path.{◌≡◌, refl, sym, ◌∙◌, ap, ap₂}
use Prim.Native.Nat.{ℕ, zero, suc, ◌+◌, ◌≤◌, ◌<◌}
use native.Mathlib.Nat.{zero-add, le_of_lt}
use native.Mathlib.Omega.{arith}
use lib.IntN.{ℤ, pos, ◌-ℤ◌}
use lib.ListN.{length, get_or}
use Rattle.distribute.specs.declared.Carries.{Carries}
use Rattle.distribute.specs.Demand.{Demand3Of}
use Rattle.distribute.specs.Good.{Started, Next, share_in, figure_after}
use Rattle.distribute.proofs.Running.{running_same}
use Rattle.rules.specs.Demands.{sum_over, sum_since_first, Demand3}
use Rattle.rules.specs.Distributed.{running_after, distributed_figure}
use Rattle.rules.specs.Flows.{W}
use Rattle.rules.specs.Words.{sum, sum_ℤ, at}
use Rattle.rules.proofs.Demand3.{demand_3}
use Rattle.rules.proofs.Integers.{sum_ℤ_cong}

-- a table whose figures are the definition's
module _ (figure : ℕ → ℕ → ℤ) (parties hours : ℕ) (share residual : ℕ → ℕ) (some : 0 < W parties share)
    (same : (t i : ℕ) → t < hours → i < parties → figure t i ≡ distributed_figure parties share residual t i) where
  demand : Demand3 parties share residual
  demand = demand_3 parties share some residual

  since_first : (t i : ℕ) → t ≤ hours → i < parties → sum_ℤ t (λ u. figure u i) ≡ sum_since_first parties share residual t i
  unfolding sum_since_first sum_over
  since_first t i b l =
      sum_ℤ_cong t
      (λ u c. same u i (omega arith) l ∙ ap (λ (k : ℕ). distributed_figure parties share residual k i) (sym (zero-add u)))

  over : (start run i : ℕ) → start + run ≤ hours → i < parties → sum_ℤ run (λ u. figure (start + u) i) ≡ sum_over parties share residual start run i
  unfolding sum_over
  over start run i b l = sum_ℤ_cong run (λ u c. same (start + u) i (omega arith) l)

  pub demand_3_of : Demand3Of figure parties hours share residual
  demand_3_of =
      record {
        adds_up_holds = λ t b. sum_ℤ_cong parties (λ i l. same t i b l) ∙ demand.adds_up_holds t;
        rounded = λ t i b l. rw (since_first t i b l) (demand.rounded t i);
        near = λ start run i b l. rw (over start run i b l) (demand.near start run i);
        larger = λ t i j b l l' s. rw (since_first t j b l', since_first t i b l) (demand.larger t i j s);
      }

-- A run of the carries' method from the start of a span: state t after the first t residuals.
module _ (shares : List ℕ) (residual : ℕ → ℕ) (hours : ℕ) (state : ℕ → Carries) (first : Started shares (state 0))
    (steps : (t : ℕ) → t < hours → Next (state t) (residual t) (state (suc t))) where
  kept : (t : ℕ) → t ≤ hours → ((state t).parties ≡ length shares) × ((state t).share ≡ (state 0).share) × ((state t).sum_wh ≡ sum t residual)
  unfolding sum
  kept zero b = (first.parties, refl, first.sum)
  kept (suc t) b =
      let before = kept t (omega arith) in
      let next = steps t b in
      (next.parties ∙ before.0, next.share ∙ before.1, next.sum ∙ ap (λ (x : ℕ). x + residual t) before.2)

  same_share : (t : ℕ) → t ≤ hours → (k : ℕ) → k < length shares → at (state t).share k ≡ at shares k
  unfolding at
  same_share t b k l = ap (λ (s : List ℕ). get_or s k 0) (kept t b).1 ∙ first.share.below k l

  run_figure : (t i : ℕ) → t < hours → i < length shares → get_or (state (suc t)).figures i (pos 0) ≡ distributed_figure (length shares) (at shares) residual t i
  unfolding figure_after distributed_figure running_after sum
  run_figure t i b l =
      let before = kept t (le_of_lt b) in
      (steps t b).figures.below i (omega (arith, before.0))
      ∙ ap₂ (λ (n r : ℕ). figure_after n (share_in (state t)) r (residual t) i) before.0 before.2
      ∙ ap₂ (λ (x y : ℕ). pos x -ℤ pos y)
      (running_same (length shares) (at (state t).share) (at shares) (same_share t (le_of_lt b)) (sum t residual + residual t) i l)
      (running_same (length shares) (at (state t).share) (at shares) (same_share t (le_of_lt b)) (sum t residual) i l)

  -- DEMAND 3 OF THE CARRIES
  pub run_meets_demand_3 :
      0 < W (length shares) (at shares)
      → Demand3Of (λ t i. get_or (state (suc t)).figures i (pos 0)) (length shares) hours (at shares) residual
  run_meets_demand_3 some =
      demand_3_of (λ t i. get_or (state (suc t)).figures i (pos 0)) (length shares) hours (at shares) residual some run_figure
