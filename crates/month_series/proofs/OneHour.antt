-- One hour of a file's series: flows within their ranges give a residual, and what the code decides of it is what the rules judge.
use mathlib.Core.Bool.{Bool, true, false, cond, ◌&&◌}
use mathlib.Core.Path.{◌≡◌, ◌∙◌}
use Prim.Native.Nat.{ℕ, zero, suc}
use native.Mathlib.Omega.{arith}
use borrow.Author.Tests.{leb-true}
use lib.Dec.{leb}
use lib.IntN.{ℤ, pos, negsuc, nat_abs}
use Rattle.std.specs.Prelude.{Result}
use Rattle.residual.specs.Hour.{judgement, flows_here, WithinLimits}
use Rattle.residual.specs.declared.NoResidual.{NoResidual}
use Rattle.rules.specs.Flows.{Flows, figure, no_figure, residual, flows_in_range, judged, judged_by, residual_wh}
use Rattle.rules.specs.Limits.{estimated, greatest_flow, greatest_residual}
use Rattle.rules.specs.Refusals.{Refusal, residual_too_large}
use Rattle.rules.specs.Words.{within_ℤ}
use Rattle.rules.proofs.Whole.{both_pass, within_size}

module _ (f : Flows) where
  -- the tests of the flows' ranges, up to the net supply, the production and the hourly settled
  abbrev net : Bool
  net = leb f.status estimated && within_ℤ greatest_flow f.net

  abbrev production : Bool
  production = net && leb f.production greatest_flow

  abbrev hourly : Bool
  hourly = production && leb f.hourly greatest_flow

  pub flows_within : flows_in_range f ≡ true → WithinLimits f.net f.production f.hourly f.flex
  unfolding flows_in_range
  flows_within e =
      let all = both_pass hourly (leb f.flex greatest_flow) e in
      let to-hourly = both_pass production (leb f.hourly greatest_flow) all.0 in
      let to-production = both_pass net (leb f.production greatest_flow) to-hourly.0 in
      let to-net = both_pass (leb f.status estimated) (within_ℤ greatest_flow f.net) to-production.0 in
      record {
        net_within = within_size greatest_flow f.net to-net.1;
        production_within = leb-true f.production greatest_flow to-production.1;
        hourly_within = leb-true f.hourly greatest_flow to-hourly.1;
        flex_within = leb-true f.flex greatest_flow all.1;
      }

-- the machine's numbers are the net supply and the residual, which the status has no part in
module _ (f : Flows) (hour : Result ℕ NoResidual) {net wh z : ℤ} (n : net ≡ f.net) (r : wh ≡ residual (flows_here 0 net f.production f.hourly f.flex)) where
  pub judged_is : z ≡ wh → judgement hour ≡ judged_by f.status z → judgement hour ≡ judged f
  unfolding judged residual
  judged_is e j = j ∙ rw (e, r, n)

-- a figure that an hour is judged to have is its residual
no_figure_lem : {r : Refusal} {n : ℕ} → figure n ≡ no_figure r → ⊥
no_figure_lem e = let z : ◌≡◌ {A = ℕ} 0 1 = cc in omega arith

figure_by_lem : (status : ℕ) (r : ℤ) {wh : ℕ} → figure wh ≡ judged_by status r → wh ≡ nat_abs r
unfolding judged_by
figure_by_lem zero r e = absurd (no_figure_lem e)
figure_by_lem (suc status) (negsuc n) e = absurd (no_figure_lem e)
figure_by_lem (suc status) (pos n) {wh} e = go (leb n greatest_residual) e
  where
    go : (b : Bool) → figure wh ≡ cond b (figure n) (no_figure residual_too_large) → wh ≡ n
    go true e = cc
    go false e = absurd (no_figure_lem e)

pub figure_is : (f : Flows) {wh : ℕ} → figure wh ≡ judged f → wh ≡ residual_wh f
unfolding judged residual_wh
figure_is f e = figure_by_lem f.status (residual f) e
