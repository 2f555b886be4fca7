-- What the code decides of one hour in the words of the rules: for each case the paper's figure or its refusal ("each 7, 8, 9").
use Rattle.std.specs.Prelude.{ℕ, ◌≤◌, ℤ, nat_abs, Result, Ok, Err}
use Rattle.residual.specs.declared.NoResidual.{NoResidual}
use Rattle.residual.specs.declared.NoResidual.TheVariants.{Missing, Negative, TooLarge}
use Rattle.rules.specs.Flows.{Flows, Judgement, figure, no_figure}
use Rattle.rules.specs.Limits.{greatest_flow}
use Rattle.rules.specs.Refusals.{Refusal, missing_hour, residual_negative, residual_too_large}

abbrev pub refusal_of : NoResidual → Refusal
refusal_of Missing = missing_hour
refusal_of Negative = residual_negative
refusal_of TooLarge = residual_too_large

abbrev pub judgement : Result ℕ NoResidual → Judgement
judgement (Ok wh) = figure wh
judgement (Err why) = no_figure (refusal_of why)

-- the flows of one hour, field by field
abbrev pub flows_here : ℕ → ℤ → ℕ → ℕ → ℕ → Flows
flows_here status net production hourly flex =
    record { status = status; net = net; production = production; hourly = hourly; flex = flex }

-- "Net supply -8,000,000,000..8,000,000,000; other flows 0..8,000,000,000."
pub record WithinLimits (net : ℤ) (production hourly flex : ℕ) : Type 0 where
  pub net_within : nat_abs net ≤ greatest_flow
  pub production_within : production ≤ greatest_flow
  pub hourly_within : hourly ≤ greatest_flow
  pub flex_within : flex ≤ greatest_flow
