-- "From flows to the curve" (01; H2 chapter 4 and 1.13).
use Rattle.std.specs.Prelude.{Bool, cond, ◌&&◌, ◌||◌, List, [], ◌∷◌, ℕ, zero, suc, ◌*◌, ◌/◌, eqb, leb, ℤ, pos, negsuc, nat_abs, ◌+ℤ◌, ◌-ℤ◌}
use Rattle.rules.specs.Limits.{estimated, greatest_flow, greatest_residual}
use Rattle.rules.specs.Refusals.{Refusal, missing_hour, residual_negative, residual_too_large, Verdict, accepted, refused}
use Rattle.rules.specs.Words.{sum, within_ℤ}

-- What is known of an hour: "Each hour has a status: 0 missing, 1 measured, 2 estimated.", and its flows in Wh.
pub record Flows : Type 0 where
  pub status : ℕ
  pub net : ℤ
  pub production : ℕ
  pub hourly : ℕ
  pub flex : ℕ

-- "Residual of an hour (H2 ch. 4) = net supply + local production - hourly settled - flex settled."
unfoldable pub residual : Flows → ℤ
residual f = f.net +ℤ pos f.production -ℤ pos f.hourly -ℤ pos f.flex

-- "With status 0 a figure other than 0 is refused with 4" ".. A figure of 0 with status 1 or 2 is a real zero."
unfoldable pub silent_is_zero : Flows → Bool
silent_is_zero f =
    leb 1 f.status
    || (eqb (nat_abs f.net) 0 && eqb f.production 0 && eqb f.hourly 0 && eqb f.flex 0)

-- "Net supply -8,000,000,000..8,000,000,000; other flows 0..8,000,000,000."
unfoldable pub flows_in_range : Flows → Bool
flows_in_range f =
    leb f.status estimated && within_ℤ greatest_flow f.net && leb f.production greatest_flow
    && leb f.hourly greatest_flow && leb f.flex greatest_flow

-- An hour has its figure, or the reason why it has none. "A missing hour is refused and is never taken for zero." (00)
pub data Judgement : Type 0 where
  figure : ℕ → Judgement
  no_figure : Refusal → Judgement

-- "each 7, 8, 9": a missing hour; a negative residual; one that is too large; else the figure.
unfoldable pub judged_by : ℕ → ℤ → Judgement
judged_by zero r = no_figure missing_hour
judged_by (suc status) (negsuc n) = no_figure residual_negative
judged_by (suc status) (pos n) = cond (leb n greatest_residual) (figure n) (no_figure residual_too_large)

unfoldable pub judged : Flows → Judgement
judged f = judged_by f.status (residual f)

-- the judgement as a check, at its hour
unfoldable pub verdict_of : Judgement → ℕ → Verdict
verdict_of (figure n) hour = accepted
verdict_of (no_figure r) hour = refused r hour

-- The figure of an hour that was judged to have one, in Wh. An accepted month asks it of no other hour (law `every_hour_has_its_figure`).
unfoldable pub residual_wh : Flows → ℕ
residual_wh f = nat_abs (residual f)

-- "W is the sum of all load shares of the month. Shares stay the same all month."
unfoldable pub W : ℕ → (ℕ → ℕ) → ℕ
W parties share = sum parties share

-- "Curve number of an hour (H2 1.13) = fixed residual x 1,000,000 / W, rounded down."
unfoldable pub curve_number : ℕ → ℕ → ℕ
curve_number fixed w = fixed * 1000000 / w

-- "The applied series is the refixed series if the file has one, otherwise the fixed series."
unfoldable pub applied_series : List Flows → List Flows → List Flows
applied_series fixed [] = fixed
applied_series fixed (r ∷ refixed) = r ∷ refixed
