-- The number that an export answers tells refusal and place apart, and a refusal from an acceptance: what C reads back.
use mathlib.Core.Path.{◌≡◌}
use Prim.Native.Nat.{ℕ, ◌+◌, ◌*◌, ◌≤◌, ◌<◌, ◌%◌, ◌/◌}
use native.Mathlib.Omega.{arith}
use Rattle.rules.specs.Refusals.{Refusal, refused, number_of, file_fault, unknown_kind, out_of_order, out_of_range, gln_fault, w_out_of_range}
use Rattle.rules.specs.Refusals.{missing_hour, residual_negative, residual_too_large, curve_too_large, span_fault, energy_too_large, nothing_to_follow, periodised_too_large, wrong_count, wrong_length, not_refixed}
use Rattle.rules.specs.Refusals.{whole_exceeded, difference_too_large}
use Rattle.answer_code.specs.Coded.{greatest_place, number_at, coded}
use Rattle.answer_code.proofs.Told.{within_place}

number_small : (r : Refusal) → (0 < number_of r) × (number_of r < 256)
number_small file_fault = (omega arith, omega arith)
number_small unknown_kind = (omega arith, omega arith)
number_small out_of_order = (omega arith, omega arith)
number_small out_of_range = (omega arith, omega arith)
number_small gln_fault = (omega arith, omega arith)
number_small w_out_of_range = (omega arith, omega arith)
number_small missing_hour = (omega arith, omega arith)
number_small residual_negative = (omega arith, omega arith)
number_small residual_too_large = (omega arith, omega arith)
number_small curve_too_large = (omega arith, omega arith)
number_small span_fault = (omega arith, omega arith)
number_small energy_too_large = (omega arith, omega arith)
number_small nothing_to_follow = (omega arith, omega arith)
number_small periodised_too_large = (omega arith, omega arith)
number_small wrong_count = (omega arith, omega arith)
number_small wrong_length = (omega arith, omega arith)
number_small not_refixed = (omega arith, omega arith)
number_small whole_exceeded = (omega arith, omega arith)
number_small difference_too_large = (omega arith, omega arith)

-- the number is the answer's remainder by 256, the place its quotient, and a refusal is never 0
pub read_number : (r : Refusal) (place : ℕ) → place ≤ greatest_place → coded (refused r place) % 256 ≡ number_of r
unfolding coded
read_number r place h =
    let small : (0 < number_of r) × (number_of r < 256) = number_small r in
    let is : number_of r + 256 * place ≡ number_at (number_of r) place = within_place (number_of r) place h in
    omega (arith, small.1, is)

pub read_place : (r : Refusal) (place : ℕ) → place ≤ greatest_place → coded (refused r place) / 256 ≡ place
unfolding coded
read_place r place h =
    let small : (0 < number_of r) × (number_of r < 256) = number_small r in
    let is : number_of r + 256 * place ≡ number_at (number_of r) place = within_place (number_of r) place h in
    omega (arith, small.1, is)

pub never_0 : (r : Refusal) (place : ℕ) → place ≤ greatest_place → 0 < coded (refused r place)
unfolding coded
never_0 r place h =
    let small : (0 < number_of r) × (number_of r < 256) = number_small r in
    let is : number_of r + 256 * place ≡ number_at (number_of r) place = within_place (number_of r) place h in
    omega (arith, small.0, is)
