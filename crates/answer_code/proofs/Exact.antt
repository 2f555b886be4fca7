-- No service refuses past place 8,783, so an export's answer is number + 256 x place whatever it is given: every check of a list's values stands behind the
-- check of the lists' lengths.
use mathlib.Core.Bool.{Bool, true, false, ◌&&◌}
use mathlib.Core.List.{List, [], ◌∷◌, ◌++◌}
use mathlib.Core.Path.{◌≡◌, refl, sym}
use Prim.Native.Nat.{ℕ, zero, suc, ◌+◌, ◌*◌, ◌≤◌, ◌<◌}
use native.Mathlib.Omega.{arith}
use borrow.Author.Tests.{eqb-true}
use lib.Dec.{eqb}
use lib.IntN.{ℤ}
use lib.ListN.{length}
use Rattle.rules.proofs.Refusals.{unless_exactly}
use Rattle.rules.proofs.Whole.{both_pass, within_is}
use Rattle.rules.specs.Flows.{Judgement, figure, no_figure, judged, verdict_of}
use Rattle.rules.specs.Limits.{most_hours, most_parties, most_weights}
use Rattle.rules.specs.Plan.{LongReading, month_count, hours_verdict, party_verdict, part_verdict, weight_verdict, list_checks, span_checks, handed_checks, plan_checks, lent_plan_checks}
use Rattle.rules.specs.Refusals.{Refusal, Verdict, accepted, refused, unless, and_then, first, in_turn, number_of, out_of_range}
use Rattle.rules.specs.Services.{check_at, each_at, check_at_ℤ, each_at_ℤ, flows_of, silent_check, hour_check, adds_up_check, beyond_check}
use Rattle.rules.specs.Services.{residual_checks, curve_checks, distribution_checks, periodisation_checks, reconciliation_checks, amounts_checks, invoice_checks}
use Rattle.rules.specs.Words.{figures, within}
use Rattle.answer_code.specs.Coded.{coded}
use Rattle.answer_code.proofs.Told.{within_place}

-- a verdict that refuses, if at all, at one of the places of 8,784 hours
abbrev pub Early : Verdict → Type 0
Early accepted = Unit
Early (refused r place) = place < most_weights

then_early : (v w : Verdict) → Early v → (v ≡ accepted → Early w) → Early (and_then v w)
unfolding and_then
then_early accepted w early later = later refl
then_early (refused r place) w early later = early

first_early : (v : Verdict) (checks : List Verdict) → Early v → (v ≡ accepted → Early (first checks)) → Early (first (v ∷ checks))
unfolding first
first_early v checks early later = then_early v (first checks) early later

last_early : (v : Verdict) → Early v → Early (first (v ∷ []))
unfolding first
last_early v early = then_early v accepted early (λ _. tt)

unless_early : (test : Bool) (r : Refusal) (place : ℕ) → place < most_weights → Early (unless test r place)
unfolding unless
unless_early true r place h = tt
unless_early false r place h = h

one_more : (checks : List Verdict) (v : Verdict) → Early (first checks) → Early v → Early (first (checks ++ (v ∷ [])))
unfolding first and_then
one_more [] v early one = last_early v one
one_more (accepted ∷ later) v early one = one_more later v early one
one_more (refused r place ∷ later) v early one = early

in_turn_early : (n : ℕ) (check : ℕ → Verdict) → ((i : ℕ) → i < n → Early (check i)) → Early (in_turn n check)
unfolding in_turn first figures
in_turn_early zero check each = tt
in_turn_early (suc n) check each = one_more (figures n check) (check n) (in_turn_early n check (λ i b. each i (omega (arith, b)))) (each n (omega arith))

-- over a list of at most so many values, which are judged each at its place
list_early : (n : ℕ) (check : ℕ → Verdict) → n ≤ most_weights → ((i : ℕ) → i < most_weights → Early (check i)) → Early (in_turn n check)
list_early n check h each = in_turn_early n check (λ i b. each i (omega (arith, b, h)))

each_early : (l : List ℕ) (test : ℕ → Bool) (r : Refusal) → length l ≤ most_weights → Early (each_at l test r)
unfolding each_at check_at
each_early l test r h = list_early (length l) (check_at l test r) h (λ i b. unless_early _ r i b)

each_early_ℤ : (l : List ℤ) (test : ℤ → Bool) (r : Refusal) → length l ≤ most_weights → Early (each_at_ℤ l test r)
unfolding each_at_ℤ check_at_ℤ
each_early_ℤ l test r h = list_early (length l) (check_at_ℤ l test r) h (λ i b. unless_early _ r i b)

silent_early :
    (statuses : List ℕ) (nets : List ℤ) (productions hourlies flexes : List ℕ) (t : ℕ)
    → t < most_weights
    → Early (silent_check statuses nets productions hourlies flexes t)
unfolding silent_check
silent_early statuses nets productions hourlies flexes t b = unless_early _ out_of_range t b

judged_early : (j : Judgement) (t : ℕ) → t < most_weights → Early (verdict_of j t)
unfolding verdict_of
judged_early (figure n) t b = tt
judged_early (no_figure r) t b = b

hour_early : (statuses : List ℕ) (nets : List ℤ) (productions hourlies flexes : List ℕ) (t : ℕ) → t < most_weights → Early (hour_check statuses nets productions hourlies flexes t)
unfolding hour_check
hour_early statuses nets productions hourlies flexes t b = judged_early (judged (flows_of statuses nets productions hourlies flexes t)) t b

-- how many values a list has, once the check of their number has passed
few : (low high n : ℕ) (r : Refusal) → unless (within low high n) r 0 ≡ accepted → n ≤ high
few low high n r e = (within_is low high n ((unless_exactly (within low high n) r 0).0 e)).1

pub curve_early : (residuals : List ℕ) (w lent : ℕ) → Early (first (curve_checks residuals w lent))
unfolding curve_checks
curve_early residuals w lent =
    first_early _ _ (unless_early _ _ 0 (omega arith)) (λ _.
    first_early _ _ (unless_early _ _ 0 (omega arith)) (λ hours.
    let h : length residuals ≤ most_weights = omega (arith, few 1 most_hours (length residuals) _ hours) in
    first_early _ _ (unless_early _ _ 0 (omega arith)) (λ _.
    first_early _ _ (each_early residuals _ _ h) (λ _.
    last_early _ (each_early residuals _ _ h)))))

pub periodisation_early : (e : ℕ) (weights : List ℕ) (lent : ℕ) → Early (first (periodisation_checks e weights lent))
unfolding periodisation_checks
periodisation_early e weights lent =
    first_early _ _ (unless_early _ _ 0 (omega arith)) (λ _.
    first_early _ _ (unless_early _ _ 0 (omega arith)) (λ hours.
    let h : length weights ≤ most_weights = few 1 most_weights (length weights) _ hours in
    first_early _ _ (unless_early _ _ 0 (omega arith)) (λ _.
    first_early _ _ (each_early weights _ _ h) (λ _.
    last_early _ (unless_early _ _ 0 (omega arith))))))

pub residual_early :
    (statuses : List ℕ) (nets : List ℤ) (productions hourlies flexes : List ℕ) (lent : ℕ)
    → Early (first (residual_checks statuses nets productions hourlies flexes lent))
unfolding residual_checks
residual_early statuses nets productions hourlies flexes lent =
    let n = length statuses in
    first_early _ _ (unless_early _ _ 0 (omega arith)) (λ _.
    first_early _ _ (unless_early _ _ 0 (omega arith)) (λ equal.
    first_early _ _ (unless_early _ _ 0 (omega arith)) (λ shape.
    let hours : length statuses ≤ most_hours = few 1 most_hours (length statuses) _ shape in
    let all = both_pass (eqb (length nets) n && eqb (length productions) n && eqb (length hourlies) n) (eqb (length flexes) n) ((unless_exactly _ out_of_range 0).0 equal) in
    let three = both_pass (eqb (length nets) n && eqb (length productions) n) (eqb (length hourlies) n) all.0 in
    let two = both_pass (eqb (length nets) n) (eqb (length productions) n) three.0 in
    let as-nets : length nets ≡ length statuses = eqb-true (length nets) n two.0 in
    let as-productions : length productions ≡ length statuses = eqb-true (length productions) n two.1 in
    let as-hourlies : length hourlies ≡ length statuses = eqb-true (length hourlies) n three.1 in
    let as-flexes : length flexes ≡ length statuses = eqb-true (length flexes) n all.1 in
    first_early _ _ (each_early statuses _ _ (omega (arith, hours))) (λ _.
    first_early _ _ (each_early_ℤ nets _ _ (omega (arith, hours, as-nets))) (λ _.
    first_early _ _ (each_early productions _ _ (omega (arith, hours, as-productions))) (λ _.
    first_early _ _ (each_early hourlies _ _ (omega (arith, hours, as-hourlies))) (λ _.
    first_early _ _ (each_early flexes _ _ (omega (arith, hours, as-flexes))) (λ _.
    first_early _ _ (list_early (length statuses) (silent_check statuses nets productions hourlies flexes) (omega (arith, hours)) (silent_early statuses nets productions hourlies flexes)) (λ _.
    last_early _ (list_early (length statuses) (hour_check statuses nets productions hourlies flexes) (omega (arith, hours)) (hour_early statuses nets productions hourlies flexes)))))))))))

pub distribution_early : (shares residuals : List ℕ) (lent : ℕ) → Early (first (distribution_checks shares residuals lent))
unfolding distribution_checks within
distribution_early shares residuals lent =
    first_early _ _ (unless_early _ _ 0 (omega arith)) (λ _.
    first_early _ _ (unless_early _ _ 0 (omega arith)) (λ shape.
    let sizes = both_pass (within 1 most_hours (length residuals)) (within 1 most_parties (length shares)) ((unless_exactly _ out_of_range 0).0 shape) in
    let hours : length residuals ≤ most_hours = (within_is 1 most_hours (length residuals) sizes.0).1 in
    let parties : length shares ≤ most_parties = (within_is 1 most_parties (length shares) sizes.1).1 in
    first_early _ _ (each_early shares _ _ (omega (arith, parties))) (λ _.
    first_early _ _ (unless_early _ _ 0 (omega arith)) (λ _.
    last_early _ (each_early residuals _ _ (omega (arith, hours)))))))

pub reconciliation_early :
    (residual : ℕ) (distributed : List ℤ) (periodised : List ℕ) (carrier : ℕ) (price : ℤ) (lentDifferences lentAmounts : ℕ)
    → Early (first (reconciliation_checks residual distributed periodised carrier price lentDifferences lentAmounts))
unfolding reconciliation_checks
reconciliation_early residual distributed periodised carrier price lentDifferences lentAmounts =
    first_early _ _ (unless_early _ _ 0 (omega arith)) (λ _.
    first_early _ _ (unless_early _ _ 0 (omega arith)) (λ equal.
    first_early _ _ (unless_early _ _ 0 (omega arith)) (λ shape.
    let parties : length distributed ≤ most_parties = few 1 most_parties (length distributed) _ shape in
    let same : length periodised ≡ length distributed = eqb-true (length periodised) (length distributed) ((unless_exactly _ _ 0).0 equal) in
    first_early _ _ (unless_early _ _ 0 (omega arith)) (λ _.
    first_early _ _ (each_early_ℤ distributed _ _ (omega (arith, parties))) (λ _.
    first_early _ _ (each_early periodised _ _ (omega (arith, parties, same))) (λ _.
    first_early _ _ (unless_early _ _ 0 (omega arith)) (λ _.
    first_early _ _ (unless_early _ _ 0 (omega arith)) (λ _.
    last_early _ (unless_early _ _ 0 (omega arith))))))))))

pub amounts_early : (differences : List ℤ) (parties : ℕ) (prices : List ℤ) (lent : ℕ) → Early (first (amounts_checks differences parties prices lent))
unfolding amounts_checks adds_up_check beyond_check
amounts_early differences parties prices lent =
    first_early _ _ (unless_early _ _ 0 (omega arith)) (λ _.
    first_early _ _ (unless_early _ _ 0 (omega arith)) (λ _.
    first_early _ _ (unless_early _ _ 0 (omega arith)) (λ shape.
    let sizes = both_pass (within 1 most_hours (length prices)) (within 1 most_parties parties) ((unless_exactly _ out_of_range 0).0 shape) in
    let hours : length prices ≤ most_weights = omega (arith, (within_is 1 most_hours (length prices) sizes.0).1) in
    first_early _ _ (each_early_ℤ prices _ _ hours) (λ _.
    first_early _ _ (list_early (length prices) _ hours (λ t b. unless_early _ _ t b)) (λ _.
    last_early _ (list_early (length prices) _ hours (λ t b. unless_early _ _ t b)))))))

pub invoice_early : (amounts : List ℤ) (lent : ℕ) → Early (first (invoice_checks amounts lent))
unfolding invoice_checks
invoice_early amounts lent =
    first_early _ _ (unless_early _ _ 0 (omega arith)) (λ _.
    first_early _ _ (unless_early _ _ 0 (omega arith)) (λ _.
    last_early _ (unless_early _ _ 0 (omega arith))))

-- the planner refuses at place 0 alone
at_0_early : (r : Refusal) (test : ℕ → Bool) (n : ℕ) → Early (in_turn n (λ i. unless (test i) r 0))
at_0_early r test n = in_turn_early n (λ i. unless (test i) r 0) (λ i _. unless_early (test i) r 0 (omega arith))

pub plan_early : (r : LongReading) (from to before whole : ℕ) → Early (first (lent_plan_checks r from to before whole))
unfolding lent_plan_checks plan_checks handed_checks list_checks span_checks hours_verdict party_verdict part_verdict weight_verdict
plan_early r from to before whole =
    first_early _ _ (unless_early _ _ 0 (omega arith)) (λ _.
    first_early _ _ (unless_early _ _ 0 (omega arith)) (λ _.
    first_early _ _ (at_0_early _ _ (month_count r)) (λ _.
    first_early _ _ (unless_early _ _ 0 (omega arith)) (λ _.
    first_early _ _ (at_0_early _ _ (month_count r)) (λ _.
    first_early _ _ (at_0_early _ _ (month_count r)) (λ _.
    first_early _ _ (unless_early _ _ 0 (omega arith)) (λ _.
    first_early _ _ (unless_early _ _ 0 (omega arith)) (λ _.
    first_early _ _ (at_0_early _ _ (length r.curves)) (λ _.
    last_early _ (unless_early _ _ 0 (omega arith)))))))))))

-- number + 256 x place, exactly
pub exact : (r : Refusal) (place : ℕ) → place < most_weights → coded (refused r place) ≡ number_of r + 256 * place
unfolding coded
exact r place h = sym (within_place (number_of r) place (omega (arith, h)))
