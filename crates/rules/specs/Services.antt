-- "Called alone, each service takes residuals unsigned and tests 16 first, then 4 (H and P included), then its own" (01 "Refusal numbers"):
-- for each service its checks in order and the figures that it gives. "Lists of unequal length are 4 at place 0, before any other 4. Else the
-- place of 4 is the first value outside in its list, lists in the order named, or 0 for a single number; single numbers come first."
-- `lent` is the length of the lent output. The needed length is that of the list named first, and for distribution one figure for each hour and party.
use Rattle.std.specs.Prelude.{Bool, ◌&&◌, ◌||◌, List, [], ◌∷◌, ℕ, ◌+◌, ◌*◌, ◌/◌, ◌%◌, eqb, leb, ltb, ℤ, pos, negsuc, nat_abs, length, get_or}
use Rattle.std.specs.Int.Signed.{le_z}
use Rattle.rules.specs.Distributed.{distributed_figure}
use Rattle.rules.specs.Flows.{Flows, silent_is_zero, judged, verdict_of, residual_wh, W, curve_number}
use Rattle.rules.specs.Invoice.{invoice_ore}
use Rattle.rules.specs.Limits.{estimated, greatest_flow, most_hours, most_parties, greatest_share, greatest_w, greatest_residual}
use Rattle.rules.specs.Limits.{greatest_curve_number, most_weights, greatest_energy, greatest_periodised, greatest_price, greatest_distributed, greatest_difference}
use Rattle.rules.specs.Periodised.{periodised_figure}
use Rattle.rules.specs.Reconciliation.{grid_loss, difference_of, amount_millionths}
use Rattle.rules.specs.Refusals.{Refusal, out_of_range, w_out_of_range, residual_too_large, curve_too_large, span_fault, energy_too_large}
use Rattle.rules.specs.Refusals.{nothing_to_follow, periodised_too_large, wrong_length, difference_too_large, Verdict, unless, in_turn}
use Rattle.rules.specs.Words.{sum, sum_ℤ, count, figures, at, within, within_ℤ, at_most}

unfoldable pub at_ℤ : List ℤ → ℕ → ℤ
at_ℤ l i = get_or l i (pos 0)

unfoldable pub same_ℤ : ℤ → ℤ → Bool
same_ℤ a b = le_z a b && le_z b a

-- every value of a list passes a test; the place is the first that does not
unfoldable pub check_at : List ℕ → (ℕ → Bool) → Refusal → ℕ → Verdict
check_at l test r i = unless (test (at l i)) r i

unfoldable pub each_at : List ℕ → (ℕ → Bool) → Refusal → Verdict
each_at l test r = in_turn (length l) (check_at l test r)

unfoldable pub check_at_ℤ : List ℤ → (ℤ → Bool) → Refusal → ℕ → Verdict
check_at_ℤ l test r i = unless (test (at_ℤ l i)) r i

unfoldable pub each_at_ℤ : List ℤ → (ℤ → Bool) → Refusal → Verdict
each_at_ℤ l test r = in_turn (length l) (check_at_ℤ l test r)

-- RESIDUAL: statuses, net supply, production, hourly, flex.
unfoldable pub flows_of : List ℕ → List ℤ → List ℕ → List ℕ → List ℕ → ℕ → Flows
flows_of statuses nets productions hourlies flexes t =
    record { status = at statuses t; net = at_ℤ nets t; production = at productions t; hourly = at hourlies t; flex = at flexes t }

unfoldable pub silent_check : List ℕ → List ℤ → List ℕ → List ℕ → List ℕ → ℕ → Verdict
silent_check statuses nets productions hourlies flexes t =
    unless (silent_is_zero (flows_of statuses nets productions hourlies flexes t)) out_of_range t

unfoldable pub hour_check : List ℕ → List ℤ → List ℕ → List ℕ → List ℕ → ℕ → Verdict
hour_check statuses nets productions hourlies flexes t =
    verdict_of (judged (flows_of statuses nets productions hourlies flexes t)) t

-- 16; 4: lengths unequal, H, each list's values; "With status 0 a figure other than 0 is refused with 4 (service alone: at that hour, after
-- all ranges)"; then "residual 7, 8, 9 hour by hour".
unfoldable pub residual_checks : List ℕ → List ℤ → List ℕ → List ℕ → List ℕ → ℕ → List Verdict
residual_checks statuses nets productions hourlies flexes lent =
    unless (eqb lent (length statuses)) wrong_length 0
    ∷ unless
    (eqb (length nets) (length statuses) && eqb (length productions) (length statuses)
    && eqb (length hourlies) (length statuses)
    && eqb (length flexes) (length statuses))
    out_of_range
    0
    ∷ unless (within 1 most_hours (length statuses)) out_of_range 0
    ∷ each_at statuses (at_most estimated) out_of_range
    ∷ each_at_ℤ nets (within_ℤ greatest_flow) out_of_range
    ∷ each_at productions (at_most greatest_flow) out_of_range
    ∷ each_at hourlies (at_most greatest_flow) out_of_range
    ∷ each_at flexes (at_most greatest_flow) out_of_range
    ∷ in_turn (length statuses) (silent_check statuses nets productions hourlies flexes)
    ∷ in_turn (length statuses) (hour_check statuses nets productions hourlies flexes)
    ∷ []

unfoldable pub residual_at : List ℕ → List ℤ → List ℕ → List ℕ → List ℕ → ℕ → ℕ
residual_at statuses nets productions hourlies flexes t = residual_wh (flows_of statuses nets productions hourlies flexes t)

unfoldable pub residual_figures : List ℕ → List ℤ → List ℕ → List ℕ → List ℕ → List ℕ
residual_figures statuses nets productions hourlies flexes =
    figures (length statuses) (residual_at statuses nets productions hourlies flexes)

-- "Curve number at most 1,000,000,000."
unfoldable pub curve_fits : ℕ → ℕ → Bool
curve_fits w wh = leb (curve_number wh w) greatest_curve_number

-- CURVE: residuals, W. 16; 4 (H); "curve 6, 9 over all hours, 10".
unfoldable pub curve_checks : List ℕ → ℕ → ℕ → List Verdict
curve_checks residuals w lent =
    unless (eqb lent (length residuals)) wrong_length 0
    ∷ unless (within 1 most_hours (length residuals)) out_of_range 0
    ∷ unless (within 1 greatest_w w) w_out_of_range 0
    ∷ each_at residuals (at_most greatest_residual) residual_too_large
    ∷ each_at residuals (curve_fits w) curve_too_large
    ∷ []

unfoldable pub curve_at : List ℕ → ℕ → ℕ → ℕ
curve_at residuals w t = curve_number (at residuals t) w

unfoldable pub curve_figures : List ℕ → ℕ → List ℕ
curve_figures residuals w = figures (length residuals) (curve_at residuals w)

-- DISTRIBUTION: shares, residuals. 16; 4 (H, P, a share at its party); "distribution 6, 9".
unfoldable pub distribution_checks : List ℕ → List ℕ → ℕ → List Verdict
distribution_checks shares residuals lent =
    unless (eqb lent (length shares * length residuals)) wrong_length 0
    ∷ unless (within 1 most_hours (length residuals) && within 1 most_parties (length shares)) out_of_range 0
    ∷ each_at shares (at_most greatest_share) out_of_range
    ∷ unless (within 1 greatest_w (W (length shares) (at shares))) w_out_of_range 0
    ∷ each_at residuals (at_most greatest_residual) residual_too_large
    ∷ []

-- hour by hour, within an hour party by party
unfoldable pub distributed_at : List ℕ → List ℕ → ℕ → ℤ
distributed_at shares residuals k =
    distributed_figure (length shares) (at shares) (at residuals) (k / length shares) (k % length shares)

unfoldable pub distribution_figures : List ℕ → List ℕ → List ℤ
distribution_figures shares residuals = figures (length residuals * length shares) (distributed_at shares residuals)

-- PERIODISATION: E, weights, all of a reading: nothing before them, and their sum S as the whole. 16; "periodisation 11, 12, 10, 13 (all at place 0 but 10)".
unfoldable pub periodisation_checks : ℕ → List ℕ → ℕ → List Verdict
periodisation_checks e weights lent =
    unless (eqb lent (length weights)) wrong_length 0
    ∷ unless (within 1 most_weights (length weights)) span_fault 0
    ∷ unless (leb e greatest_energy) energy_too_large 0
    ∷ each_at weights (at_most greatest_curve_number) curve_too_large
    ∷ unless (eqb e 0 || leb 1 (sum (length weights) (at weights))) nothing_to_follow 0
    ∷ []

unfoldable pub periodisation_figures : ℕ → List ℕ → List ℕ
periodisation_figures e weights = figures (length weights) (periodised_figure e 0 (sum (length weights) (at weights)) (at weights))

-- "-1..2,000,000,001"
unfoldable pub distributed_fits : ℤ → Bool
distributed_fits wh = le_z (negsuc 0) wh && le_z wh (pos greatest_distributed)

-- RECONCILIATION OF ONE HOUR: residual, distributed, periodised, carrier, price; two lent outputs. 16; "its 4 covers carrier, price, distributed
-- outside -1..2,000,000,001, periodised outside 0..2,000,000,000 and, last, distributed not adding up to the residual (place 0); then 9, 14, both at place 0."
unfoldable pub reconciliation_checks : ℕ → List ℤ → List ℕ → ℕ → ℤ → ℕ → ℕ → List Verdict
reconciliation_checks residual distributed periodised carrier price lentDifferences lentAmounts =
    unless (eqb lentDifferences (length distributed) && eqb lentAmounts (length distributed)) wrong_length 0
    ∷ unless (eqb (length periodised) (length distributed)) out_of_range 0
    ∷ unless (within 1 most_parties (length distributed)) out_of_range 0
    ∷ unless (ltb carrier (length distributed) && within_ℤ greatest_price price) out_of_range 0
    ∷ each_at_ℤ distributed distributed_fits out_of_range
    ∷ each_at periodised (at_most greatest_periodised) out_of_range
    ∷ unless (same_ℤ (sum_ℤ (length distributed) (at_ℤ distributed)) (pos residual)) out_of_range 0
    ∷ unless (leb residual greatest_residual) residual_too_large 0
    ∷ unless (leb (sum (length periodised) (at periodised)) greatest_periodised) periodised_too_large 0
    ∷ []

unfoldable pub reconciliation_loss : ℕ → List ℕ → ℤ
reconciliation_loss residual periodised = grid_loss residual (length periodised) (at periodised)

unfoldable pub reconciliation_differences : ℕ → List ℤ → List ℕ → ℕ → List ℤ
reconciliation_differences residual distributed periodised carrier =
    figures (length distributed)
    (difference_of carrier (reconciliation_loss residual periodised) (at periodised) (at_ℤ distributed))

unfoldable pub amount_at : List ℤ → ℤ → ℕ → ℤ
amount_at differences price i = amount_millionths (at_ℤ differences i) price

unfoldable pub reconciliation_amounts : List ℤ → ℤ → List ℤ
reconciliation_amounts differences price = figures (length differences) (amount_at differences price)

-- AMOUNTS (W6: "the other takes differences and prices and gives amounts"): differences, hour by hour and within an hour party by party, P, and prices, one for
-- each hour; a lent output. Party i's difference in hour t:
unfoldable pub difference_in : List ℤ → ℕ → ℕ → ℕ → ℤ
difference_in differences parties t i = at_ℤ differences (t * parties + i)

-- "differences of an hour that don't add up to 0 are 4, place the hour". A difference may be any number, and the sum is the true one.
unfoldable pub adds_up_check : List ℤ → ℕ → ℕ → Verdict
adds_up_check differences parties t = unless (same_ℤ (sum_ℤ parties (difference_in differences parties t)) (pos 0)) out_of_range t

-- "19, a difference beyond 2,000,000,001 Wh of either sign, place the hour": how many of an hour's there are
unfoldable pub is_beyond : ℤ → Bool
is_beyond wh = ltb greatest_difference (nat_abs wh)

unfoldable pub beyond_check : List ℤ → ℕ → ℕ → Verdict
beyond_check differences parties t = unless (eqb (count parties (λ i. is_beyond (difference_in differences parties t i))) 0) difference_too_large t

-- 16; 4: lengths unequal, H and P, each price; "differences of an hour that don't add up to 0 are 4, place the hour, last of its 4s; 19, .., after 4."
unfoldable pub amounts_checks : List ℤ → ℕ → List ℤ → ℕ → List Verdict
amounts_checks differences parties prices lent =
    unless (eqb lent (length differences)) wrong_length 0
    ∷ unless (eqb (length differences) (length prices * parties)) out_of_range 0
    ∷ unless (within 1 most_hours (length prices) && within 1 most_parties parties) out_of_range 0
    ∷ each_at_ℤ prices (within_ℤ greatest_price) out_of_range
    ∷ in_turn (length prices) (adds_up_check differences parties)
    ∷ in_turn (length prices) (beyond_check differences parties)
    ∷ []

-- each difference times the price of its hour
unfoldable pub priced_at : List ℤ → ℕ → List ℤ → ℕ → ℤ
priced_at differences parties prices k = amount_millionths (at_ℤ differences k) (at_ℤ prices (k / parties))

unfoldable pub amounts_figures : List ℤ → ℕ → List ℤ → List ℤ
amounts_figures differences parties prices = figures (length differences) (priced_at differences parties prices)

-- INVOICE: exact amounts. 16; 4 (P); W2: "Exact amounts handed in alone that don't add up to 0 are 4, place 0." Any amounts are taken, and the sum is the true one.
unfoldable pub invoice_checks : List ℤ → ℕ → List Verdict
invoice_checks amounts lent =
    unless (eqb lent (length amounts)) wrong_length 0
    ∷ unless (within 1 most_parties (length amounts)) out_of_range 0
    ∷ unless (same_ℤ (sum_ℤ (length amounts) (at_ℤ amounts)) (pos 0)) out_of_range 0
    ∷ []

unfoldable pub invoice_figures : List ℤ → List ℤ
invoice_figures amounts = figures (length amounts) (invoice_ore (length amounts) (at_ℤ amounts))
