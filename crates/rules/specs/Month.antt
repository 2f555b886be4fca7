-- A month that has been read (01): its figures hour by hour, its sums, and the order of the refusals after the file is read.
use Rattle.std.specs.Prelude.{Bool, cond, ◌&&◌, ◌||◌, List, [], ◌∷◌, ℕ, ◌+◌, ◌-◌, eqb, leb, ltb, ℤ, pos, length, get_or}
use Rattle.rules.specs.Distributed.{distributed_figure}
use Rattle.rules.specs.Flows.{Flows, W, residual_wh, curve_number, applied_series, judged, verdict_of}
use Rattle.rules.specs.Invoice.{invoice_ore}
use Rattle.rules.specs.Limits.{greatest_w, greatest_curve_number, greatest_whole, greatest_periodised, missing, estimated}
use Rattle.rules.specs.MonthFile.{MonthFile, H, P, nothing_yet, read_month}
use Rattle.rules.specs.Periodised.{periodised_figure, part_of_e}
use Rattle.rules.specs.Reconciliation.{grid_loss, loss_of, difference_of, amount_millionths}
use Rattle.rules.specs.Record.{own_brp, Party, Over, this_month, many_months, Reading}
use Rattle.rules.specs.Refusals.{not_refixed, w_out_of_range, curve_too_large, whole_exceeded, nothing_to_follow, periodised_too_large, wrong_length}
use Rattle.rules.specs.Refusals.{Verdict, refused, Answer, given, refusal, unless, and_then, first, in_turn}
use Rattle.rules.specs.Setting.{Setting, is_provisional, Prices, optional}
use Rattle.rules.specs.Words.{sum, sum_ℤ, count, within}

-- What stands at a place of a list. Past a list's end nothing is asked; what is written for it there is an empty record.
unfoldable pub party_at : MonthFile → ℕ → Party
party_at m i = get_or m.parties i (record { gln = []; brp = own_brp; share = 0 })

unfoldable pub flows_at : List Flows → ℕ → Flows
flows_at series t = get_or series t (record { status = missing; net = pos 0; production = 0; hourly = 0; flex = 0 })

unfoldable pub reading_at : MonthFile → ℕ → Reading
reading_at m j = get_or m.readings j (record { party = 0; a = 0; b = 0; e = 0; over = this_month })

unfoldable pub price_at : MonthFile → ℕ → ℤ
price_at m t = get_or m.prices t (pos 0)

unfoldable pub share_of : MonthFile → ℕ → ℕ
share_of m i = (party_at m i).share

unfoldable pub month_w : MonthFile → ℕ
month_w m = W (P m) (share_of m)

unfoldable pub fixed_wh : MonthFile → ℕ → ℕ
fixed_wh m t = residual_wh (flows_at m.fixed t)

-- "The applied series is the refixed series if the file has one, otherwise the fixed series."
unfoldable pub applied_flows : MonthFile → ℕ → Flows
applied_flows m t = flows_at (applied_series m.fixed m.refixed) t

unfoldable pub applied_wh : MonthFile → ℕ → ℕ
applied_wh m t = residual_wh (applied_flows m t)

-- "The curve always comes from the fixed one."
unfoldable pub curve : MonthFile → ℕ → ℕ
curve m t = curve_number (fixed_wh m t) (month_w m)

unfoldable pub distributed : MonthFile → ℕ → ℕ → ℤ
distributed m t i = distributed_figure (P m) (share_of m) (applied_wh m) t i

-- "A reading is E Wh over the hours from a to before b. Its weights are the part of the month's curve from its first hour to its last." (Of one over several
-- months: this month's hours of it.)
unfoldable pub weight_of : MonthFile → Reading → ℕ → ℕ
weight_of m r k = curve m (r.a + k)

-- "S is their sum." W3 calls it "the month's own weight".
unfoldable pub S : MonthFile → Reading → ℕ
S m r = sum (r.b - r.a) (weight_of m r)

-- W3: "weight before this month": none where the reading lies in this month
unfoldable pub weight_before : Over → ℕ
weight_before this_month = 0
weight_before (many_months before whole) = before

-- W3: "weight of the whole reading": the month's own where the reading lies in this month
unfoldable pub whole_weight : Over → ℕ → ℕ
whole_weight this_month own = own
whole_weight (many_months before whole) own = whole

unfoldable pub whole_of : MonthFile → Reading → ℕ
whole_of m r = whole_weight r.over (S m r)

-- the reading's figure in hour t of the month: none outside its hours
unfoldable pub reading_figure : MonthFile → Reading → ℕ → ℕ
reading_figure m r t =
    cond (leb r.a t && ltb t r.b) (periodised_figure r.e (weight_before r.over) (whole_of m r) (weight_of m r) (t - r.a)) 0

-- what reading j gives party i in hour t: its figure, if it is the party's
unfoldable pub figure_for : MonthFile → ℕ → ℕ → ℕ → ℕ
figure_for m t i j = cond (eqb (reading_at m j).party i) (reading_figure m (reading_at m j) t) 0

-- a party's periodised consumption in hour t: that of its readings
unfoldable pub periodised : MonthFile → ℕ → ℕ → ℕ
periodised m t i = sum (length m.readings) (figure_for m t i)

-- "All periodised consumption in an hour"
unfoldable pub all_periodised : MonthFile → ℕ → ℕ
all_periodised m t = sum (P m) (periodised m t)

unfoldable pub loss : MonthFile → ℕ → ℤ
loss m t = grid_loss (applied_wh m t) (P m) (periodised m t)

unfoldable pub difference : MonthFile → ℕ → ℕ → ℤ
difference m t i = difference_of m.heading.carrier (loss m t) (periodised m t) (distributed m t) i

unfoldable pub amount : MonthFile → ℕ → ℕ → ℤ
amount m t i = amount_millionths (difference m t i) (price_at m t)

-- The month sums of a party, in Wh and in millionths of an øre. "Loss is 0 for all but the carrier." "the month's amount is the exact sum"
unfoldable pub month_distributed : MonthFile → ℕ → ℤ
month_distributed m i = sum_ℤ (H m) (λ t. distributed m t i)

unfoldable pub month_periodised : MonthFile → ℕ → ℕ
month_periodised m i = sum (H m) (λ t. periodised m t i)

-- What a reading says was used in this month: its E where it lies in this month, else this month's part of E.
unfoldable pub energy_of : Over → ℕ → ℕ → ℕ
energy_of this_month e own = e
energy_of (many_months before whole) e own = part_of_e e before own whole

-- what a party's readings say that it has used (law `periodised_of_readings`: this is what its periodised figures of the month add up to)
unfoldable pub energy_for : MonthFile → ℕ → ℕ → ℕ
energy_for m i j =
    cond (eqb (reading_at m j).party i) (energy_of (reading_at m j).over (reading_at m j).e (S m (reading_at m j))) 0

unfoldable pub read_energy : MonthFile → ℕ → ℕ
read_energy m i = sum (length m.readings) (energy_for m i)

unfoldable pub month_loss : MonthFile → ℕ → ℤ
month_loss m i = sum_ℤ (H m) (λ t. loss_of m.heading.carrier (loss m t) i)

unfoldable pub month_difference : MonthFile → ℕ → ℤ
month_difference m i = sum_ℤ (H m) (λ t. difference m t i)

unfoldable pub month_amount : MonthFile → ℕ → ℤ
month_amount m i = sum_ℤ (H m) (λ t. amount m t i)

-- W2: "each party's exact month amount" in whole øre, all parties together
unfoldable pub invoice : MonthFile → ℕ → ℤ
invoice m i = invoice_ore (P m) (month_amount m) i

-- "the number of applied hours with status 2"
unfoldable pub is_estimated : List Flows → ℕ → Bool
is_estimated series t = eqb (flows_at series t).status estimated

unfoldable pub estimated_hours : MonthFile → ℕ
estimated_hours m = count (H m) (is_estimated (applied_series m.fixed m.refixed))

-- "the fixed hours in order, each 7, 8, 9; the refixed hours likewise": an hour of a series
unfoldable pub hour_verdict : List Flows → ℕ → Verdict
hour_verdict series t = verdict_of (judged (flows_at series t)) t

-- "10 by hour"
unfoldable pub curve_verdict : MonthFile → ℕ → Verdict
curve_verdict m t = unless (leb (curve m t) greatest_curve_number) curve_too_large t

-- 18 does not apply (W3): "weight before plus the month's own weight" is at most the whole, and the whole at most 8,784,000,000,000. A reading in this month
-- always passes (law `this_month_fits`).
unfoldable pub weights_fit : ℕ → ℕ → ℕ → Bool
weights_fit before own whole = leb (before + own) whole && leb whole greatest_whole

-- 13 does not apply: "E positive and S zero", W3: "Zero whole weight with positive E is 13"
unfoldable pub follows_whole : ℕ → ℕ → Bool
follows_whole e whole = eqb e 0 || leb 1 whole

-- what is tested of a reading at a place: 18, "tested before 13 of the same reading"
unfoldable pub reading_checks : MonthFile → Reading → ℕ → List Verdict
reading_checks m r place =
    unless (weights_fit (weight_before r.over) (S m r) (whole_of m r)) whole_exceeded place
    ∷ unless (follows_whole r.e (whole_of m r)) nothing_to_follow place
    ∷ []

-- "13 by reading", W3: 18 and 13; "place is the reading"
unfoldable pub reading_verdict : MonthFile → ℕ → Verdict
reading_verdict m j = first (reading_checks m (reading_at m j) j)

-- "14 by hour"
unfoldable pub periodised_verdict : MonthFile → ℕ → Verdict
periodised_verdict m t = unless (leb (all_periodised m t) greatest_periodised) periodised_too_large t

-- W1: "17, no refixed series in a final run, place 0", by the number of 06 records
unfoldable pub refixed_verdict : Setting → ℕ → Verdict
refixed_verdict setting refixed = unless (is_provisional setting || leb 1 refixed) not_refixed 0

-- THE ORDER OF REFUSALS AFTER THE FILE IS READ. W1: 17 "after the file is read and before 6". "Then 6; then the fixed hours in order, each 7, 8, 9; the refixed
-- hours likewise; 10 by hour; 13 by reading; 14 by hour". W3: by reading 18 and then 13.
unfoldable pub month_checks : Setting → MonthFile → List Verdict
month_checks setting m =
    refixed_verdict setting (length m.refixed)
    ∷ unless (within 1 greatest_w (month_w m)) w_out_of_range 0
    ∷ in_turn (H m) (hour_verdict m.fixed)
    ∷ in_turn (length m.refixed) (hour_verdict m.refixed)
    ∷ in_turn (H m) (curve_verdict m)
    ∷ in_turn (length m.readings) (reading_verdict m)
    ∷ in_turn (H m) (periodised_verdict m)
    ∷ []

unfoldable pub month_verdict : Setting → MonthFile → Verdict
month_verdict setting m = first (month_checks setting m)

-- A CALL ON A WHOLE FILE, with the prices needed or not, and final or provisional: the refusals of reading it, then those of the month.
unfoldable pub verdict_on : Setting → Answer MonthFile → Verdict
verdict_on setting (given m) = month_verdict setting m
verdict_on setting (refusal r place) = refused r place

unfoldable pub file_verdict : Prices → Setting → List ℕ → Verdict
file_verdict prices setting file = verdict_on setting (read_month prices file)

-- "last, for a call on a whole month, 16"
unfoldable pub call_verdict : Prices → Setting → List ℕ → Bool → Verdict
call_verdict prices setting file lent_right = and_then (file_verdict prices setting file) (unless lent_right wrong_length 0)

-- the month that a file is read as. Of a file that is refused nothing is asked; what is written for it there is an empty month.
unfoldable pub month_read : Answer MonthFile → MonthFile
month_read (given m) = m
month_read (refusal r place) = nothing_yet

-- it has no setting: a file that is read with its prices needed is read as the same month without (law `read_alike`), so that no figure depends on what the
-- caller says
unfoldable pub month_of : List ℕ → MonthFile
month_of file = month_read (read_month optional file)
