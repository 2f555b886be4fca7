-- What holds of every accepted month: each hour has its figure, the limits, demand 3, the zero sums, and that every figure fits 64 bits.
use mathlib.Core.Bool.{Bool, true, false, cond}
use mathlib.Core.List.{List, [], ◌∷◌}
use mathlib.Core.Logic.{⊎_elim}
use mathlib.Core.Path.{◌≡◌, refl, sym, ◌∙◌, ap, ap₂, subst}
use Prim.Native.Nat.{ℕ, zero, suc, ◌+◌, ◌*◌, ◌≤◌, ◌<◌}
use native.Mathlib.Nat.{add-zero, zero-add, le_trans, le_of_suc-le-suc, mul-le-mul, mul-le-mul_right}
use native.Mathlib.Omega.{arith}
use borrow.Author.Tests.{leb-true}
use lib.Dec.{leb, eqb}
use lib.IntN.{ℤ, pos, negsuc, nat_abs, ◌+ℤ◌, ◌-ℤ◌}
use lib.ListN.{length, get_or-eq_default}
use Rattle.rules.specs.Accepted.{NoneRefuses}
use Rattle.rules.specs.Demands.{Demand3}
use Rattle.rules.specs.Distributed.{distributed_figure, running_after}
use Rattle.rules.specs.Flows.{Flows, figure, no_figure, residual, judged, judged_by, verdict_of, residual_wh, applied_series, W}
use Rattle.rules.specs.Invoice.{InvoiceColumn}
use Rattle.rules.specs.Limits.{most_hours, greatest_w, greatest_residual, greatest_curve_number, greatest_periodised, greatest_price, greatest_difference}
use Rattle.rules.specs.Month.{flows_at, share_of, month_w, applied_flows, applied_wh, price_at, periodised, all_periodised, loss, distributed}
use Rattle.rules.specs.Month.{difference, amount, month_difference, month_amount, invoice, month_distributed, hour_verdict, curve_verdict}
use Rattle.rules.specs.Month.{periodised_verdict, month_checks, month_verdict, curve}
use Rattle.rules.specs.MonthFile.{MonthFile, H, P}
use Rattle.rules.specs.Reconciliation.{grid_loss, loss_of, difference_of, amount_millionths}
use Rattle.rules.specs.Refusals.{w_out_of_range, residual_too_large, accepted, unless, in_turn}
use Rattle.rules.specs.Setting.{Setting}
use Rattle.rules.specs.Words.{sum, sum_ℤ, within}
use Rattle.rules.proofs.Demand3.{demand_3, growth_in_range}
use Rattle.rules.proofs.Invoice.{invoice_column}
use Rattle.rules.proofs.Integers.{minus_add, minus_near, opposite, pos_minus_zero, size_of_product, size_of_sums, sum_ℤ_cong, sum_ℤ_swap, sum_ℤ_zero, sum_ℤ_pos}
use Rattle.rules.proofs.Reconciliation.{differences_add_up, amounts_add_up}
use Rattle.rules.proofs.Refusals.{accepted_exactly, in_turn_exactly, unless_exactly, refused_not_accepted}
use Rattle.rules.proofs.Sums.{sum_member}
use Rattle.rules.proofs.Whole.{Whole, within_size, HeadingFacts, heading_facts, every_at, within_is, PriceRight}

-- An hour that is judged to have a figure: it is not missing, and its residual is that figure, within the limit.
pub record HasFigure (f : Flows) : Type 0 where
  pub is_figure : judged f ≡ figure (residual_wh f)
  pub not_missing : 1 ≤ f.status
  pub residual_is : residual f ≡ pos (residual_wh f)
  pub at_most : residual_wh f ≤ greatest_residual

has_figure : (status : ℕ) (r : ℤ) (t : ℕ) → verdict_of (judged_by status r) t ≡ accepted → (judged_by status r ≡ figure (nat_abs r)) × (1 ≤ status) × (r ≡ pos (nat_abs r)) × (nat_abs r ≤ greatest_residual)
unfolding verdict_of judged_by
has_figure zero r t e = absurd (refused_not_accepted e)
has_figure (suc status) (negsuc n) t e = absurd (refused_not_accepted e)
has_figure (suc status) (pos n) t e = go (leb n greatest_residual) refl e
  where
    go : (b : Bool) → leb n greatest_residual ≡ b → verdict_of (cond b (figure n) (no_figure residual_too_large)) t ≡ accepted
        → (judged_by (suc status) (pos n) ≡ figure n) × (1 ≤ suc status) × (pos n ≡ pos n) × (n ≤ greatest_residual)
    go true b e = (ap (λ t. cond t (figure n) (no_figure residual_too_large)) b, omega arith, refl, leb-true n greatest_residual b)
    go false b e = absurd (refused_not_accepted e)

judged_to_have : (f : Flows) (t : ℕ) → verdict_of (judged f) t ≡ accepted → HasFigure f
unfolding judged residual_wh
judged_to_have f t e =
    let h = has_figure f.status (residual f) t e in
    record { is_figure = h.0; not_missing = h.1; residual_is = h.2; at_most = h.3 }

-- what the checks of an hour's curve number and of all that is periodised in it leave
pub curve_at_most : (m : MonthFile) (t : ℕ) → curve_verdict m t ≡ accepted → curve m t ≤ greatest_curve_number
unfolding curve_verdict
curve_at_most m t e = leb-true (curve m t) greatest_curve_number ((unless_exactly _ _ _).0 e)

pub periodised_at_most : (m : MonthFile) (t : ℕ) → periodised_verdict m t ≡ accepted → all_periodised m t ≤ greatest_periodised
unfolding periodised_verdict
periodised_at_most m t e = leb-true (all_periodised m t) greatest_periodised ((unless_exactly _ _ _).0 e)

-- A month whose file is whole and whose W and hours are in order: the checks up to the refixed hours.
pub record Judged (m : MonthFile) : Type 0 where
  pub whole : Whole m
  pub W_right : unless (within 1 greatest_w (month_w m)) w_out_of_range 0 ≡ accepted
  pub fixed_right : in_turn (H m) (hour_verdict m.fixed) ≡ accepted
  pub refixed_right : in_turn (length m.refixed) (hour_verdict m.refixed) ≡ accepted

module _ (m : MonthFile) (j : Judged m) where
  pub W_in_range : (1 ≤ month_w m) × (month_w m ≤ greatest_w)
  W_in_range = within_is 1 greatest_w (month_w m) ((unless_exactly _ _ _).0 j.W_right)

  -- EVERY FIXED HOUR HAS ITS FIGURE
  pub fixed_hours_have : (t : ℕ) → t < H m → HasFigure (flows_at m.fixed t)
  unfolding hour_verdict
  fixed_hours_have t b = judged_to_have (flows_at m.fixed t) t ((in_turn_exactly (H m) (hour_verdict m.fixed)).0 j.fixed_right t b)

  refixed_hours_have : (t : ℕ) → t < length m.refixed → HasFigure (flows_at m.refixed t)
  unfolding hour_verdict
  refixed_hours_have t b = judged_to_have (flows_at m.refixed t) t ((in_turn_exactly (length m.refixed) (hour_verdict m.refixed)).0 j.refixed_right t b)

  -- AND SO HAS EVERY APPLIED HOUR
  pub every_hour_has_its_figure : (t : ℕ) → t < H m → HasFigure (applied_flows m t)
  unfolding applied_flows applied_series
  every_hour_has_its_figure t b = go m.refixed refl
    where
      go : (r : List Flows) → m.refixed ≡ r → HasFigure (flows_at (applied_series m.fixed r) t)
      go [] e = fixed_hours_have t b
      go (f ∷ fs) e =
          let some : 0 < length m.refixed = rw e (omega arith) in
          let all : length m.refixed ≡ H m = ⊎_elim (λ (z : length m.refixed ≡ 0). absurd (omega arith)) (λ (h : length m.refixed ≡ H m). h) j.whole.none_or_all_refixed in
          subst (λ (s : List Flows). HasFigure (flows_at s t)) e (refixed_hours_have t (omega arith))

  pub applied_in_range : (t : ℕ) → t < H m → applied_wh m t ≤ greatest_residual
  unfolding applied_wh
  applied_in_range t b = (every_hour_has_its_figure t b).at_most

  pub some_share : 0 < W (P m) (share_of m)
  unfolding month_w
  some_share = W_in_range.0

  -- DEMAND 3 OF AN ACCEPTED MONTH: of its shares and its applied residuals
  pub demand_3_of_the_month : Demand3 (P m) (share_of m) (applied_wh m)
  demand_3_of_the_month = demand_3 (P m) (share_of m) some_share (applied_wh m)

  pub heading_right : HeadingFacts m.heading
  heading_right = heading_facts m.heading j.whole.head

  -- THE DIFFERENCES OF EACH HOUR ADD UP TO 0, and so do the amounts
  pub hour_differences_add_up : (t : ℕ) → sum_ℤ (P m) (difference m t) ≡ pos 0
  unfolding difference loss distributed P
  hour_differences_add_up t =
      differences_add_up (P m) m.heading.carrier (applied_wh m t) (periodised m t) (distributed m t) heading_right.carrier
      (demand_3_of_the_month.adds_up_holds t)

  pub hour_amounts_add_up : (t : ℕ) → sum_ℤ (P m) (amount m t) ≡ pos 0
  unfolding amount difference loss distributed P
  hour_amounts_add_up t =
      amounts_add_up (P m) m.heading.carrier (applied_wh m t) (periodised m t) (distributed m t) heading_right.carrier
      (demand_3_of_the_month.adds_up_holds t) (price_at m t)

  -- THE MONTH'S COLUMNS ADD UP: all distributed is all residuals, all differences are 0, all exact amounts are 0
  pub all_distributed_lem : sum_ℤ (P m) (month_distributed m) ≡ pos (sum (H m) (applied_wh m))
  unfolding month_distributed distributed
  all_distributed_lem =
      sum_ℤ_swap (P m) (H m) (distributed m) ∙ sum_ℤ_cong (H m) (λ t b. demand_3_of_the_month.adds_up_holds t) ∙ sum_ℤ_pos (H m) (applied_wh m)

  pub all_differences : sum_ℤ (P m) (month_difference m) ≡ pos 0
  unfolding month_difference
  all_differences = sum_ℤ_swap (P m) (H m) (difference m) ∙ sum_ℤ_zero (H m) (λ t b. hour_differences_add_up t)

  pub all_amounts : sum_ℤ (P m) (month_amount m) ≡ pos 0
  unfolding month_amount
  all_amounts = sum_ℤ_swap (P m) (H m) (amount m) ∙ sum_ℤ_zero (H m) (λ t b. hour_amounts_add_up t)

  -- W2: THE INVOICE COLUMN OF THE MONTH is what W2 asks for, so it adds up to 0
  pub month_invoice_column : InvoiceColumn (P m) (month_amount m) (invoice m)
  unfolding invoice
  month_invoice_column = invoice_column (P m) (month_amount m) all_amounts

  -- A DIFFERENCE LIES WITHIN 2,000,000,001 WH of either sign (`greatest_difference`). With the running sum a after and b before the hour, the residual r and all periodised s:
  -- the carrier's is p + (r - s) - (a - b), another's p - (a - b).
  module _ (t i : ℕ) (in_month_holds : t < H m) (is-party : i < P m) (in_limit : all_periodised m t ≤ greatest_periodised) where
    abbrev after_hour : ℕ
    after_hour = running_after (P m) (share_of m) (applied_wh m) (suc t) i

    abbrev before_hour : ℕ
    before_hour = running_after (P m) (share_of m) (applied_wh m) t i

    pub growth_bounds : (before_hour ≤ after_hour + 1) × (after_hour ≤ before_hour + applied_wh m t + 1)
    growth_bounds = growth_in_range (P m) (share_of m) some_share (applied_wh m) t i is-party

    own_at_most_all : periodised m t i ≤ all_periodised m t
    unfolding all_periodised
    own_at_most_all = sum_member (P m) (periodised m t) is-party

    carriers : (pos (periodised m t i) +ℤ (pos (applied_wh m t) -ℤ pos (all_periodised m t)) -ℤ (pos after_hour -ℤ pos before_hour)) ≡ pos (periodised m t i + applied_wh m t + before_hour) -ℤ pos (all_periodised m t + after_hour)
    carriers =
        ap₂ (λ (x y : ℤ). x +ℤ y)
        (ap (λ (x : ℤ). x +ℤ (pos (applied_wh m t) -ℤ pos (all_periodised m t))) (sym (pos_minus_zero (periodised m t i)))
        ∙ minus_add (periodised m t i) 0 (applied_wh m t) (all_periodised m t))
        (opposite after_hour before_hour)
        ∙ minus_add (periodised m t i + applied_wh m t) (0 + all_periodised m t) before_hour after_hour
        ∙ ap (λ (x : ℕ). pos (periodised m t i + applied_wh m t + before_hour) -ℤ pos (x + after_hour)) (zero-add (all_periodised m t))

    anothers : (pos (periodised m t i) +ℤ pos 0 -ℤ (pos after_hour -ℤ pos before_hour)) ≡ pos (periodised m t i + before_hour) -ℤ pos after_hour
    anothers =
        ap₂ (λ (x y : ℤ). x +ℤ y)
        (ap pos (add-zero (periodised m t i)) ∙ sym (pos_minus_zero (periodised m t i)))
        (opposite after_hour before_hour)
        ∙ minus_add (periodised m t i) 0 before_hour after_hour
        ∙ ap (λ (x : ℕ). pos (periodised m t i + before_hour) -ℤ pos x) (zero-add after_hour)

    difference_by : (is-carrier : Bool)
        → nat_abs (pos (periodised m t i) +ℤ cond is-carrier (pos (applied_wh m t) -ℤ pos (all_periodised m t)) (pos 0) -ℤ (pos after_hour -ℤ pos before_hour)) ≤ greatest_difference
    difference_by true =
        rw carriers
        (le_of_suc-le-suc
        (minus_near (periodised m t i + applied_wh m t + before_hour) (all_periodised m t + after_hour) (suc greatest_difference)
        (omega (arith, growth_bounds, own_at_most_all, applied_in_range t in_month_holds))
        (omega (arith, growth_bounds, in_limit))))
    difference_by false =
        rw anothers
        (le_of_suc-le-suc
        (minus_near (periodised m t i + before_hour) after_hour (suc greatest_difference)
        (omega (arith, growth_bounds, own_at_most_all, in_limit))
        (omega (arith, growth_bounds, applied_in_range t in_month_holds))))

    pub difference_fits : nat_abs (difference m t i) ≤ greatest_difference
    unfolding difference difference_of loss grid_loss loss_of distributed distributed_figure all_periodised
    difference_fits = difference_by (eqb i m.heading.carrier)

    pub price_fits : nat_abs (price_at m t) ≤ greatest_price
    unfolding price_at H
    price_fits =
        ⊎_elim (λ (none : length m.prices ≡ 0). rw (get_or-eq_default m.prices (pos 0) {n = t} (omega arith)) (omega arith))
        (λ (all : length m.prices ≡ H m). within_size greatest_price (price_at m t) (every_at PriceRight m.prices j.whole.prices t (pos 0) (omega arith)))
        j.whole.none_or_all_prices

    pub amount_fits : nat_abs (amount m t i) ≤ greatest_difference * greatest_price
    unfolding amount amount_millionths
    amount_fits = rw (size_of_product (difference m t i) (price_at m t)) (mul-le-mul difference_fits price_fits)

-- AN ACCEPTED MONTH: no check of it refuses
module _ (setting : Setting) (m : MonthFile) (whole : Whole m) (ok : month_verdict setting m ≡ accepted) where
  none : NoneRefuses (month_checks setting m)
  unfolding month_verdict
  none = (accepted_exactly (month_checks setting m)).0 ok

  pub accepted_is_judged : Judged m
  unfolding month_checks
  accepted_is_judged = record { whole = whole; W_right = none.1.0; fixed_right = none.1.1.0; refixed_right = none.1.1.1.0 }

  pub curve_in_range : (t : ℕ) → t < H m → curve m t ≤ greatest_curve_number
  unfolding month_checks
  curve_in_range t b = curve_at_most m t ((in_turn_exactly (H m) (curve_verdict m)).0 none.1.1.1.1.0 t b)

  pub periodised_in_range : (t : ℕ) → t < H m → all_periodised m t ≤ greatest_periodised
  unfolding month_checks
  periodised_in_range t b = periodised_at_most m t ((in_turn_exactly (H m) (periodised_verdict m)).0 none.1.1.1.1.1.1.0 t b)

  -- ITS AMOUNTS FIT 64 BITS: below 745 x 2,000,000,001 x 5,000,000 = 7.45 x 10^18
  pub month_amount_fits : (i : ℕ) → i < P m → nat_abs (month_amount m i) ≤ most_hours * (greatest_difference * greatest_price)
  unfolding month_amount H
  month_amount_fits i b =
      le_trans
      (size_of_sums (H m) (λ t. amount m t i) (greatest_difference * greatest_price)
      (λ t c. amount_fits m accepted_is_judged t i c b (periodised_in_range t c)))
      (mul-le-mul_right (greatest_difference * greatest_price) (heading_right m accepted_is_judged).hours.1)
