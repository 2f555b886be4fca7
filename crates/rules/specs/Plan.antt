-- THE PLANNER OF A READING OVER MONTHS (02, W3): "a planner makes them" (the 08 records) "from E, a of the first month, b of the last, the party's number in each
-- and the months' curves". The curves come joined into one list, with the hours of each month beside it (READINGS A62). That the parts add up to E, that each
-- hour has the figure of one long periodisation, and that the records pass in their month files is proved in proofs/Plan.
use Rattle.std.specs.Prelude.{cond, ◌&&◌, List, [], ◌∷◌, ◌++◌, ◌≡◌, ℕ, suc, ◌+◌, ◌-◌, ◌<◌, eqb, leb, ltb, length}
use Rattle.rules.specs.Accepted.{NoneRefuses}
use Rattle.rules.specs.Limits.{most_months, most_hours, most_parties, most_weights, greatest_energy, greatest_curve_number}
use Rattle.rules.specs.Month.{curve, follows_whole, reading_checks, reading_figure}
use Rattle.rules.specs.Record.{many_months, Reading, reading, MonthFile, H, P, in_file, checks}
use Rattle.rules.specs.Refusals.{out_of_range, span_fault, energy_too_large, curve_too_large, nothing_to_follow, wrong_length, Verdict, accepted, unless, first, in_turn}
use Rattle.rules.specs.Services.{periodisation_checks, periodisation_figures}
use Rattle.rules.specs.Words.{sum, figures, at, within}

-- what is handed in
pub record LongReading : Type 0 where
  pub e : ℕ
  pub a : ℕ
  pub b : ℕ
  pub parties : List ℕ
  pub hours : List ℕ
  pub curves : List ℕ

unfoldable pub month_count : LongReading → ℕ
month_count r = length r.hours

-- WHERE A MONTH LIES in the joined curves: behind the hours of the months before it
unfoldable pub month_start : LongReading → ℕ → ℕ
month_start r k = sum k (at r.hours)

unfoldable pub curve_of_month : LongReading → ℕ → ℕ → ℕ
curve_of_month r k t = at r.curves (month_start r k + t)

-- THE READING'S PART IN A MONTH: "a of the first month, b of the last"; in every other month from its first hour, or to its last
unfoldable pub part_from : LongReading → ℕ → ℕ
part_from r k = cond (eqb k 0) r.a 0

unfoldable pub part_to : LongReading → ℕ → ℕ
part_to r k = cond (eqb (suc k) (month_count r)) r.b (at r.hours k)

unfoldable pub part_hours : LongReading → ℕ → ℕ
part_hours r k = part_to r k - part_from r k

-- what the part weighs: its hours of the month's curve
unfoldable pub part_weight : LongReading → ℕ → ℕ
part_weight r k = sum (part_hours r k) (λ h. curve_of_month r k (part_from r k + h))

-- "weight before this month", "weight of the whole reading"
unfoldable pub planned_before : LongReading → ℕ → ℕ
planned_before r k = sum k (part_weight r)

unfoldable pub planned_whole : LongReading → ℕ
planned_whole r = sum (month_count r) (part_weight r)

-- THE RECORD OF A MONTH, and the records of all
unfoldable pub planned_reading : LongReading → ℕ → Reading
planned_reading r k =
    record { party = at r.parties k; a = part_from r k; b = part_to r k; e = r.e; over = many_months (planned_before r k) (planned_whole r) }

unfoldable pub planned : LongReading → List Reading
planned r = figures (month_count r) (planned_reading r)

-- ALL IN ONE: the hours of the whole reading, those before its part in a month, and the joined curve of its hours alone
unfoldable pub reading_hours : LongReading → ℕ
reading_hours r = sum (month_count r) (part_hours r)

unfoldable pub hours_before : LongReading → ℕ → ℕ
hours_before r k = sum k (part_hours r)

unfoldable pub joined_curve : LongReading → List ℕ
joined_curve r = figures (reading_hours r) (λ t. at r.curves (r.a + t))

-- THE REFUSALS: "not 1 to 13 curves of 1 to 745 hours is 4; a reading over 8,784 hours or with an empty part in a month is 11; then 12, 10, 13; all place 0"

-- 4: lists that do not belong together, months, hours of a month; a party above 63 is 4 too, as in a record alone (READINGS A60)
unfoldable pub hours_verdict : LongReading → ℕ → Verdict
hours_verdict r k = unless (within 1 most_hours (at r.hours k)) out_of_range 0

unfoldable pub party_verdict : LongReading → ℕ → Verdict
party_verdict r k = unless (ltb (at r.parties k) most_parties) out_of_range 0

-- 11: in each month "a not below b, b above H" (01)
unfoldable pub part_verdict : LongReading → ℕ → Verdict
part_verdict r k = unless (ltb (part_from r k) (part_to r k) && leb (part_to r k) (at r.hours k)) span_fault 0

-- 10, of every curve handed in (READINGS A59)
unfoldable pub weight_verdict : LongReading → ℕ → Verdict
weight_verdict r t = unless (leb (at r.curves t) greatest_curve_number) curve_too_large 0

-- 4, then 11, then 12 and 10: what is asked of all that is handed in
unfoldable pub list_checks : LongReading → List Verdict
list_checks r =
    unless (eqb (length r.parties) (month_count r) && within 1 most_months (month_count r)) out_of_range 0
    ∷ in_turn (month_count r) (hours_verdict r)
    ∷ unless (eqb (length r.curves) (month_start r (month_count r))) out_of_range 0
    ∷ in_turn (month_count r) (party_verdict r)
    ∷ []

unfoldable pub span_checks : LongReading → List Verdict
span_checks r = in_turn (month_count r) (part_verdict r) ∷ unless (leb (reading_hours r) most_weights) span_fault 0 ∷ []

unfoldable pub handed_checks : LongReading → List Verdict
handed_checks r =
    list_checks r
    ++ (span_checks r ++ (unless (leb r.e greatest_energy) energy_too_large 0 ∷ in_turn (length r.curves) (weight_verdict r) ∷ []))

-- and last 13
unfoldable pub plan_checks : LongReading → List Verdict
plan_checks r = handed_checks r ++ (unless (follows_whole r.e (planned_whole r)) nothing_to_follow 0 ∷ [])

-- Through C the records are lent, number by number: 16 first, "for another length than the number of months" (READINGS A62)
unfoldable pub lent_plan_checks : LongReading → ℕ → ℕ → ℕ → ℕ → List Verdict
lent_plan_checks r lentFrom lentTo lentBefore lentWhole =
    unless (eqb lentFrom (month_count r) && eqb lentTo (month_count r) && eqb lentBefore (month_count r) && eqb lentWhole (month_count r)) wrong_length 0
    ∷ plan_checks r

-- WHAT IS PROVED OF A PLAN (law `plan_kept`), of a reading that the planner does not refuse

-- a month file that the record of month k stands in: of that month's hours and curve, with the party among its parties
pub record InMonth (r : LongReading) (k : ℕ) (m : MonthFile) : Type 0 where
  pub hours : H m ≡ at r.hours k
  pub same_curve : (t : ℕ) → t < H m → curve m t ≡ curve_of_month r k t
  pub a_party : at r.parties k < P m

pub record PlanKept (r : LongReading) : Type 0 where
  -- "the month parts of a reading add up to E": the record's figures in all hours of each month file, over all the months
  pub adds_up_holds : (file : ℕ → MonthFile) → ((k : ℕ) → k < month_count r → InMonth r k (file k))
      → sum (month_count r) (λ k. sum (H (file k)) (reading_figure (file k) (planned_reading r k))) ≡ r.e
  -- "and each hour equals the figure of one long periodisation over the joined curve of at most 8,784 hours": that of the periodisation service, which takes it
  pub each_hour : (k : ℕ) (m : MonthFile) → k < month_count r → InMonth r k m → (h : ℕ) → h < part_hours r k
      → reading_figure m (planned_reading r k) (part_from r k + h) ≡ at (periodisation_figures r.e (joined_curve r)) (hours_before r k + h)
  pub taken : first (periodisation_checks r.e (joined_curve r) (length (joined_curve r))) ≡ accepted
  -- a planned record meets none of 4, 11, 12, 18 and 13 in its month file (READINGS A105)
  pub passes : (k : ℕ) (m : MonthFile) → k < month_count r → InMonth r k m → (n place : ℕ)
      → NoneRefuses (checks (in_file m n) (reading (planned_reading r k))) × NoneRefuses (reading_checks m (planned_reading r k) place)
