-- The reviewer's report of a month, which the program `hours` prints: an answer to each of her three questions (00). "Which hours were measured?" and "Do the
-- suppliers' parts add up to the residual in each hour?" are answered by a line for each hour, "Has any supplier been pushed the same way all month?" by a line
-- for each party. Numbers and lines are printed as in the statement.
use Rattle.std.specs.Prelude.{cond, List, ◌++◌, ℕ, zero, suc, ◌-◌, eqb, ℤ, pos, ◌-ℤ◌, ◌*ℤ◌}
use Rattle.std.specs.Int.Signed.{lt_z}
use Rattle.rules.specs.Demands.{exact_share}
use Rattle.rules.specs.Limits.{estimated}
use Rattle.rules.specs.Month.{party_at, flows_at, applied_flows, share_of, month_w, fixed_wh, applied_wh, curve, distributed, all_periodised, loss, month_verdict}
use Rattle.rules.specs.MonthFile.{MonthFile, H, P, read_month}
use Rattle.rules.specs.Refusals.{Verdict, accepted, refused, Answer, given, refusal}
use Rattle.rules.specs.Statement.{decimal, signed_decimal, newline, refusal_line, heading_line, joined}
use Rattle.rules.specs.Setting.{Setting, optional}
use Rattle.rules.specs.Words.{sum, sum_ℤ, figures, ascii}

-- "Which hours were measured?": a status in words. A month with a missing hour is refused (7) and has no report, so there are two words: of status 0 nothing
-- is asked here (law `every_hour_has_its_figure`), and what is written for it means nothing.
unfoldable pub status_word : ℕ → List ℕ
status_word status = cond (eqb status estimated) (ascii "estimated") (ascii "measured")

-- the hour and the status of its fixed and of its applied figure
unfoldable pub statuses_text : ℕ → ℕ → ℕ → List ℕ
statuses_text hour fixedStatus appliedStatus = decimal hour ++ ascii " " ++ status_word fixedStatus ++ ascii " " ++ status_word appliedStatus

-- fixed residual, applied residual and curve number
unfoldable pub series_text : ℕ → ℕ → ℕ → List ℕ
series_text fixed applied curve_number = ascii " " ++ decimal fixed ++ ascii " " ++ decimal applied ++ ascii " " ++ decimal curve_number

-- "Do the suppliers' parts add up ..?": the sum of the distributed, the sum of the periodised, and the loss
unfoldable pub parts_text : ℤ → ℕ → ℤ → List ℕ
parts_text all_distributed all_periodised loss =
    ascii " " ++ signed_decimal all_distributed ++ ascii " " ++ decimal all_periodised ++ ascii " " ++ signed_decimal loss

-- the sum of the distributed of an hour
unfoldable pub all_distributed : MonthFile → ℕ → ℤ
all_distributed m t = sum_ℤ (P m) (distributed m t)

-- a line for each hour
unfoldable pub hour_line : MonthFile → ℕ → List ℕ
hour_line m t =
    statuses_text t (flows_at m.fixed t).status (applied_flows m t).status
    ++ series_text (fixed_wh m t) (applied_wh m t) (curve m t)
    ++ parts_text (all_distributed m t) (all_periodised m t) (loss m t)
    ++ newline

-- "Has any supplier been pushed the same way ..?": how far a party's running sum is from its exact share once the first `hours` hours have passed, in
-- W-ths of a Wh: above 0 where it has too much, below 0 where it has too little
unfoldable pub distance_after : MonthFile → ℕ → ℕ → ℤ
distance_after m i hours =
    sum_ℤ hours (λ t. distributed m t i) *ℤ pos (month_w m) -ℤ pos (exact_share (share_of m) (sum hours (applied_wh m)) i)

-- the same after hour t
unfoldable pub distance_at : MonthFile → ℕ → ℕ → ℤ
distance_at m i t = distance_after m i (suc t)

-- the smaller and the larger of two
unfoldable pub smaller : ℤ → ℤ → ℤ
smaller a b = cond (lt_z b a) b a

unfoldable pub larger : ℤ → ℤ → ℤ
larger a b = cond (lt_z a b) b a

-- the smallest and the largest of f 0, f 1, .. f last
unfoldable pub smallest : ℕ → (ℕ → ℤ) → ℤ
smallest zero f = f 0
smallest (suc n) f = smaller (smallest n f) (f (suc n))

unfoldable pub largest : ℕ → (ℕ → ℤ) → ℤ
largest zero f = f 0
largest (suc n) f = larger (largest n f) (f (suc n))

-- a party's smallest and largest distance after hours 0 .. last
unfoldable pub smallest_distance : MonthFile → ℕ → ℕ → ℤ
smallest_distance m last i = smallest last (distance_at m i)

unfoldable pub largest_distance : MonthFile → ℕ → ℕ → ℤ
largest_distance m last i = largest last (distance_at m i)

-- an exact fraction n/W of a Wh
unfoldable pub fraction : ℤ → ℕ → List ℕ
fraction n w = signed_decimal n ++ ascii "/" ++ decimal w

unfoldable pub distances_text : List ℕ → ℤ → ℤ → ℕ → List ℕ
distances_text name least most w = name ++ ascii " " ++ fraction least w ++ ascii " " ++ fraction most w ++ newline

-- a line for each party: its GLN, and the smallest and the largest distance in the month
unfoldable pub distances_line : MonthFile → ℕ → List ℕ
distances_line m i = distances_text (party_at m i).gln (smallest_distance m (H m - 1) i) (largest_distance m (H m - 1) i) (month_w m)

unfoldable pub report_lines : MonthFile → List ℕ
report_lines m = heading_line m ++ joined (figures (H m) (hour_line m)) ++ joined (figures (P m) (distances_line m))

-- the report of a month that was read: its lines, or its refusal
unfoldable pub judged_report : MonthFile → Verdict → List ℕ
judged_report m accepted = report_lines m
judged_report m (refused r place) = refusal_line r place

unfoldable pub answered_report : Setting → Answer MonthFile → List ℕ
answered_report setting (given m) = judged_report m (month_verdict setting m)
answered_report setting (refusal r place) = refusal_line r place

-- THE REPORT OF A FILE, which prints no money. W6: "A file for the first alone may have no 05 records"
unfoldable pub hours_report : Setting → List ℕ → List ℕ
hours_report setting bytes = answered_report setting (read_month optional bytes)
