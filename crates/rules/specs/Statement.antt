-- "The statement program" (01), the preview program (02, W1) and the BRP program (02, W5): their text, as bytes, from the setting and the bytes of the month file.
use Rattle.std.specs.Prelude.{cond, List, [], ◌∷◌, ◌++◌, ℕ, zero, suc, ◌+◌, ◌/◌, ◌%◌, ltb, ℤ, pos, negsuc, length}
use Rattle.rules.specs.Brp.{brps, brp_month_distributed, brp_month_periodised, brp_month_loss, brp_month_difference, brp_invoice}
use Rattle.rules.specs.Limits.{gln_digits}
use Rattle.rules.specs.Month.{party_at, month_distributed, month_periodised, month_loss, month_difference, invoice, estimated_hours, month_verdict}
use Rattle.rules.specs.MonthFile.{MonthFile, H, P, read_month}
use Rattle.rules.specs.Refusals.{Refusal, number_of, Verdict, accepted, refused, Answer, given, refusal}
use Rattle.rules.specs.Setting.{Setting, needed}
use Rattle.rules.specs.Words.{sum, sum_ℤ, figures, ascii}
unfoldable pub use Rattle.rules.specs.Words.{joined}

-- "Numbers are printed without leading zeros, most significant digit first": the number divided by ten, then the last digit.
-- (The first number only bounds how many digits there are; the number itself is enough.)
unfoldable pub digits_in : ℕ → ℕ → List ℕ
digits_in zero n = []
digits_in (suc most) n =
    let tensThenLast = digits_in most (n / 10) ++ ((48 + n % 10) ∷ []) in
    cond (ltb n 10) ((48 + n) ∷ []) tensThenLast

unfoldable pub decimal : ℕ → List ℕ
decimal n = digits_in (suc n) n

-- "a minus before negatives"
unfoldable pub signed_decimal : ℤ → List ℕ
signed_decimal (pos n) = decimal n
signed_decimal (negsuc n) = ascii "-" ++ decimal (suc n)

-- "area (3 digits), month (2) and GLN (13) keep theirs": n with so many digits
unfoldable pub digits_of_width : ℕ → ℕ → List ℕ
digits_of_width zero n = []
digits_of_width (suc width) n = digits_of_width width (n / 10) ++ ((48 + n % 10) ∷ [])

-- "Every line ends with one newline byte."
unfoldable pub newline : List ℕ
newline = 10 ∷ []

-- "On refusal it prints one line, `refused N at P`."
unfoldable pub refusal_line : Refusal → ℕ → List ℕ
refusal_line r place = ascii "refused " ++ decimal (number_of r) ++ ascii " at " ++ decimal place ++ newline

-- W1: "where there are no 06 records, ends its heading line with a space and `provisional`": by how many there are. (In a final run there are some: law
-- `final_is_refixed`.)
unfoldable pub provisional_ending : ℕ → List ℕ
provisional_ending zero = ascii " provisional"
provisional_ending (suc more) = []

-- "a heading line with area (three digits), year-month, H, P and the number of applied hours with status 2"; then its ending, by the number of 06 records
unfoldable pub heading_text : ℕ → ℕ → ℕ → ℕ → ℕ → ℕ → ℕ → List ℕ
heading_text area year month hours parties estimated refixed =
    ascii "area " ++ digits_of_width 3 area ++ ascii " " ++ decimal year ++ ascii "-" ++ digits_of_width 2 month
    ++ ascii " hours "
    ++ decimal hours
    ++ ascii " parties "
    ++ decimal parties
    ++ ascii " estimated "
    ++ decimal estimated
    ++ provisional_ending refixed
    ++ newline

unfoldable pub heading_line : MonthFile → List ℕ
heading_line m =
    heading_text m.heading.area m.heading.year m.heading.month (H m) (P m) (estimated_hours m) (length m.refixed)

-- a line of five columns: "distributed, periodised, loss, difference (month sums in Wh) and invoice øre"
unfoldable pub columns_line : List ℕ → ℤ → ℕ → ℤ → ℤ → ℤ → List ℕ
columns_line name distributed periodised loss difference ore =
    name ++ ascii " " ++ signed_decimal distributed ++ ascii " " ++ decimal periodised ++ ascii " " ++ signed_decimal loss
    ++ ascii " "
    ++ signed_decimal difference
    ++ ascii " "
    ++ signed_decimal ore
    ++ newline

-- "one line per party in order with GLN, .."
unfoldable pub party_line : MonthFile → ℕ → List ℕ
party_line m i =
    columns_line (party_at m i).gln (month_distributed m i) (month_periodised m i) (month_loss m i) (month_difference m i)
    (invoice m i)

-- "a line `total` with the column sums"
unfoldable pub total_line : MonthFile → List ℕ
total_line m =
    columns_line (ascii "total") (sum_ℤ (P m) (month_distributed m)) (sum (P m) (month_periodised m))
    (sum_ℤ (P m) (month_loss m))
    (sum_ℤ (P m) (month_difference m))
    (sum_ℤ (P m) (invoice m))

-- W5: "one line per BRP .. with the statement's columns", by its GLN of 13 digits
unfoldable pub brp_line : MonthFile → ℕ → List ℕ
brp_line m brp =
    columns_line (digits_of_width gln_digits brp) (brp_month_distributed m brp) (brp_month_periodised m brp) (brp_month_loss m brp)
    (brp_month_difference m brp)
    (brp_invoice m brp)

-- a line for each number of a list
unfoldable pub line_for_each : (ℕ → List ℕ) → List ℕ → List ℕ
line_for_each line [] = []
line_for_each line (n ∷ more) = line n ++ line_for_each line more

-- WHO HAS A LINE: "one line per party in order"; W5: "one line per BRP, in rising GLN order"
pub data Per : Type 0 where
  per_party : Per
  per_brp : Per

unfoldable pub lines_per : Per → MonthFile → List ℕ
lines_per per_party m = joined (figures (P m) (party_line m))
lines_per per_brp m = line_for_each (brp_line m) (brps m)

-- W5: "between its heading and total lines"
unfoldable pub statement_lines : Per → MonthFile → List ℕ
statement_lines per m = heading_line m ++ lines_per per m ++ total_line m

-- the statement of a month that was read: its lines, or its refusal
unfoldable pub judged_statement : Per → MonthFile → Verdict → List ℕ
judged_statement per m accepted = statement_lines per m
judged_statement per m (refused r place) = refusal_line r place

unfoldable pub answered_statement : Per → Setting → Answer MonthFile → List ℕ
answered_statement per setting (given m) = judged_statement per m (month_verdict setting m)
answered_statement per setting (refusal r place) = refusal_line r place

-- the statement of a file, per party or per BRP: "Reads one month file from standard input. .. On refusal it prints one line .. Else: .."
unfoldable pub statement_per : Per → Setting → List ℕ → List ℕ
statement_per per setting bytes = answered_statement per setting (read_month needed bytes)

-- THE STATEMENT OF A FILE. W1: "The statement program keeps final as its setting; a preview program asks for provisional"
abbrev pub statement : Setting → List ℕ → List ℕ
statement = statement_per per_party

-- THE BRP STATEMENT OF A FILE (W5)
abbrev pub brp_statement : Setting → List ℕ → List ℕ
brp_statement = statement_per per_brp
