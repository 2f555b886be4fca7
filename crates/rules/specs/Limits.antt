-- "Numbers that bound it" (01). Every limit of the paper stands here once, under its sentence, and nowhere else as a figure.
use Rattle.std.specs.Prelude.{ℕ}

-- "Area 1..999."
abbrev pub greatest_area : ℕ
greatest_area = 999

-- "Year 2000..2099."
abbrev pub earliest_year : ℕ
earliest_year = 2000

abbrev pub latest_year : ℕ
latest_year = 2099

-- "Month 1..12."
abbrev pub months_of_aYear : ℕ
months_of_aYear = 12

-- "H 1..745."
abbrev pub most_hours : ℕ
most_hours = 745

-- "P 1..64; loss carrier and a reading's party below P."
abbrev pub most_parties : ℕ
most_parties = 64

-- "Load share 0..4,000,000,000"
abbrev pub greatest_share : ℕ
greatest_share = 4000000000

-- "W 1..4,000,000,000."
abbrev pub greatest_w : ℕ
greatest_w = 4000000000

-- "Net supply -8,000,000,000..8,000,000,000; other flows 0..8,000,000,000."
abbrev pub greatest_flow : ℕ
greatest_flow = 8000000000

-- "Residual 0..2,000,000,000."
abbrev pub greatest_residual : ℕ
greatest_residual = 2000000000

-- "Curve number at most 1,000,000,000."
abbrev pub greatest_curve_number : ℕ
greatest_curve_number = 1000000000

-- "E at most 1,000,000,000."
abbrev pub greatest_energy : ℕ
greatest_energy = 1000000000

-- "All periodised consumption in an hour at most 2,000,000,000."
abbrev pub greatest_periodised : ℕ
greatest_periodised = 2000000000

-- "Price -5,000,000..5,000,000."
abbrev pub greatest_price : ℕ
greatest_price = 5000000

-- "The service takes E and the weights alone, 1 to 8,784 hours of them." (Periodised consumption)
abbrev pub most_weights : ℕ
most_weights = 8784

-- W3: "the whole is over 8,784,000,000,000"
abbrev pub greatest_whole : ℕ
greatest_whole = 8784000000000

-- W3: "A yearly reading crosses up to thirteen month files."
abbrev pub most_months : ℕ
most_months = 13

-- "distributed outside -1..2,000,000,001" (Refusal numbers, reconciliation of one hour)
abbrev pub greatest_distributed : ℕ
greatest_distributed = 2000000001

-- W6: "a difference beyond 2,000,000,001 Wh of either sign"
abbrev pub greatest_difference : ℕ
greatest_difference = 2000000001

-- "Each hour has a status: 0 missing, 1 measured, 2 estimated." (From flows to the curve)
abbrev pub missing : ℕ
missing = 0

abbrev pub measured : ℕ
measured = 1

abbrev pub estimated : ℕ
estimated = 2

-- "Amount = difference x price, exact, in millionths of an øre" (Reconciliation): so many make one
abbrev pub millionths_in_ore : ℕ
millionths_in_ore = 1000000

-- "At most 65,536 bytes." (The month file)
abbrev pub longest_file : ℕ
longest_file = 65536

-- "thirteen digits" (The month file)
abbrev pub gln_digits : ℕ
gln_digits = 13
