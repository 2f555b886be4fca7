-- Whole month files and what the rules give for each, from the file's bytes to the printed text: input S1 of 01 with its five lines, and the case D3 as a
-- month, both with the reviewer's report; a month of parts of an øre (W2); the small month of `rules/specs/SmallMonth` without a refixed series, also with a reading over
-- several months (W3); two of these months by their BRPs (W5); the small month without prices (W6); and each refusal 1 to 15, 17 and 18 once, two faults at a time
-- where an order shows. Proved in proofs/WorkedMonths, by computing the definitions.
use Rattle.std.specs.Prelude.{List, [], ◌∷◌, ◌++◌, ◌≡◌, ℕ, pos, negsuc, take}
use Prim.Native.String.{String}
use Rattle.rules.specs.HoursReport.{hours_report}
use Rattle.rules.specs.Limits.{missing, measured, estimated}
use Rattle.rules.specs.Record.{named_brp, many_months, Record, party, fixed_hour, reading, price, refixed_hour, end}
use Rattle.rules.specs.Setting.{final, provisional}
use Rattle.rules.specs.SmallMonth.{file_of, supply, party_of, reading_of, heading_of, begin, fixed_hours, refixed_hours, prices, small}
use Rattle.rules.specs.Statement.{statement, brp_statement}
use Rattle.rules.specs.Words.{ascii}

-- W5: a supplier with the GLN of its BRP
unfoldable pub brp_party_of : String → String → ℕ → Record
brp_party_of gln brp share = party (record { gln = ascii gln; brp = named_brp (ascii brp); share = share })

-- W3: a reading over several months, with the weight before this month and the weight of the whole reading
unfoldable pub long_reading_of : ℕ → ℕ → ℕ → ℕ → ℕ → ℕ → Record
long_reading_of who a b e before whole = reading (record { party = who; a = a; b = b; e = e; over = many_months before whole })

-- "Input S1, the example of H2 6.3"
unfoldable pub S1 : List ℕ
S1 =
    file_of
    (heading_of 7 2016 4 3 3 2
    ∷ party_of "0000000000017" 1500000
    ∷ party_of "0000000000024" 6000000
    ∷ party_of "0000000000031" 2500000
    ∷ fixed_hour 0 (supply measured (pos 40000000))
    ∷ fixed_hour 1 (supply measured (pos 50000000))
    ∷ fixed_hour 2 (supply measured (pos 40000000))
    ∷ refixed_hour 0 (supply measured (pos 39000000))
    ∷ refixed_hour 1 (supply measured (pos 48000000))
    ∷ refixed_hour 2 (supply measured (pos 39000000))
    ∷ price 0 (pos 29000)
    ∷ price 1 (pos 33000)
    ∷ price 2 (pos 30000)
    ∷ reading_of 0 0 1 7800000
    ∷ reading_of 0 1 2 9800000
    ∷ reading_of 0 2 3 10000000
    ∷ reading_of 1 0 1 20100000
    ∷ reading_of 1 1 2 25100000
    ∷ reading_of 1 2 3 17900000
    ∷ reading_of 2 0 1 10000000
    ∷ reading_of 2 1 2 12500000
    ∷ reading_of 2 2 3 10000000
    ∷ end 22
    ∷ [])

-- The case D3 as a month: shares 6, 6 and 2, residuals 10 and 1, the second hour estimated; refixation changed nothing. examples/README.md works it out by hand; the file is
-- examples/d3.month. Its parties can be put in as 02 or as 12 records.
unfoldable pub D3of : List Record → List ℕ
D3of parties =
    file_of
    ((heading_of 3 2016 6 2 3 1 ∷ parties)
    ++ (fixed_hour 0 (record { status = measured; net = pos 16; production = 3; hourly = 6; flex = 3 })
    ∷ fixed_hour 1 (record { status = estimated; net = negsuc 1; production = 8; hourly = 4; flex = 1 })
    ∷ refixed_hour 0 (record { status = measured; net = pos 16; production = 3; hourly = 6; flex = 3 })
    ∷ refixed_hour 1 (record { status = estimated; net = negsuc 1; production = 8; hourly = 4; flex = 1 })
    ∷ price 0 (pos 2000000)
    ∷ price 1 (negsuc 1499999)
    ∷ reading_of 0 0 2 6
    ∷ reading_of 2 1 2 2
    ∷ end 12
    ∷ []))

unfoldable pub D3 : List ℕ
D3 = D3of (party_of "0000000000017" 6 ∷ party_of "0000000000024" 6 ∷ party_of "0000000000031" 2 ∷ [])

-- W5: the same of two BRPs, whose GLNs fall and repeat
unfoldable pub D3brps : List ℕ
D3brps =
    D3of
    (brp_party_of "0000000000017" "0000000000048" 6
    ∷ brp_party_of "0000000000024" "0000000000017" 6
    ∷ brp_party_of "0000000000031" "0000000000048" 2
    ∷ [])

-- W2 as a month: exact amounts of 0.75, 0.5, -0.5, -1.25 and 0.5 øre, of which three øre are missing once they are rounded down, the last of them given by a tie.
-- examples/README.md works it out by hand; the file is examples/ore.month.
unfoldable pub ore_of : List Record → List ℕ
ore_of parties =
    file_of
    ((heading_of 5 2016 8 2 5 3 ∷ parties)
    ++ (fixed_hour 0 (supply measured (pos 10))
    ∷ fixed_hour 1 (supply measured (pos 5))
    ∷ refixed_hour 0 (supply measured (pos 10))
    ∷ refixed_hour 1 (supply measured (pos 5))
    ∷ price 0 (pos 250000)
    ∷ price 1 (negsuc 499999)
    ∷ reading_of 0 0 1 3
    ∷ reading_of 1 0 1 4
    ∷ reading_of 1 1 2 1
    ∷ reading_of 2 0 1 2
    ∷ reading_of 2 1 2 2
    ∷ reading_of 4 0 1 2
    ∷ end 18
    ∷ []))

unfoldable pub whole_ore : List ℕ
whole_ore =
    ore_of
    (party_of "0000000000017" 1
    ∷ party_of "0000000000024" 1
    ∷ party_of "0000000000031" 1
    ∷ party_of "0000000000048" 1
    ∷ party_of "0000000000055" 1
    ∷ [])

-- W5: the same of two BRPs, the first of the first two parties
unfoldable pub ore_brps : List ℕ
ore_brps =
    ore_of
    (brp_party_of "0000000000017" "0000000000062" 1
    ∷ brp_party_of "0000000000024" "0000000000062" 1
    ∷ brp_party_of "0000000000031" "0000000000079" 1
    ∷ brp_party_of "0000000000048" "0000000000079" 1
    ∷ brp_party_of "0000000000055" "0000000000079" 1
    ∷ [])

-- the small month without a refixed series, and with the last records given
unfoldable pub unrefixed : ℕ → ℕ → List Record → List ℕ
unrefixed share0 share1 records =
    file_of (begin share0 share1 ++ fixed_hours (supply measured (pos 1)) (supply measured (pos 3)) ++ prices ++ records)

unfoldable pub closing : List Record → List ℕ
closing records = unrefixed 1 1 records

-- W6: the volumes alone, with the records after them given; with the prices and the reading they are the month `small`
unfoldable pub volumes : List Record → List ℕ
volumes records =
    file_of
    (begin 1 1 ++ fixed_hours (supply measured (pos 1)) (supply measured (pos 3)) ++ refixed_hours (supply measured (pos 2)) (supply estimated (pos 2)) ++ records)

-- the same where hour 0 weighs nothing
unfoldable pub empty_first : List Record → List ℕ
empty_first records = file_of (begin 1 1 ++ fixed_hours (supply measured (pos 0)) (supply measured (pos 3)) ++ prices ++ records)

-- the first records given, and nothing more
unfoldable pub opening : List Record → List ℕ
opening records = file_of records

pub record WorkedMonths : Type 0 where
  -- "The whole output:"
  pub S1_lines :
      statement final S1
      ≡ ascii
      "area 007 2016-04 hours 3 parties 3 estimated 0\n0000000000017 18900000 27600000 0 8700000 266850\n0000000000024 75600000 63100000 0 -12500000 -382800\n0000000000031 31500000 32500000 2800000 3800000 115950\ntotal 126000000 123200000 2800000 0 0\n"
  -- the reviewer's report of the same month: every share divides evenly, so each running sum is the exact share
  pub S1_report :
      hours_report final S1
      ≡ ascii
      "area 007 2016-04 hours 3 parties 3 estimated 0\n0 measured measured 40000000 39000000 4000000 39000000 37900000 1100000\n1 measured measured 50000000 48000000 5000000 48000000 47400000 600000\n2 measured measured 40000000 39000000 4000000 39000000 37900000 1100000\n0000000000017 0/10000000 0/10000000\n0000000000024 0/10000000 0/10000000\n0000000000031 0/10000000 0/10000000\n"
  pub D3_lines :
      statement final D3
      ≡ ascii
      "area 003 2016-06 hours 2 parties 3 estimated 1\n0000000000017 5 6 0 1 2\n0000000000024 5 0 3 -2 7\n0000000000031 1 2 0 1 -9\ntotal 11 8 3 0 0\n"
  -- running sums 4, 4, 2 and then 5, 5, 1: the distances are -4, -4 and 8, then 4, 4 and -8 fourteenths of a Wh
  pub D3_report :
      hours_report final D3
      ≡ ascii
      "area 003 2016-06 hours 2 parties 3 estimated 1\n0 measured measured 10 10 714285 10 5 5\n1 estimated estimated 1 1 71428 1 3 -2\n0000000000017 -4/14 4/14\n0000000000024 -4/14 4/14\n0000000000031 -8/14 8/14\n"
  pub whole_ore_lines :
      statement final whole_ore
      ≡ ascii
      "area 005 2016-08 hours 2 parties 5 estimated 0\n0000000000017 3 3 0 0 1\n0000000000024 3 5 0 2 1\n0000000000031 3 4 0 1 -1\n0000000000048 3 0 1 -2 -1\n0000000000055 3 2 0 -1 0\ntotal 15 14 1 0 0\n"
  pub report_refused : hours_report final [] ≡ ascii "refused 1 at 0\n"
  -- without refixed hours the fixed ones are applied, in a provisional run; two readings of one party add up; the loss of either sign is the carrier's
  pub fixed_applied :
      statement provisional (closing (reading_of 1 0 2 4 ∷ reading_of 1 1 2 2 ∷ end 9 ∷ []))
      ≡ ascii
      "area 001 2020-01 hours 2 parties 2 estimated 0 provisional\n0000000000017 2 0 -2 -4 -3\n0000000000024 2 6 0 4 3\ntotal 4 6 -2 0 0\n"
  pub refused_1_empty : statement final [] ≡ ascii "refused 1 at 0\n"
  pub refused_1_no_end : statement final (closing (reading_of 1 0 2 4 ∷ [])) ≡ ascii "refused 1 at 8\n"
  pub refused_1_cut : statement final (take 15 (opening (begin 1 1))) ≡ ascii "refused 1 at 1\n"
  pub refused_1_after_the_end : statement final (closing (end 7 ∷ end 7 ∷ [])) ≡ ascii "refused 1 at 8\n"
  pub refused_2 : statement final (closing [] ++ (255 ∷ [])) ≡ ascii "refused 2 at 7\n"
  -- the only byte is 03: cut short (1) before out of order (3)
  pub cut_before_order : statement final (3 ∷ []) ≡ ascii "refused 1 at 0\n"
  pub refused_3_kind : statement final (closing (party_of "0000000000031" 1 ∷ [])) ≡ ascii "refused 3 at 7\n"
  -- an hour field out of order, with a status outside its range: 3 before 4
  pub order_before_range : statement final (opening (begin 1 1 ++ (fixed_hour 1 (supply 3 (pos 0)) ∷ []))) ≡ ascii "refused 3 at 3\n"
  pub refused_4_silent_figure : statement final (opening (begin 1 1 ++ (fixed_hour 0 (supply missing (pos 1)) ∷ []))) ≡ ascii "refused 4 at 3\n"
  pub refused_4_carrier : statement final (opening (heading_of 1 2020 1 2 2 2 ∷ [])) ≡ ascii "refused 4 at 0\n"
  pub refused_5_check_digit : statement final (opening (heading_of 1 2020 1 2 2 0 ∷ party_of "0000000000018" 1 ∷ [])) ≡ ascii "refused 5 at 1\n"
  pub refused_5_not_rising :
      statement final (opening (heading_of 1 2020 1 2 2 0 ∷ party_of "0000000000024" 1 ∷ party_of "0000000000024" 1 ∷ []))
      ≡ ascii "refused 5 at 2\n"
  -- three parties whose GLNs do not rise: the third is above the first, but not above the second
  pub refused_5_third_below_second :
      statement final (opening (heading_of 1 2020 1 2 3 0 ∷ party_of "0000000000017" 1 ∷ party_of "0000000000031" 1 ∷ party_of "0000000000024" 1 ∷ []))
      ≡ ascii "refused 5 at 3\n"
  -- W is judged once the whole file is read, and before the missing hour
  pub refused_6 :
      statement final (small (supply missing (pos 0)) (supply measured (pos 3)) (supply measured (pos 2)) (supply measured (pos 2)) 0 0 4)
      ≡ ascii "refused 6 at 0\n"
  pub refused_7 :
      statement final (small (supply measured (pos 1)) (supply missing (pos 0)) (supply measured (pos 2)) (supply measured (pos 2)) 1 1 4)
      ≡ ascii "refused 7 at 1\n"
  -- all fixed hours before the refixed ones: 8 at the fixed hour 1 before 7 at the refixed hour 0
  pub refused_8 :
      statement final (small (supply measured (pos 1)) (supply measured (negsuc 0)) (supply missing (pos 0)) (supply measured (pos 2)) 1 1 4)
      ≡ ascii "refused 8 at 1\n"
  pub refused_9 :
      statement final (small (supply measured (pos 1)) (supply measured (pos 3)) (supply measured (pos 2)) (supply measured (pos 2000000001)) 1 1 4)
      ≡ ascii "refused 9 at 1\n"
  -- 10 is judged on the fixed series, by hour, before 13 and 14
  pub refused_10 :
      statement final (small (supply measured (pos 0)) (supply measured (pos 2001)) (supply measured (pos 2)) (supply measured (pos 2)) 1 1 4)
      ≡ ascii "refused 10 at 1\n"
  pub refused_11 : statement final (closing (reading_of 1 1 1 4 ∷ [])) ≡ ascii "refused 11 at 7\n"
  -- a reading with every fault: 4 before 11 before 12
  pub range_before_span : statement final (closing (reading_of 2 2 1 1000000001 ∷ [])) ≡ ascii "refused 4 at 7\n"
  pub span_before_energy : statement final (closing (reading_of 1 0 3 1000000001 ∷ [])) ≡ ascii "refused 11 at 7\n"
  pub refused_12 : statement final (closing (reading_of 1 0 2 1000000001 ∷ [])) ≡ ascii "refused 12 at 7\n"
  pub refused_13 :
      statement final (small (supply measured (pos 0)) (supply measured (pos 0)) (supply measured (pos 2)) (supply measured (pos 2)) 1 1 4)
      ≡ ascii "refused 13 at 0\n"
  -- W3: of curve numbers 500,000 and 1,500,000 behind 1,000,000 of 5,000,000, 7 Wh grow from 1 (1.4) to 2 (2.1) to 4 (4.2): 1 and 2. A reading of the month
  -- beside it adds 2 in hour 1.
  pub over_months :
      statement provisional (closing (long_reading_of 1 0 2 7 1000000 5000000 ∷ reading_of 1 1 2 2 ∷ end 9 ∷ []))
      ≡ ascii
      "area 001 2020-01 hours 2 parties 2 estimated 0 provisional\n0000000000017 2 0 -1 -3 -2\n0000000000024 2 5 0 3 2\ntotal 4 5 -1 0 0\n"
  -- W3: before and own weight are just the whole, and the last Wh comes out; one more is 18, also with E 0, at the reading, of 04 and 08 together
  pub just_the_whole :
      statement provisional (closing (long_reading_of 1 0 2 3 3000000 5000000 ∷ end 8 ∷ []))
      ≡ ascii
      "area 001 2020-01 hours 2 parties 2 estimated 0 provisional\n0000000000017 2 0 2 0 1\n0000000000024 2 2 0 0 -1\ntotal 4 2 2 0 0\n"
  pub refused_18 :
      statement provisional (closing (reading_of 1 0 2 1 ∷ long_reading_of 1 0 2 0 3000001 5000000 ∷ end 9 ∷ [])) ≡ ascii "refused 18 at 1\n"
  -- by the true sum, which 64 bits do not hold; and by the whole alone
  pub refused_18_true_sum : statement provisional (closing (long_reading_of 1 0 2 1 18446744073709551615 5000000 ∷ end 8 ∷ [])) ≡ ascii "refused 18 at 0\n"
  pub refused_18_whole : statement provisional (closing (long_reading_of 1 0 2 1 0 8784000000001 ∷ end 8 ∷ [])) ≡ ascii "refused 18 at 0\n"
  -- W3: "tested before 13 of the same reading"; "Zero whole weight with positive E is 13"; of an earlier reading it comes before the 18 of a later one
  pub exceeded_before_nothing : statement provisional (closing (long_reading_of 1 0 2 1 0 0 ∷ end 8 ∷ [])) ≡ ascii "refused 18 at 0\n"
  pub nothing_of_the_earlier :
      statement provisional (empty_first (long_reading_of 1 0 1 4 0 0 ∷ long_reading_of 1 0 2 4 0 0 ∷ end 9 ∷ [])) ≡ ascii "refused 13 at 0\n"
  -- W3: the fields of an 08 are judged as those of a 04
  pub range_of_the_long : statement final (closing (long_reading_of 2 2 1 1000000001 0 0 ∷ [])) ≡ ascii "refused 4 at 7\n"
  pub refused_14 :
      statement provisional (closing (reading_of 1 0 1 1000000000 ∷ reading_of 0 0 1 1000000000 ∷ reading_of 1 0 1 1 ∷ end 10 ∷ []))
      ≡ ascii "refused 14 at 0\n"
  -- a wrong count and bytes after the end: 15 first. W1: and these before 17, here and in `refused_1_after_the_end`, since there are no 06 records
  pub refused_15 : statement final (closing (end 8 ∷ end 8 ∷ [])) ≡ ascii "refused 15 at 7\n"
  -- W1: "A file with no 06 records shall be refused unless the caller says that the month is provisional."
  pub refused_17 : statement final (closing (end 7 ∷ [])) ≡ ascii "refused 17 at 0\n"
  pub report_refused_17 : hours_report final (closing (end 7 ∷ [])) ≡ ascii "refused 17 at 0\n"
  -- W1: "before 6": W is 0 too, which a provisional run tells
  pub not_refixed_before_W : statement final (unrefixed 0 0 (end 7 ∷ [])) ≡ ascii "refused 17 at 0\n"
  pub refused_6_provisional : statement provisional (unrefixed 0 0 (end 7 ∷ [])) ≡ ascii "refused 6 at 0\n"
  -- with 06 records the preview is the statement
  pub S1_preview : statement provisional S1 ≡ statement final S1
  -- W5: "one line per BRP, in rising GLN order": 0000000000017 of the second supplier alone, then 0000000000048 of the first and the third. "between its heading and total
  -- lines": the statement's, whose lines are as of 02 records.
  pub D3_brp_lines :
      brp_statement final D3brps
      ≡ ascii
      "area 003 2016-06 hours 2 parties 3 estimated 1\n0000000000017 5 0 3 -2 7\n0000000000048 6 8 0 2 -7\ntotal 11 8 3 0 0\n"
  pub D3_of_12 : statement final D3brps ≡ statement final D3
  -- W5: "its invoice the sum of their whole øre": 1 and 1 of exactly 0.75 and 0.5, so 2 and not what 1.25 would be rounded to
  pub ore_brp_lines :
      brp_statement final ore_brps
      ≡ ascii "area 005 2016-08 hours 2 parties 5 estimated 0\n0000000000062 6 8 0 2 2\n0000000000079 9 6 1 -2 -2\ntotal 15 14 1 0 0\n"
  -- W5: "A file with 02 records is still read, each party being its own BRP"
  pub S1_brps : brp_statement final S1 ≡ statement final S1
  pub brps_refused : brp_statement final (closing (end 7 ∷ [])) ≡ ascii "refused 17 at 0\n"
  -- W5: "a mixture of 02 and 12 is 3", either way, and before the fields of the record that is of the other kind
  pub refused_3_12_after_02 :
      statement final (opening (heading_of 1 2020 1 2 2 0 ∷ party_of "0000000000017" 1 ∷ brp_party_of "0000000000024" "0000000000024" 1 ∷ [])) ≡ ascii "refused 3 at 2\n"
  pub refused_3_02_after_12 :
      statement final (opening (heading_of 1 2020 1 2 2 0 ∷ brp_party_of "0000000000017" "0000000000024" 1 ∷ party_of "0000000000018" 4000000001 ∷ []))
      ≡ ascii "refused 3 at 2\n"
  -- W6: "A file for the first alone may have no 05 records": its report is that of the file with them; "the statement program goes on refusing such a file with
  -- 3", at the record that stands where hour 0's price is due, a reading or the end
  pub report_without_prices :
      hours_report final (volumes (reading_of 1 0 2 4 ∷ end 8 ∷ [])) ≡ hours_report final (volumes (prices ++ (reading_of 1 0 2 4 ∷ end 10 ∷ [])))
  pub statement_needs_prices : statement final (volumes (reading_of 1 0 2 4 ∷ end 8 ∷ [])) ≡ ascii "refused 3 at 7\n"
  pub brps_need_prices : brp_statement final (volumes (end 7 ∷ [])) ≡ ascii "refused 3 at 7\n"
  -- none or H: half of them are 3 at the record that breaks off; no price and no refixed hour after a reading; a price that is there is judged
  pub half_the_prices : hours_report final (volumes (price 0 (pos 0) ∷ reading_of 1 0 2 4 ∷ end 9 ∷ [])) ≡ ascii "refused 3 at 8\n"
  pub price_after_a_reading : hours_report final (volumes (reading_of 1 0 2 4 ∷ price 0 (pos 0) ∷ [])) ≡ ascii "refused 3 at 8\n"
  pub refixed_after_a_reading :
      hours_report final (file_of (begin 1 1 ++ fixed_hours (supply measured (pos 1)) (supply measured (pos 3)) ++ (reading_of 1 0 2 4 ∷ refixed_hour 0 (supply measured (pos 2)) ∷ [])))
      ≡ ascii "refused 3 at 6\n"
  pub price_judged : hours_report final (volumes (price 0 (pos 5000001) ∷ [])) ≡ ascii "refused 4 at 7\n"
  -- W5: "a bad BRP GLN is 5": a wrong check digit, or not digits; 4 before it
  pub refused_5_brp : statement final (opening (heading_of 1 2020 1 2 2 0 ∷ brp_party_of "0000000000017" "0000000000025" 1 ∷ [])) ≡ ascii "refused 5 at 1\n"
  pub refused_5_brp_no_digits :
      statement final (opening (heading_of 1 2020 1 2 2 0 ∷ brp_party_of "0000000000017" "00000000000x4" 1 ∷ [])) ≡ ascii "refused 5 at 1\n"
  pub range_before_brp :
      statement final (opening (heading_of 1 2020 1 2 2 0 ∷ brp_party_of "0000000000017" "0000000000025" 4000000001 ∷ [])) ≡ ascii "refused 4 at 1\n"
