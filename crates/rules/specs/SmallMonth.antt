-- One small month with both series, worked through from its file's bytes to its statement and to the reviewer's report, each figure to be followed by hand. Proved
-- in proofs/SmallMonth, by computing the definitions. All other worked cases, those of 01 marked P among them, stand in the crate `worked_cases`, which makes its
-- months by this file too.
use Rattle.std.specs.Prelude.{List, [], ◌∷◌, ◌++◌, ◌≡◌, ℕ, ℤ, pos}
use Prim.Native.String.{String}
use Rattle.rules.specs.Flows.{Flows}
use Rattle.rules.specs.HoursReport.{hours_report}
use Rattle.rules.specs.Limits.{measured, estimated}
use Rattle.rules.specs.Record.{own_brp, this_month, Record, heading, party, fixed_hour, reading, price, refixed_hour, end, record_bytes}
use Rattle.rules.specs.Setting.{final}
use Rattle.rules.specs.Statement.{statement}
use Rattle.rules.specs.Words.{ascii}

-- the file of these records
unfoldable pub file_of : List Record → List ℕ
file_of [] = []
file_of (r ∷ records) = record_bytes r ++ file_of records

-- an hour whose only flow is its net supply
unfoldable pub supply : ℕ → ℤ → Flows
supply status net = record { status = status; net = net; production = 0; hourly = 0; flex = 0 }

unfoldable pub party_of : String → ℕ → Record
party_of gln share = party (record { gln = ascii gln; brp = own_brp; share = share })

unfoldable pub reading_of : ℕ → ℕ → ℕ → ℕ → Record
reading_of who a b e = reading (record { party = who; a = a; b = b; e = e; over = this_month })

unfoldable pub heading_of : ℕ → ℕ → ℕ → ℕ → ℕ → ℕ → Record
heading_of area year month hours parties carrier =
    heading (record { area = area; year = year; month = month; hours = hours; parties = parties; carrier = carrier })

-- A month of two hours and two parties of equal shares; the second party's one reading runs over both hours. Its parts can be put in faulty.
unfoldable pub begin : ℕ → ℕ → List Record
begin share0 share1 =
    heading_of 1 2020 1 2 2 0 ∷ party_of "0000000000017" share0 ∷ party_of "0000000000024" share1 ∷ []

unfoldable pub fixed_hours : Flows → Flows → List Record
fixed_hours f0 f1 = fixed_hour 0 f0 ∷ fixed_hour 1 f1 ∷ []

unfoldable pub refixed_hours : Flows → Flows → List Record
refixed_hours f0 f1 = refixed_hour 0 f0 ∷ refixed_hour 1 f1 ∷ []

-- 0 and 1,000,000 øre per MWh: an invoice is then the difference of hour 1, in Wh
unfoldable pub prices : List Record
prices = price 0 (pos 0) ∷ price 1 (pos 1000000) ∷ []

unfoldable pub small : Flows → Flows → Flows → Flows → ℕ → ℕ → ℕ → List ℕ
small f0 f1 r0 r1 share0 share1 e =
    file_of (begin share0 share1 ++ fixed_hours f0 f1 ++ refixed_hours r0 r1 ++ prices ++ (reading_of 1 0 2 e ∷ end 10 ∷ []))

pub record SmallMonth : Type 0 where
  -- "The curve always comes from the fixed one": 1 and 3, so E = 4 falls 1 and 3 (by the refixed 2 and 2 it would fall 2 and 2). The second party has 1
  -- and 1 distributed, so its differences are 0 and 2. Applied hours with status 2: one, the refixed hour 1.
  pub curve_from_fixed :
      statement final (small (supply measured (pos 1)) (supply measured (pos 3)) (supply measured (pos 2)) (supply estimated (pos 2)) 1 1 4)
      ≡ ascii
      "area 001 2020-01 hours 2 parties 2 estimated 1\n0000000000017 2 0 0 -2 -2\n0000000000024 2 4 0 2 2\ntotal 4 4 0 0 0\n"
  -- the same month in the report: hour 1 measured at fixation and estimated at refixation
  pub report_of_both_series :
      hours_report final (small (supply measured (pos 1)) (supply measured (pos 3)) (supply measured (pos 2)) (supply estimated (pos 2)) 1 1 4)
      ≡ ascii
      "area 001 2020-01 hours 2 parties 2 estimated 1\n0 measured measured 1 2 500000 2 1 1\n1 measured estimated 3 2 1500000 2 3 -1\n0000000000017 0/2 0/2\n0000000000024 0/2 0/2\n"
