-- WHAT A WELL-FORMED MONTH FILE IS (01 "The month file", "Numbers that bound it"), without a reader: the bytes of a month's records, in their order, each
-- within its rules. That a file is read as a month exactly when it is the file of that month, and the month well formed, is proved in proofs/WellFormed.
use Rattle.std.specs.Prelude.{true, List, [], ◌∷◌, ◌++◌, ◌⊎◌, ◌≡◌, ℕ, suc, ◌^◌, ◌≤◌, ◌<◌, ℤ, length, get_or}
use Rattle.rules.specs.Flows.{Flows, flows_in_range, silent_is_zero}
use Rattle.rules.specs.Gln.{valid_gln, digits_onto}
use Rattle.rules.specs.Limits.{greatest_share, greatest_energy, greatest_price, longest_file}
use Rattle.rules.specs.Record.{Heading, Party, Over, this_month, many_months, Reading, Record, heading, party, fixed_hour, reading, price, refixed_hour, end}
use Rattle.rules.specs.Record.{record_bytes, brp_gln, party_kind_of, MonthFile, H, P, heading_in_range}
use Rattle.rules.specs.Setting.{Prices, needed, optional}
use Rattle.rules.specs.Words.{within_ℤ}

-- bytes: every one below 256
unfoldable pub Bytes : List ℕ → Type 0
Bytes l = (i : ℕ) → get_or l i 0 < 256

-- every member of a list is such
abbrev pub Every : {A : Type 0} → (A → Type 0) → List A → Type 0
Every is [] = Unit
Every is (x ∷ l) = is x × Every is l

-- THE FILE OF A MONTH

-- the entries of a list as records, numbered from n on: "Hour fields run 0, 1, 2 and so on"
unfoldable pub numbered : {A : Type 0} → (ℕ → A → Record) → ℕ → List A → List Record
numbered make n [] = []
numbered make n (x ∷ l) = make n x ∷ numbered make (suc n) l

-- a party and a reading have no number of their own in the file
abbrev pub as_party : ℕ → Party → Record
as_party n p = party p

abbrev pub as_reading : ℕ → Reading → Record
as_reading n r = reading r

-- "Order: one 01; P times 02; H times 03; none or H times 06; H times 05; any number of 04; one 07.": all but the last. W6: none or H times 05. W3: an 08 "stands among the 04 records". W5: a 12 "in
-- place of 02 for all parties of a file".
unfoldable pub records_of : MonthFile → List Record
records_of m =
    heading m.heading
    ∷ (numbered as_party 0 m.parties
    ++ (numbered fixed_hour 0 m.fixed
    ++ (numbered refixed_hour 0 m.refixed ++ (numbered price 0 m.prices ++ numbered as_reading 0 m.readings))))

-- the bytes of some records, one after the other
unfoldable pub bytes_of_all : List Record → List ℕ
bytes_of_all [] = []
bytes_of_all (r ∷ records) = record_bytes r ++ bytes_of_all records

-- "07 end: number of records before it", and nothing after it
unfoldable pub file_of : MonthFile → List ℕ
file_of m = bytes_of_all (records_of m) ++ record_bytes (end (length (records_of m)))

-- A WELL-FORMED MONTH: each record within its rules

-- "Area 1..999. Year 2000..2099. Month 1..12. H 1..745. P 1..64; loss carrier .. below P."
abbrev pub HeadingRight : Heading → Type 0
HeadingRight h = heading_in_range h ≡ true

-- "Load share 0..4,000,000,000", and a GLN of thirteen digits with the right check digit, its BRP's too
abbrev pub PartyRight : Party → Type 0
PartyRight p = (p.share ≤ greatest_share) × (valid_gln p.gln ≡ true) × (valid_gln (brp_gln p) ≡ true)

-- "Net supply -8,000,000,000..8,000,000,000; other flows 0..8,000,000,000", status 0 to 2, and nothing but 0 with status 0
abbrev pub FlowsRight : Flows → Type 0
FlowsRight f = (flows_in_range f ≡ true) × (silent_is_zero f ≡ true)

-- "Price -5,000,000..5,000,000."
abbrev pub PriceRight : ℤ → Type 0
PriceRight z = within_ℤ greatest_price z ≡ true

-- "a reading's party below P"; a below b, b at most H; "E at most 1,000,000,000."
abbrev pub ReadingRight : ℕ → ℕ → Reading → Type 0
ReadingRight hours parties r = (r.party < parties) × (r.a < r.b) × (r.b ≤ hours) × (r.e ≤ greatest_energy)

-- WHAT NO RULE BOUNDS IS WHAT ITS FIELD CAN HOLD. W3: weights of 8 bytes each
abbrev pub WeightsHeld : Over → Type 0
WeightsHeld this_month = Unit
WeightsHeld (many_months before whole) = (before < 256 ^ 8) × (whole < 256 ^ 8)

-- and "the end count may be any 4 bytes"
abbrev pub Held : Record → Type 0
Held (heading h) = Unit
Held (party p) = Unit
Held (fixed_hour hour f) = Unit
Held (reading r) = WeightsHeld r.over
Held (price hour p) = Unit
Held (refixed_hour hour f) = Unit
Held (end count) = count < 256 ^ 4

abbrev pub ReadingHeld : Reading → Type 0
ReadingHeld r = WeightsHeld r.over

-- the GLN of one party is below that of another, both read as numbers
abbrev pub Below : Party → Party → Type 0
Below p q = digits_onto 0 p.gln < digits_onto 0 q.gln

-- "GLNs rise strictly.": each party's is below those of all the parties after it
abbrev pub Rising : List Party → Type 0
Rising [] = Unit
Rising (p ∷ later) = Every (Below p) later × Rising later

-- W5: "a mixture of 02 and 12 is 3": the parties' records are all of one kind, the first one's
abbrev pub SameKind : Party → Party → Type 0
SameKind p q = party_kind_of p.brp ≡ party_kind_of q.brp

abbrev pub OneKind : List Party → Type 0
OneKind [] = Unit
OneKind (p ∷ later) = Every (SameKind p) later

-- all the records that the heading announces, each within its rules
pub record Whole (m : MonthFile) : Type 0 where
  pub head : HeadingRight m.heading
  -- "P times 02; H times 03; none or H times 06; H times 05". W6: "may have no 05 records"
  pub all_parties : length m.parties ≡ P m
  pub all_fixed : length m.fixed ≡ H m
  pub none_or_all_refixed : (length m.refixed ≡ 0) ⊎ (length m.refixed ≡ H m)
  pub none_or_all_prices : (length m.prices ≡ 0) ⊎ (length m.prices ≡ H m)
  pub parties : Every PartyRight m.parties
  pub rising : Rising m.parties
  pub one_kind : OneKind m.parties
  pub fixed : Every FlowsRight m.fixed
  pub refixed : Every FlowsRight m.refixed
  pub prices : Every PriceRight m.prices
  pub readings : Every (ReadingRight (H m) (P m)) m.readings

-- where the prices are needed, they are there
abbrev pub Priced : Prices → MonthFile → Type 0
Priced needed m = length m.prices ≡ H m
Priced optional m = Unit

-- and each weight has room in its bytes, and "At most 65,536 bytes."
pub record WellFormed (prices : Prices) (m : MonthFile) : Type 0 where
  pub whole : Whole m
  pub priced : Priced prices m
  pub weights : Every ReadingHeld m.readings
  pub not_too_long : length (file_of m) ≤ longest_file
