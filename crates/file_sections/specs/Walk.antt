-- Where the sections of a file start that was walked through, and what the reading of a file tells.
use Rattle.std.specs.Prelude.{List, ◌≡◌, ℕ, ◌+◌, ◌*◌, length, Result}
use Rattle.answer.specs.Said as A
use Rattle.answer.specs.declared.Refused.{Refused}
use Rattle.record.specs.declared.Heading as CHeading
use Rattle.setting.specs.Asked.{prices_asked}
use Rattle.setting.specs.declared.Prices as Called
use Rattle.file_step.specs.Walk.{kind_of_the_last}
use Rattle.file_step.specs.declared.Walk.{Walk}
use Rattle.file_sections.specs.declared.Sections.{Sections}
use Rattle.rules.specs.MonthFile.{MonthFile, read_month}
use Rattle.rules.specs.Record.{body_length}
use Rattle.rules.specs.Refusals.{Answer, given, refusal}
use Rattle.rules.specs.Setting.{Prices, needed, optional}

-- where each section starts, of so many parties with records of this kind, hours, refixed hours and prices: the heading has 10 bytes, an hour 36, a price 7
abbrev pub sections_for : CHeading.Heading → ℕ → ℕ → ℕ → ℕ → Sections
sections_for h party-kind refixed prices readings =
    let party-size : ℕ = 1 + body_length party-kind in
    let fixed_at : ℕ = 10 + party-size * h.parties in
    let refixed-at : ℕ = fixed_at + 36 * h.hours in
    let prices-at : ℕ = refixed-at + 36 * refixed in
    let readings-at : ℕ = prices-at + 7 * prices in
    record {
      heading = h;
      refixed = refixed;
      prices = prices;
      readings = readings;
      party_size = party-size;
      parties_at = 10;
      fixed_at = fixed_at;
      refixed_at = refixed-at;
      prices_at = prices-at;
      readings_at = readings-at;
    }

abbrev pub sections_in : Walk → Sections
sections_in w = sections_for w.heading w.party_kind w.refixed w.prices w.readings

-- the same of a month that was read
unfoldable pub sections_of : MonthFile → Sections
sections_of m =
    sections_for
    (record { area = m.heading.area; year = m.heading.year; month = m.heading.month; hours = m.heading.hours; parties = m.heading.parties; carrier = m.heading.carrier })
    (kind_of_the_last m.parties)
    (length m.refixed)
    (length m.prices)
    (length m.readings)

-- what the reading of a file tells, and what the rules give: the month's sections, or the refusal
abbrev pub told : Result Sections Refused → Answer Sections
told = A.told (λ s. s)

abbrev pub read_answer : Answer MonthFile → Answer Sections
read_answer (given m) = given (sections_of m)
read_answer (refusal r place) = refusal r place

-- THE PROMISE of `read`: its `ensures` cites it, and so does what is proved of every service (`every_service`)
abbrev pub Promised : Called.Prices → List ℕ → Result Sections Refused → Type 0
Promised prices file r = told r ≡ read_answer (read_month (prices_asked prices) file)

-- the file is read with these sections, its prices needed or not
pub record Read (prices : Prices) (file : List ℕ) (s : Sections) : Type 0 where
  pub is : read_answer (read_month prices file) ≡ given s

-- the file is accepted by the reading: what is read with its prices needed is read without (law `read_alike` of the rules)
abbrev pub Accepted : List ℕ → Sections → Type 0
Accepted file s = Read optional file s

-- and has its prices
abbrev pub AcceptedPriced : List ℕ → Sections → Type 0
AcceptedPriced file s = Read needed file s
