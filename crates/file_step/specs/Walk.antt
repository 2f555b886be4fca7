-- How far the reading of a file has come, by numbers, and what month read so far it stands for; what one record more then does.
use Rattle.std.specs.Prelude.{Bool, true, false, cond, ◌&&◌, ◌||◌, List, [], ◌∷◌, ◌≡◌, ℕ, ◌+◌, ◌≤◌, ◌<◌, eqb, leb, ltb, length, Option, Some, None, Result, Ok, Err}
use Rattle.answer.specs.Said.{verdict_of}
use Rattle.answer.specs.declared.Refused.{Refused}
use Rattle.answer.specs.declared.Refusal.TheVariants.{GlnFault, WrongCount}
use Rattle.gln.specs.Gln.{gln_answer}
use Rattle.record.specs.Record.{kind_of_brp, heading_of}
use Rattle.record.specs.declared.Record.{Record}
use Rattle.record.specs.declared.Record.TheVariants.{Heading, Party, FixedHour, Reading, Price, RefixedHour, End}
use Rattle.setting.specs.Asked.{prices_asked}
use Rattle.setting.specs.declared.Prices.{Prices}
use Rattle.setting.specs.declared.Prices.TheVariants.{Needed, Optional}
use Rattle.file_step.specs.declared.Walk.{Walk}
use Rattle.file_step.specs.declared.Step.{Step}
use Rattle.file_step.specs.declared.Step.TheVariants as S
use Rattle.rules.specs.Gln.{digits_onto}
use Rattle.rules.specs.Limits.{longest_file}
use Rattle.rules.specs.MonthFile.{MonthFile, rises_after, record_checks, is_end}
use Rattle.rules.specs.MonthFile as F
use Rattle.rules.specs.Record as RRecord
use Rattle.rules.specs.Refusals.{accepted, first}

-- nothing read yet
abbrev pub start_of : Prices → Walk
start_of asked =
    record {
      prices_asked = asked;
      records = 0;
      heading = record { area = 0; year = 0; month = 0; hours = 0; parties = 0; carrier = 0 };
      parties = 0;
      fixed = 0;
      refixed = 0;
      prices = 0;
      readings = 0;
      last_gln = 0;
      party_kind = 0;
    }

-- H times 03, and none or H times 06
abbrev pub hours_in : Walk → Bool
hours_in w = eqb w.fixed w.heading.hours && (eqb w.refixed 0 || eqb w.refixed w.heading.hours)

-- where the prices are not needed, there may be none of them
abbrev pub unless_needed : Prices → Bool → Bool
unless_needed Needed none = false
unless_needed Optional none = none

-- whether what comes after the prices is due
abbrev pub after_prices_in : Walk → Bool
after_prices_in w =
    (eqb w.prices w.heading.hours || unless_needed w.prices_asked (eqb w.prices 0 && hours_in w)) && leb 1 w.heading.hours

-- the order of the records, by numbers: law `due_is` reads it as the rules' `due` and `priced_for`
abbrev pub due_in : Walk → Record → Bool
due_in w (Heading h) = eqb w.heading.hours 0
due_in w (Party brp share) = ltb w.parties w.heading.parties && (eqb w.parties 0 || eqb w.party_kind (kind_of_brp brp))
due_in w (FixedHour hour f) = eqb w.parties w.heading.parties && ltb w.fixed w.heading.hours && eqb hour w.fixed
due_in w (Reading r) = after_prices_in w
due_in w (Price hour p) = hours_in w && ltb w.prices w.heading.hours && eqb w.readings 0 && eqb hour w.prices
due_in w (RefixedHour hour f) =
    eqb w.fixed w.heading.hours && ltb w.refixed w.heading.hours && eqb w.prices 0 && eqb w.readings 0 && eqb hour w.refixed
due_in w (End count) = after_prices_in w

-- with one record more; of a party the number of its GLN and its record's kind are kept
abbrev pub with_in : Walk → Record → ℕ → Walk
with_in w (Heading h) number =
    record {
      prices_asked = w.prices_asked;
      records = w.records + 1;
      heading = h;
      parties = w.parties;
      fixed = w.fixed;
      refixed = w.refixed;
      prices = w.prices;
      readings = w.readings;
      last_gln = w.last_gln;
      party_kind = w.party_kind;
    }
with_in w (Party brp share) number =
    record {
      prices_asked = w.prices_asked;
      records = w.records + 1;
      heading = w.heading;
      parties = w.parties + 1;
      fixed = w.fixed;
      refixed = w.refixed;
      prices = w.prices;
      readings = w.readings;
      last_gln = number;
      party_kind = kind_of_brp brp;
    }
with_in w (FixedHour hour f) number =
    record {
      prices_asked = w.prices_asked;
      records = w.records + 1;
      heading = w.heading;
      parties = w.parties;
      fixed = w.fixed + 1;
      refixed = w.refixed;
      prices = w.prices;
      readings = w.readings;
      last_gln = w.last_gln;
      party_kind = w.party_kind;
    }
with_in w (Reading r) number =
    record {
      prices_asked = w.prices_asked;
      records = w.records + 1;
      heading = w.heading;
      parties = w.parties;
      fixed = w.fixed;
      refixed = w.refixed;
      prices = w.prices;
      readings = w.readings + 1;
      last_gln = w.last_gln;
      party_kind = w.party_kind;
    }
with_in w (Price hour p) number =
    record {
      prices_asked = w.prices_asked;
      records = w.records + 1;
      heading = w.heading;
      parties = w.parties;
      fixed = w.fixed;
      refixed = w.refixed;
      prices = w.prices + 1;
      readings = w.readings;
      last_gln = w.last_gln;
      party_kind = w.party_kind;
    }
with_in w (RefixedHour hour f) number =
    record {
      prices_asked = w.prices_asked;
      records = w.records + 1;
      heading = w.heading;
      parties = w.parties;
      fixed = w.fixed;
      refixed = w.refixed + 1;
      prices = w.prices;
      readings = w.readings;
      last_gln = w.last_gln;
      party_kind = w.party_kind;
    }
with_in w (End count) number =
    record {
      prices_asked = w.prices_asked;
      records = w.records + 1;
      heading = w.heading;
      parties = w.parties;
      fixed = w.fixed;
      refixed = w.refixed;
      prices = w.prices;
      readings = w.readings;
      last_gln = w.last_gln;
      party_kind = w.party_kind;
    }

-- no more of any kind than records
pub record Counted (w : Walk) : Type 0 where
  pub parties : w.parties ≤ w.records
  pub fixed : w.fixed ≤ w.records
  pub refixed : w.refixed ≤ w.records
  pub prices : w.prices ≤ w.records
  pub readings : w.readings ≤ w.records

-- and fewer records than a file has bytes
pub record Few (w : Walk) : Type 0 where
  pub records : w.records < longest_file
  pub counted : Counted w

-- the kind of the last party's record; 0 where there is none
unfoldable pub kind_of_the_last : List RRecord.Party → ℕ
kind_of_the_last [] = 0
kind_of_the_last (q ∷ []) = RRecord.party_kind_of q.brp
kind_of_the_last (q ∷ (q' ∷ qs)) = kind_of_the_last (q' ∷ qs)

-- the month read so far that the numbers stand for
pub record Stands (m : MonthFile) (w : Walk) : Type 0 where
  pub heading : heading_of w.heading ≡ m.heading
  pub parties : w.parties ≡ length m.parties
  pub fixed : w.fixed ≡ length m.fixed
  pub refixed : w.refixed ≡ length m.refixed
  pub prices : w.prices ≡ length m.prices
  pub readings : w.readings ≡ length m.readings
  pub rising : (p : RRecord.Party) → rises_after m.parties p ≡ eqb w.parties 0 || ltb w.last_gln (digits_onto 0 p.gln)
  pub kind : w.party_kind ≡ kind_of_the_last m.parties

-- what a step says of the record at the start of the bytes, for the month that has been read so far
abbrev pub StepMeans : Walk → List ℕ → MonthFile → Result Step Refused → Type 0
StepMeans w bytes m (Ok (S.Next v size)) =
    (first (record_checks (prices_asked w.prices_asked) m w.records bytes) ≡ accepted) × (is_end (RRecord.record_at bytes) ≡ false)
    × Stands (F.with m (RRecord.record_at bytes)) v
StepMeans w bytes m (Ok S.End) = (first (record_checks (prices_asked w.prices_asked) m w.records bytes) ≡ accepted) × (is_end (RRecord.record_at bytes) ≡ true)
StepMeans w bytes m (Err r) = first (record_checks (prices_asked w.prices_asked) m w.records bytes) ≡ verdict_of r

-- of a step that goes on: so many bytes further, one record more, the prices needed or not as before
abbrev pub StepMoves : Walk → List ℕ → Result Step Refused → Type 0
StepMoves w bytes (Ok (S.Next v size)) =
    (size ≡ 1 + RRecord.body_length (RRecord.kind_at bytes)) × (v.records ≡ w.records + 1) × Counted v × (size ≤ length bytes)
    × (v.prices_asked ≡ w.prices_asked)
StepMoves w bytes (Ok S.End) = (RRecord.body_length (RRecord.kind_at bytes) ≡ 4) × (5 ≤ length bytes)
StepMoves w bytes (Err r) = Unit

pub record Stepped (w : Walk) (bytes : List ℕ) (r : Result Step Refused) : Type 0 where
  pub means : (m : MonthFile) → Stands m w → StepMeans w bytes m r
  pub moves : StepMoves w bytes r

pub record Steppable (w : Walk) (bytes : List ℕ) : Type 0 where
  pub few : Few w
  pub some : 1 ≤ length bytes

abbrev pub moved_in : Walk → Record → ℕ → ℕ → Step
moved_in w r number size = S.Next (with_in w r number) (size + 1)

-- "GLNs rise strictly.": against the number of the last one
abbrev pub rises : Walk → ℕ → Bool
rises w number = eqb w.parties 0 || ltb w.last_gln number

abbrev pub risen_in : Walk → Record → Option ℕ → ℕ → Result Step Refused
risen_in w r (Some number) size = cond (rises w number) (Ok (moved_in w r number size)) (Err (GlnFault, w.records))
risen_in w r None size = Err (GlnFault, w.records)

abbrev pub counted_in : Walk → ℕ → Result Step Refused
counted_in w count = cond (eqb count w.records) (Ok S.End) (Err (WrongCount, w.records))

-- the last of a record's checks, and what it comes to
abbrev pub judged_in : Walk → Record → List ℕ → ℕ → Result Step Refused
judged_in w (Heading h) gln size = Ok (moved_in w (Heading h) 0 size)
judged_in w (Party brp share) gln size = risen_in w (Party brp share) (gln_answer gln) size
judged_in w (FixedHour hour f) gln size = Ok (moved_in w (FixedHour hour f) 0 size)
judged_in w (Reading r) gln size = Ok (moved_in w (Reading r) 0 size)
judged_in w (Price hour p) gln size = Ok (moved_in w (Price hour p) 0 size)
judged_in w (RefixedHour hour f) gln size = Ok (moved_in w (RefixedHour hour f) 0 size)
judged_in w (End count) gln size = counted_in w count
