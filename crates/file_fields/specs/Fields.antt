-- What the readers of an accepted file's fields ask and give: what stands in the month that the file is read as.
use Rattle.std.specs.Prelude.{List, ◌≡◌, ◌⊎◌, ℕ, ◌+◌, ◌<◌, ℤ, drop}
use Rattle.record.specs.Record.{flows_of, reading_of, Whole}
use Rattle.record.specs.declared.Flows as CFlows
use Rattle.record.specs.declared.Reading as CReading
use Rattle.file_sections.specs.declared.Sections.{Sections}
use Rattle.file_sections.specs.Walk.{Accepted}
use Rattle.rules.specs.Brp.{brp_of}
use Rattle.rules.specs.Month.{flows_at, party_at, price_at, share_of, month_of}
use Rattle.rules.specs.MonthFile.{MonthFile, read_month}
use Rattle.rules.specs.Record.{reading_kind, long_reading_kind, reading, brp_gln, kind_at, record_at}
use Rattle.rules.specs.Setting.{Prices}
use Rattle.rules.specs.Refusals.{given}
use Rattle.rules.proofs.Places.{sizes_before}

pub record FixedAsked (file : List ℕ) (s : Sections) (t : ℕ) : Type 0 where
  pub accepted : Accepted file s
  pub hour : t < s.heading.hours

pub record RefixedAsked (file : List ℕ) (s : Sections) (t : ℕ) : Type 0 where
  pub accepted : Accepted file s
  pub hour : t < s.refixed

pub record PriceAsked (file : List ℕ) (s : Sections) (t : ℕ) : Type 0 where
  pub accepted : Accepted file s
  pub hour : t < s.prices

-- a reading of either kind stands whole at a byte
pub record ReadingAsked (file : List ℕ) (place : ℕ) : Type 0 where
  pub stands : Whole (drop place file)
  pub kind : (kind_at (drop place file) ≡ reading_kind) ⊎ (kind_at (drop place file) ≡ long_reading_kind)

-- reading j of an accepted file, which stands behind the bytes of those before it: an 08 has more than a 04
pub record ReadingPlaced (file : List ℕ) (s : Sections) (j place : ℕ) : Type 0 where
  pub accepted : Accepted file s
  pub number : j < s.readings
  pub is : place ≡ s.readings_at + sizes_before reading (month_of file).readings j

pub record PartyAsked (file : List ℕ) (s : Sections) (i : ℕ) : Type 0 where
  pub accepted : Accepted file s
  pub party : i < s.heading.parties

-- of the month that the file is read as, with its prices needed or not
pub record FixedIs (file : List ℕ) (t : ℕ) (f : CFlows.Flows) : Type 0 where
  pub is : (prices : Prices) (m : MonthFile) → read_month prices file ≡ given m → flows_of f ≡ flows_at m.fixed t

pub record RefixedIs (file : List ℕ) (t : ℕ) (f : CFlows.Flows) : Type 0 where
  pub is : (prices : Prices) (m : MonthFile) → read_month prices file ≡ given m → flows_of f ≡ flows_at m.refixed t

pub record PriceIs (file : List ℕ) (t : ℕ) (z : ℤ) : Type 0 where
  pub is : (prices : Prices) (m : MonthFile) → read_month prices file ≡ given m → z ≡ price_at m t

-- the reading that stands there
pub record ReadingIs (file : List ℕ) (place : ℕ) (x : CReading.Reading) : Type 0 where
  pub is : reading (reading_of x) ≡ record_at (drop place file)

pub record ShareIs (file : List ℕ) (i n : ℕ) : Type 0 where
  pub is : (prices : Prices) (m : MonthFile) → read_month prices file ≡ given m → n ≡ share_of m i

pub record GlnIs (file : List ℕ) (i : ℕ) (gln : List ℕ) : Type 0 where
  pub is : (prices : Prices) (m : MonthFile) → read_month prices file ≡ given m → gln ≡ (party_at m i).gln

pub record BrpGlnIs (file : List ℕ) (i : ℕ) (gln : List ℕ) : Type 0 where
  pub is : (prices : Prices) (m : MonthFile) → read_month prices file ≡ given m → gln ≡ brp_gln (party_at m i)

pub record BrpNumberIs (file : List ℕ) (i n : ℕ) : Type 0 where
  pub is : (prices : Prices) (m : MonthFile) → read_month prices file ≡ given m → n ≡ brp_of m i
