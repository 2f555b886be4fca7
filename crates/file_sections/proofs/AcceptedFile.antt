-- What an accepted file's sections say of the month that the file is read as: for the crates above, which know the file and its sections alone.
use mathlib.Core.List.{List}
use mathlib.Core.Path.{◌≡◌, refl, sym, ◌∙◌, ap, ap₂}
use Prim.Native.Nat.{ℕ}
use native.Mathlib.Omega.{arith}
use lib.ListN.{length}
use Rattle.std.specs.Prelude.{Ok}
use Rattle.file_sections.specs.declared.Sections.{Sections}
use Rattle.setting.specs.Asked.{prices_asked}
use Rattle.setting.specs.declared.Prices as Called
use Rattle.file_sections.specs.Walk.{read_answer, sections_of, Promised, Read, Accepted, AcceptedPriced}
use Rattle.rules.specs.Month.{month_read, month_of, estimated_hours}
use Rattle.rules.specs.MonthFile.{MonthFile, H, P, read_month}
use Rattle.rules.specs.Refusals.{Answer, given, refusal}
use Rattle.rules.specs.Setting.{Prices, needed, optional}
use Rattle.rules.specs.Statement.{heading_text, heading_line}
use Rattle.rules.proofs.Setting.{read_alike}
use Rattle.rules.proofs.Whole.{Whole, what_is_read_is_whole, what_is_read_is_priced}

pub month_of_lem : (prices : Prices) (file : List ℕ) {m : MonthFile} → read_month prices file ≡ given m → month_of file ≡ m
unfolding month_of month_read
month_of_lem prices file e = ap month_read (read_alike prices file e)

month_in : (a : Answer MonthFile) {s : Sections} → read_answer a ≡ given s → (m : MonthFile) × (a ≡ given m)
month_in (given m) e = (m, refl)
month_in (refusal r place) e = absurd (let z : ◌≡◌ {A = ℕ} 0 1 = cc in omega arith)

-- what the reading accepted
pub accepted_so : (prices : Called.Prices) (file : List ℕ) (s : Sections) → Promised prices file (Ok s) → Read (prices_asked prices) file s
accepted_so prices file s e = record { is = sym e }

-- the file is read as its month
pub read_as : (prices : Prices) (file : List ℕ) (s : Sections) → Read prices file s → read_month prices file ≡ given (month_of file)
read_as prices file s ok = let m = month_in (read_month prices file) ok.is in m.1 ∙ ap given (sym (month_of_lem prices file m.1))

-- with its prices needed or not
pub read_without : (prices : Prices) (file : List ℕ) (s : Sections) → Read prices file s → Accepted file s
read_without prices file s ok =
    record { is = ap read_answer (read_alike prices file (read_as prices file s ok) ∙ sym (read_as prices file s ok)) ∙ ok.is }

module _ (file : List ℕ) (s : Sections) (ok : Accepted file s) where
  as_its_month : read_month optional file ≡ given (month_of file)
  as_its_month = read_as optional file s ok

  -- which is whole
  pub month_whole : Whole (month_of file)
  month_whole = what_is_read_is_whole optional file as_its_month

  pub sections_are : s ≡ sections_of (month_of file)
  sections_are = let same : given (sections_of (month_of file)) ≡ given s = ap read_answer (sym as_its_month) ∙ ok.is in cc

  -- how many of each kind
  pub hours_are : s.heading.hours ≡ H (month_of file)
  unfolding sections_of H
  hours_are = ap (λ (x : Sections). x.heading.hours) sections_are

  pub parties_are : s.heading.parties ≡ P (month_of file)
  unfolding sections_of P
  parties_are = ap (λ (x : Sections). x.heading.parties) sections_are

  pub carrier_is : s.heading.carrier ≡ (month_of file).heading.carrier
  unfolding sections_of
  carrier_is = ap (λ (x : Sections). x.heading.carrier) sections_are

  pub refixed_are : s.refixed ≡ length (month_of file).refixed
  unfolding sections_of
  refixed_are = ap (λ (x : Sections). x.refixed) sections_are

  pub prices_are : s.prices ≡ length (month_of file).prices
  unfolding sections_of
  prices_are = ap (λ (x : Sections). x.prices) sections_are

  pub readings_are : s.readings ≡ length (month_of file).readings
  unfolding sections_of
  readings_are = ap (λ (x : Sections). x.readings) sections_are

  -- the heading line, once its estimated hours are counted
  pub heading_text_lem :
      {estimated : ℕ} → estimated ≡ estimated_hours (month_of file)
      → heading_text s.heading.area s.heading.year s.heading.month s.heading.hours s.heading.parties estimated s.refixed ≡ heading_line (month_of file)
  unfolding heading_line H P sections_of
  heading_text_lem counted =
      ap₂ (λ (x : Sections) (k : ℕ). heading_text x.heading.area x.heading.year x.heading.month x.heading.hours x.heading.parties k x.refixed) sections_are counted

-- WHERE THE PRICES ARE NEEDED, there is one for each hour
pub all_priced_holds : (file : List ℕ) (s : Sections) → AcceptedPriced file s → s.prices ≡ s.heading.hours
all_priced_holds file s ok =
    let as-without : Accepted file s = read_without needed file s ok in
    prices_are file s as-without ∙ what_is_read_is_priced needed file (read_as needed file s ok) ∙ sym (hours_are file s as-without)
