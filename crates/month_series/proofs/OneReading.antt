-- 18 and 13 of one reading of an accepted file, by its weights and two beginnings of the curve: both stand in the lent list, the second is not less, and they
-- say what the rules say.
use mathlib.Core.List.{List, [], ◌∷◌}
use mathlib.Core.Path.{◌≡◌, sym, ◌∙◌, ap, subst}
use Prim.Native.Nat.{ℕ, suc, ◌+◌, ◌-◌, ◌≤◌, ◌<◌}
use native.Mathlib.Numerals.{add-one}
use native.Mathlib.Omega.{arith}
use lib.ListN.{length, get_or}
use Rattle.file_fields.specs.Fields.{ReadingPlaced, ReadingIs}
use Rattle.file_sections.specs.declared.Sections.{Sections}
use Rattle.file_sections.proofs.AcceptedFile.{month_whole, readings_are}
use Rattle.file_fields.proofs.Readers.{reading_read}
use Rattle.month_series.specs.Series.{beginning, beginnings_of, spread_of, spread_checks}
use Rattle.month_series.proofs.Weights.{beginning_rises, S_by_beginnings}
use Rattle.record.specs.Record.{reading_of}
use Rattle.record.specs.declared.Reading as CReading
use Rattle.periodise.specs.declared.Spread.{Spread}
use Rattle.rules.specs.Month.{month_of, curve, reading_at, S, whole_of, reading_checks, reading_verdict}
use Rattle.rules.specs.MonthFile.{MonthFile, H, P}
use Rattle.rules.specs.Record.{Reading, reading}
use Rattle.rules.specs.Refusals.{Verdict, first}
use Rattle.rules.proofs.Loops.{figures_length, figures_at}
use Rattle.rules.proofs.Places.{sizes_before}
use Rattle.rules.proofs.Whole.{every_at, ReadingRight}

-- the first reading stands where the readings start, and the number of the next is one more
pub none_before : (start : ℕ) (readings : List Reading) → start ≡ start + sizes_before reading readings 0
unfolding sizes_before
none_before start [] = omega arith
none_before start (r ∷ readings) = omega arith

pub one_further : (start : ℕ) (readings : List Reading) (j : ℕ) → start + sizes_before reading readings (suc j) ≡ start + sizes_before reading readings (j + 1)
one_further start readings j = ap (λ (n : ℕ). start + sizes_before reading readings n) (sym (add-one j))

-- reading j of an accepted file, read beside the beginnings of the file's curve
pub record Read (file : List ℕ) (s : Sections) (lent : List ℕ) (j place : ℕ) (x : CReading.Reading) : Type 0 where
  pub written : lent ≡ beginnings_of (month_of file)
  pub placed : ReadingPlaced file s j place
  pub is : ReadingIs file place x

module _ {file : List ℕ} {s : Sections} {lent : List ℕ} {j place : ℕ} {x : CReading.Reading} (read : Read file s lent j place x) where
  abbrev m : MonthFile
  m = month_of file

  pub in_file_lem : j < length m.readings
  in_file_lem = omega (arith, read.placed.number, readings_are file s read.placed.accepted)

  same : reading_of x ≡ reading_at m j
  same = reading_read file s j place read.placed read.is

  right : ReadingRight (H m) (P m) (reading_of x)
  unfolding reading_at
  right =
      subst (ReadingRight (H m) (P m)) (sym same)
      (every_at (ReadingRight (H m) (P m)) m.readings (month_whole file s read.placed.accepted).readings j _ in_file_lem)

  many : length lent ≡ suc (H m)
  many = ap length read.written ∙ figures_length _ _

  pub ends_stand : (x.a < length lent) × (x.b < length lent)
  ends_stand = (omega (arith, many, right), omega (arith, many, right))

  stands : {t : ℕ} → t < length lent → get_or lent t 0 ≡ beginning (curve m) t
  stands {t} c = ap (λ (l : List ℕ). get_or l t 0) read.written ∙ figures_at _ _ t 0 (omega (arith, many))

  pub end_not_less : get_or lent x.a 0 ≤ get_or lent x.b 0
  end_not_less = rw (stands ends_stand.0, stands ends_stand.1) (beginning_rises _ (omega (arith, right)))

  -- the month's own weight
  own_is : {own : ℕ} → own ≡ get_or lent x.b 0 - get_or lent x.a 0 → own ≡ S m (reading_at m j)
  own_is e = e ∙ rw (stands ends_stand.0, stands ends_stand.1, ← same, S_by_beginnings m (reading_of x) (omega (arith, right)))

  -- what the code says of the reading is what the rules say
  pub judged_is : {own : ℕ} → own ≡ get_or lent x.b 0 - get_or lent x.a 0 → {spread : Spread} → spread ≡ spread_of (reading_of x) own
      → {v : Verdict} → v ≡ first (spread_checks spread own j) → v ≡ reading_verdict m j
  unfolding spread_checks reading_verdict reading_checks whole_of
  judged_is {own} e {spread} s-is {v} v-is =
      v-is ∙ ap (λ (y : Spread). first (spread_checks y own j)) (s-is ∙ ap (λ (r : Reading). spread_of r own) same)
      ∙ ap (λ (o : ℕ). first (spread_checks (spread_of (reading_at m j) o) o j)) (own_is e)
