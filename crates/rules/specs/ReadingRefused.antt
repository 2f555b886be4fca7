-- WHAT THE READING OF A FILE REFUSES (01 "Refusal numbers"): the first record that has a check that refuses, and the first such check of it. That a file is
-- refused exactly so, with that number and place, is proved in proofs/ReadingRefused; which files are read, in specs/WellFormed.
use Rattle.std.specs.Prelude.{true, false, List, [], ◌∷◌, ◌++◌, ◌≡◌, ℕ, suc, ◌≤◌, length}
use Rattle.rules.specs.Accepted.{NoneRefuses, FirstRefuses}
use Rattle.rules.specs.Limits.{longest_file}
use Rattle.rules.specs.MonthFile.{MonthFile, nothing_yet, with, due, priced_for, record_checks, is_end}
use Rattle.rules.specs.Record.{Record, end, record_bytes, in_file, checks}
use Rattle.rules.specs.Refusals.{Refusal, file_fault}
use Rattle.rules.specs.Setting.{Prices}
use Rattle.rules.specs.WellFormed.{Held, bytes_of_all}
use Rattle.rules.specs.Words.{within}

-- record number n passes, after what was read before it: it is not the end, it is due, it does not stand where a price is needed, no check of its fields
-- refuses, and they have room in their bytes
pub record Passes (prices : Prices) (m : MonthFile) (n : ℕ) (r : Record) : Type 0 where
  pub not_the_end : is_end r ≡ false
  pub is_due : due m r ≡ true
  pub is_priced : priced_for prices m r ≡ true
  pub none_refuses : NoneRefuses (checks (in_file m n) r)
  pub held : Held r

-- some records pass one after the other, the first of them as number n
abbrev pub AllPass : Prices → MonthFile → ℕ → List Record → Type 0
AllPass prices m n [] = Unit
AllPass prices m n (r ∷ records) = Passes prices m n r × AllPass prices (with m r) (suc n) records

-- what has been read with some records more
unfoldable pub with_all : MonthFile → List Record → MonthFile
with_all m [] = m
with_all m (r ∷ records) = with_all (with m r) records

-- The refusal of what is left of a file where n records have passed: nothing is left, "for a missing end .. the place is the number of complete records"; or
-- it is the first check that refuses of the record that stands there; or there stands the right end, and bytes after it.
pub data RestRefuses (prices : Prices) (m : MonthFile) (n : ℕ) (rest : List ℕ) (r : Refusal) (place : ℕ) : Type 0 where
  no_end : rest ≡ [] → r ≡ file_fault → place ≡ n → RestRefuses prices m n rest r place
  the_record : 1 ≤ length rest → FirstRefuses (record_checks prices m n rest) r place → RestRefuses prices m n rest r place
  bytes_after :
      due m (end n) ≡ true
      → priced_for prices m (end n) ≡ true
      → (byte : ℕ) (bytes : List ℕ)
      → rest ≡ record_bytes (end n) ++ (byte ∷ bytes)
      → r ≡ file_fault
      → place ≡ suc n
      → RestRefuses prices m n rest r place

pub record RecordRefuses (prices : Prices) (file : List ℕ) (r : Refusal) (place : ℕ) : Type 0 where
  pub right_length : within 1 longest_file (length file) ≡ true
  -- the records before it, and the rest of the file
  pub before : List Record
  pub rest : List ℕ
  pub split : file ≡ bytes_of_all before ++ rest
  pub all_pass : AllPass prices nothing_yet 0 before
  pub refuses : RestRefuses prices (with_all nothing_yet before) (length before) rest r place

-- "An empty or too long file is refused before all else, place 0"; then record by record
pub data ReadingRefuses (prices : Prices) (file : List ℕ) (r : Refusal) (place : ℕ) : Type 0 where
  of_the_length : within 1 longest_file (length file) ≡ false → r ≡ file_fault → place ≡ 0 → ReadingRefuses prices file r place
  of_a_record : RecordRefuses prices file r place → ReadingRefuses prices file r place
