-- A FILE IS ACCEPTED EXACTLY WHEN IT IS WELL FORMED: it is read as a month exactly when it is the bytes of that month's records and the month is well formed
-- (specs/WellFormed). So a whole file is read and written back as the same bytes.
use mathlib.Core.Bool.{true}
use mathlib.Core.List.{List, [], ◌∷◌, ◌++◌, append-nil}
use mathlib.Core.Logic.{◌↔◌}
use mathlib.Core.Path.{◌≡◌, refl, sym, ◌∙◌, ap, ap₂, subst}
use Prim.Native.Nat.{ℕ, suc, ◌+◌, ◌≤◌, ◌<◌}
use native.Mathlib.Omega.{arith}
use borrow.Author.Tests.{leb-true, le-leb}
use lib.Dec.{leb}
use lib.ListN.{length, length-append}
use Rattle.rules.specs.Limits.{longest_file}
use Rattle.rules.specs.MonthFile.{MonthFile, nothing_yet, H, with, prices_there, due, priced_for, read_month, closed}
use Rattle.rules.specs.Record.{Record, heading, party, fixed_hour, reading, price, refixed_hour, end, record_bytes}
use Rattle.rules.specs.ReadingRefused.{AllPass, with_all}
use Rattle.rules.specs.Refusals.{given}
use Rattle.rules.specs.Setting.{Prices}
use Rattle.rules.specs.WellFormed.{Bytes, Every, records_of, bytes_of_all, file_of, Held, ReadingHeld, WellFormed}
use Rattle.rules.specs.Words.{within}
use Rattle.rules.proofs.MonthRecords.{records_are, Through, hours_there_lem, prices_read, all_priced_holds, whole_month_passes}
use Rattle.rules.proofs.ReadThrough.{Stop, nothing_left, check_refuses, right_end, answer_at, Course, file_course, answer_of_course}
use Rattle.rules.proofs.Refusals.{given_not_refusal}
use Rattle.rules.proofs.Whole.{every_more, both_pass, within_is, of_the_right_length, what_is_read_is_whole, what_is_read_is_priced}

-- A WELL-FORMED FILE IS READ, as the month that it is the file of
pub well_formed_is_read : (prices : Prices) (m : MonthFile) → WellFormed prices m → read_month prices (file_of m) ≡ given m
unfolding file_of with_all within due priced_for H closed record_bytes
well_formed_is_read prices m w =
    let records : List Record = records_of m in
    let n : ℕ = length records in
    let t : Through prices nothing_yet records m = whole_month_passes prices m w.whole w.weights w.priced in
    let size = length-append (bytes_of_all records) (record_bytes (end n)) in
    let fits : within 1 longest_file (length (file_of m)) ≡ true = rw (le-leb 1 (length (file_of m)) (omega arith), le-leb (length (file_of m)) longest_file w.not_too_long) in
    let is_due : due m (end (0 + n)) ≡ true = rw (hours_there_lem prices m w.whole w.weights, prices_read prices m w.whole w.weights) in
    let priced : priced_for prices m (end (0 + n)) ≡ true = all_priced_holds prices m w.priced in
    let the_end : record_bytes (end n) ≡ record_bytes (end (0 + n)) ++ [] = ap (λ (k : ℕ). record_bytes (end k)) (omega arith) ∙ sym (append-nil (record_bytes (end (0 + n)))) in
    let c : Course prices nothing_yet 0 (file_of m) =
    record {
      passed = records;
      rest = record_bytes (end n);
      split = refl;
      all_pass = t.pass 0;
      stop =
          right_end (subst (λ (x : MonthFile). due x (end (0 + n)) ≡ true) (sym t.gives) is_due)
          (subst (λ (x : MonthFile). priced_for prices x (end (0 + n)) ≡ true) (sym t.gives) priced)
          []
          the_end;
    } in
    answer_of_course prices (file_of m) fits c ∙ ap given t.gives

-- WHAT IS READ IS WELL FORMED, and its bytes are those of its records

-- where the right end stands, a heading was read
headed : (m : MonthFile) (n : ℕ) → due m (end n) ≡ true → 0 < H m
unfolding due
headed m n d = leb-true 1 (H m) (both_pass (leb 1 (H m)) (prices_there m) d).0

-- the weights of records that pass have room in their bytes
held_after : (prices : Prices) (records : List Record) (m : MonthFile) (n : ℕ) → Every ReadingHeld m.readings → AllPass prices m n records → Every ReadingHeld (with_all m records).readings
unfolding with_all with
held_after prices [] m n held all = held
held_after prices (r ∷ records) m n held all = held_after prices records (with m r) (suc n) (one_more r all.0.held) all.1
  where
    one_more : (r : Record) → Held r → Every ReadingHeld (with m r).readings
    one_more (heading h) x = held
    one_more (party p) x = held
    one_more (fixed_hour hour f) x = held
    one_more (reading r) x = every_more ReadingHeld m.readings r held x
    one_more (price hour z) x = held
    one_more (refixed_hour hour f) x = held
    one_more (end count) x = held

nothing_held : Every ReadingHeld nothing_yet.readings
unfolding nothing_yet
nothing_held = tt

-- a reading that gives a month has stopped at the right end, with nothing after it
at_the_end : {prices : Prices} {m : MonthFile} (records : List Record) (n : ℕ) (rest : List ℕ) (stop : Stop prices (with_all nothing_yet records) n rest)
    → n ≡ length records
    → AllPass prices nothing_yet 0 records
    → answer_at prices (with_all nothing_yet records) n rest stop ≡ given m
    → (with_all nothing_yet records ≡ m) × (bytes_of_all records ++ rest ≡ file_of m)
unfolding closed file_of
at_the_end records n rest (nothing_left e) count all is = absurd (given_not_refusal is)
at_the_end records n rest (check_refuses some r place e) count all is = absurd (given_not_refusal is)
at_the_end records n rest (right_end d p (byte ∷ bytes) e) count all is = absurd (given_not_refusal is)
at_the_end {prices} {m} records n rest (right_end d p [] e) count all is =
    let month : with_all nothing_yet records ≡ m = cc in
    let same : records ≡ records_of m = sym (records_are prices records all (headed (with_all nothing_yet records) n d)) ∙ ap records_of month in (
      month,
      ap₂ (λ (x : List Record) (y : List ℕ). bytes_of_all x ++ y) same (e ∙ append-nil (record_bytes (end n)) ∙ ap (λ (k : ℕ). record_bytes (end k)) (count ∙ ap length same)),
    )

pub what_is_read_is_well_formed : (prices : Prices) (file : List ℕ) (m : MonthFile) → Bytes file → read_month prices file ≡ given m → WellFormed prices m × (file ≡ file_of m)
what_is_read_is_well_formed prices file m small is =
    let fits : within 1 longest_file (length file) ≡ true = (of_the_right_length prices file is).0 in
    let c : Course prices nothing_yet 0 file = file_course prices file small in
    let stopped = at_the_end c.passed (0 + length c.passed) c.rest c.stop (omega arith) c.all_pass (sym (answer_of_course prices file fits c) ∙ is) in
    let same : file ≡ file_of m = c.split ∙ stopped.1 in
    let held : Every ReadingHeld m.readings =
    subst (λ (x : MonthFile). Every ReadingHeld x.readings) stopped.0 (held_after prices c.passed nothing_yet 0 nothing_held c.all_pass) in
    let short : length file ≤ longest_file = (within_is 1 longest_file (length file) fits).1 in
    let fits-still : length (file_of m) ≤ longest_file = subst (λ (bytes : List ℕ). length bytes ≤ longest_file) same short in
    (record { whole = what_is_read_is_whole prices file is; priced = what_is_read_is_priced prices file is; weights = held; not_too_long = fits-still }, same)

-- ACCEPTED EXACTLY WHEN WELL FORMED
pub read_exactly : (prices : Prices) (file : List ℕ) (m : MonthFile) → Bytes file → (read_month prices file ≡ given m) ↔ (WellFormed prices m × (file ≡ file_of m))
read_exactly prices file m small = (what_is_read_is_well_formed prices file m small, λ h. ap (read_month prices) h.1 ∙ well_formed_is_read prices m h.0)
