-- READING RECORD BY RECORD, over the bytes of records: those that pass are read one after the other whatever follows them (`reads_through`), and any bytes are
-- those of records that pass and of a rest, at which the reading stops (`course`). Theorems of whole files rest on these two (proofs/WellFormed, ReadingRefused).
use mathlib.Core.Bool.{Bool, true, false, cond, ◌&&◌}
use mathlib.Core.List.{List, [], ◌∷◌, ◌++◌, append_assoc}
use mathlib.Core.Logic.{⊎_elim}
use mathlib.Core.Path.{◌≡◌, refl, sym, ◌∙◌, ap, ap₂, subst}
use Prim.Native.Nat.{ℕ, zero, suc, ◌+◌, ◌^◌, ◌≤◌, ◌<◌}
use native.Mathlib.Nat.{eq-zero-or-pos}
use native.Mathlib.Numerals.{one-add}
use native.Mathlib.Omega.{arith}
use borrow.Author.Tests.{ltb-true, leb-true, eqb-true, lt-ltb, le-leb, eq-eqb}
use lib.Dec.{eqb, leb, ltb}
use lib.ListN.{length, take, drop, length-append, length-drop, take-append-drop}
use lib.Seq.{drop_at}
use Rattle.rules.specs.Accepted.{NoneRefuses}
use Rattle.rules.specs.Flows.{Flows, flows_in_range, silent_is_zero}
use Rattle.rules.specs.Gln.{valid_gln}
use Rattle.rules.specs.Limits.{most_hours, most_parties, greatest_share, greatest_energy, greatest_price, longest_file}
use Rattle.rules.specs.MonthFile.{MonthFile, nothing_yet, H, P, with, due, priced_for, record_checks, is_end, closed, onward, read_on, read_month}
use Rattle.rules.specs.Record.{Record, heading, party, fixed_hour, reading, price, refixed_hour, end, body_length, known, kind_at, kind_of, record_at, in_widths, field_widths, fields_of}
use Rattle.rules.specs.Record.{brp_gln, record_bytes, in_file, alone, heading_in_range, hour_in_range, checks, read_alone}
use Rattle.rules.specs.ReadingRefused.{Passes, AllPass, with_all}
use Rattle.rules.specs.Refusals.{Refusal, file_fault, Verdict, accepted, refused, Answer, given, refusal, unless, and_then, first, answer}
use Rattle.rules.specs.Setting.{Prices}
use Rattle.rules.specs.WellFormed.{Bytes, bytes_of_all}
use Rattle.rules.specs.Words.{at, within, within_ℤ, joined}
use Rattle.rules.proofs.EachKind.{kind_known}
use Rattle.rules.proofs.Refusals.{accepted_exactly, unless_exactly}
use Rattle.rules.proofs.RoundTrip.{Held, read_is_held, record_back_lem, kind_back, record_length, written_of_read, bytes_drop}
use Rattle.rules.proofs.Whole.{Sound, nothing_is_sound, heading_facts, true_not_false, both_pass, within_is, step, bound_is_enough}

-- IN A FILE AND ALONE: a record without fault in a file is one without fault alone, since no file has more hours or parties than a record alone may have
module _ (m : MonthFile) (s : Sound m) where
  few_hours : H m ≤ most_hours
  unfolding H
  few_hours =
      ⊎_elim (λ (z : H m ≡ 0). omega arith) (λ (b : 0 < H m). (heading_facts m.heading (s.head b)).hours.1) (eq-zero-or-pos (H m))

  few_parties : P m ≤ most_parties
  unfolding H P
  few_parties =
      ⊎_elim (λ (z : H m ≡ 0). omega (arith, s.counts.headed z)) (λ (b : 0 < H m). (heading_facts m.heading (s.head b)).parties.1) (eq-zero-or-pos (H m))

  hour_alone : (hour : ℕ) (f : Flows) → hour_in_range (H m) hour f ≡ true → hour_in_range most_hours hour f ≡ true
  unfolding hour_in_range
  hour_alone hour f e =
      let outer = both_pass (ltb hour (H m) && flows_in_range f) (silent_is_zero f) e in
      let inner = both_pass (ltb hour (H m)) (flows_in_range f) outer.0 in
      rw (lt-ltb hour most_hours (omega (arith, few_hours, ltb-true hour (H m) inner.0)), inner.1, outer.1)

  pub alone_too : (n : ℕ) (r : Record) → NoneRefuses (checks (in_file m n) r) → NoneRefuses (checks alone r)
  unfolding checks first and_then unless
  alone_too n (heading h) c = (accepted_exactly (checks alone (heading h))).0 (rw ((unless_exactly (heading_in_range h) _ _).0 c.0))
  alone_too n (party p) c =
      let share : leb p.share greatest_share ≡ true = (unless_exactly (leb p.share greatest_share) _ _).0 c.0 in
      let valid : valid_gln p.gln ≡ true = (unless_exactly (valid_gln p.gln) _ _).0 c.1.0 in
      let brp : valid_gln (brp_gln p) ≡ true = (unless_exactly (valid_gln (brp_gln p)) _ _).0 c.1.1.0 in
      (accepted_exactly (checks alone (party p))).0 (rw (share, valid, brp))
  alone_too n (fixed_hour hour f) c =
      (accepted_exactly (checks alone (fixed_hour hour f))).0 (rw (hour_alone hour f ((unless_exactly (hour_in_range (H m) hour f) _ _).0 c.0)))
  alone_too n (refixed_hour hour f) c =
      (accepted_exactly (checks alone (refixed_hour hour f))).0 (rw (hour_alone hour f ((unless_exactly (hour_in_range (H m) hour f) _ _).0 c.0)))
  alone_too n (reading r) c =
      let whose : r.party < P m = ltb-true r.party (P m) ((unless_exactly (ltb r.party (P m)) _ _).0 c.0) in
      let span = both_pass (ltb r.a r.b) (leb r.b (H m)) ((unless_exactly (ltb r.a r.b && leb r.b (H m)) _ _).0 c.1.0) in
      let its-party : ltb r.party most_parties ≡ true = lt-ltb r.party most_parties (omega (arith, few_parties)) in
      let early : leb r.b most_hours ≡ true = le-leb r.b most_hours (omega (arith, few_hours, leb-true r.b (H m) span.1)) in
      let energy : leb r.e greatest_energy ≡ true = (unless_exactly (leb r.e greatest_energy) _ _).0 c.1.1.0 in
      (accepted_exactly (checks alone (reading r))).0 (rw (its-party, span.0, early, energy))
  alone_too n (price hour p) c =
      let range = both_pass (ltb hour (H m)) (within_ℤ greatest_price p) ((unless_exactly (ltb hour (H m) && within_ℤ greatest_price p) _ _).0 c.0) in
      let early : ltb hour most_hours ≡ true = lt-ltb hour most_hours (omega (arith, few_hours, ltb-true hour (H m) range.0)) in
      (accepted_exactly (checks alone (price hour p))).0 (rw (early, range.1))
  alone_too n (end count) c = (refl, tt)

-- ALL BYTES FROM A RECORD ON

-- record number n and all after it: `read_on` with a bound that is enough
abbrev pub read_from : Prices → List ℕ → ℕ → MonthFile → Answer MonthFile
read_from prices bytes n m = read_on prices (length bytes) bytes n m

-- what follows a record that none of its checks refuses, with the bytes that are left
abbrev on_from : Prices → Record → List ℕ → ℕ → MonthFile → Answer MonthFile
on_from prices r left n m = cond (is_end r) (closed m (suc n) left) (read_from prices left (suc n) (with m r))

from_a_record : (prices : Prices) (kind : ℕ) (body : List ℕ) (n : ℕ) (m : MonthFile)
    → read_from prices (kind ∷ body) n m
    ≡ onward (first (record_checks prices m n (kind ∷ body))) (on_from prices (record_at (kind ∷ body)) (drop (body_length kind) body) n m)
unfolding read_on
from_a_record prices kind body n m =
    let left : List ℕ = drop (body_length kind) body in
    let r : Record = record_at (kind ∷ body) in
    ap (λ (rest : Answer MonthFile). onward (first (record_checks prices m n (kind ∷ body))) (cond (is_end r) (closed m (suc n) left) rest))
    (bound_is_enough prices (length body) (length left) left (suc n) (with m r) (omega (arith, length-drop (body_length kind) body)) (omega arith))

went_through : (v : Verdict) (rest : Answer MonthFile) → v ≡ accepted → onward v rest ≡ rest
unfolding onward
went_through v rest e = rw e

-- what a reading sees where the bytes of a record without fault stand first: a known kind, all of the body, and that record
pub record Seen (r : Record) (bytes : List ℕ) : Type 0 where
  pub known_kind : known (kind_at bytes) ≡ true
  pub all_there : leb (1 + body_length (kind_at bytes)) (length bytes) ≡ true
  pub is : record_at bytes ≡ r

pub seen : (r : Record) → NoneRefuses (checks alone r) → Held r → (rest : List ℕ) → Seen r (record_bytes r ++ rest)
seen r none held rest =
    let size : length (record_bytes r) ≡ 1 + body_length (kind_of r) = record_length r ((accepted_exactly (checks alone r)).1 none) in
    let fits : leb (1 + body_length (kind_of r)) (length (record_bytes r ++ rest)) ≡ true =
    le-leb (1 + body_length (kind_of r)) (length (record_bytes r ++ rest)) (omega (arith, size, length-append (record_bytes r) rest)) in
    record { known_kind = rw (kind_back r rest) (kind_known r); all_there = rw (kind_back r rest) fits; is = record_back_lem r rest held none }

-- a record without fault, and all that follows it
one_record : (prices : Prices) (m : MonthFile) → Sound m → (n : ℕ) (r : Record) → due m r ≡ true → priced_for prices m r ≡ true
    → NoneRefuses (checks (in_file m n) r)
    → Held r
    → (rest : List ℕ)
    → read_from prices (record_bytes r ++ rest) n m ≡ on_from prices r rest n m
unfolding record_bytes record_checks
one_record prices m s n r d p c held rest =
    let body : List ℕ = joined (in_widths (field_widths (kind_of r)) (fields_of r)) in
    let none : NoneRefuses (checks alone r) = alone_too m s n r c in
    let size : length (record_bytes r) ≡ 1 + body_length (kind_of r) = record_length r ((accepted_exactly (checks alone r)).1 none) in
    let here : Seen r (record_bytes r ++ rest) = seen r none held rest in
    let passes : NoneRefuses (record_checks prices m n (record_bytes r ++ rest)) = (
      (unless_exactly _ _ _).1 here.known_kind,
      ((unless_exactly _ _ _).1 here.all_there, ((unless_exactly _ _ _).1 (rw here.is d), ((unless_exactly _ _ _).1 (rw here.is p), rw here.is c))),
    ) in
    from_a_record prices (kind_of r) (body ++ rest) n m
    ∙ went_through _ _ ((accepted_exactly (record_checks prices m n (record_bytes r ++ rest))).1 passes)
    ∙ ap₂ (λ (x : Record) (left : List ℕ). on_from prices x left n m) here.is (drop_at body rest (body_length (kind_of r)) (omega arith))

-- RECORDS THAT PASS

pub sound_after : (prices : Prices) (records : List Record) (m : MonthFile) → Sound m → (n : ℕ) → AllPass prices m n records → Sound (with_all m records)
unfolding with_all
sound_after prices [] m s n all = s
sound_after prices (r ∷ records) m s n all = sound_after prices records (with m r) (step m s n r all.0.is_due all.0.none_refuses) (suc n) all.1

-- READS THROUGH: records that pass are read one after the other, and the reading goes on with what follows
pub reads_through : (prices : Prices) (records : List Record) (rest : List ℕ) (m : MonthFile) → Sound m → (n : ℕ) → AllPass prices m n records
    → read_from prices (bytes_of_all records ++ rest) n m ≡ read_from prices rest (n + length records) (with_all m records)
unfolding bytes_of_all with_all
reads_through prices [] rest m s n all = ap (λ (k : ℕ). read_from prices rest k m) (omega arith)
reads_through prices (r ∷ records) rest m s n all =
    let more : List ℕ = bytes_of_all records ++ rest in
    let p : Passes prices m n r = all.0 in
    ap (λ (bytes : List ℕ). read_from prices bytes n m) (append_assoc (record_bytes r) (bytes_of_all records) rest)
    ∙ one_record prices m s n r p.is_due p.is_priced p.none_refuses p.held more
    ∙ ap (λ (ends : Bool). cond ends (closed m (suc n) more) (read_from prices more (suc n) (with m r))) p.not_the_end
    ∙ reads_through prices records rest (with m r) (step m s n r p.is_due p.none_refuses) (suc n) all.1
    ∙ ap (λ (k : ℕ). read_from prices rest k (with_all (with m r) records)) (omega arith)

-- every record has a byte
pub a_byte_each : (records : List Record) → length records ≤ length (bytes_of_all records)
unfolding bytes_of_all record_bytes
a_byte_each [] = omega arith
a_byte_each (r ∷ records) = omega (arith, a_byte_each records, length-append (record_bytes r) (bytes_of_all records))

-- WHERE A READING STOPS, once n records have passed: nothing is left; a check refuses; or the right end stands there, whatever follows it
pub data Stop (prices : Prices) (m : MonthFile) (n : ℕ) (rest : List ℕ) : Type 0 where
  nothing_left : rest ≡ [] → Stop prices m n rest
  check_refuses : 1 ≤ length rest → (r : Refusal) (place : ℕ) → first (record_checks prices m n rest) ≡ refused r place → Stop prices m n rest
  right_end : due m (end n) ≡ true → priced_for prices m (end n) ≡ true → (after : List ℕ) → rest ≡ record_bytes (end n) ++ after → Stop prices m n rest

-- what the reading answers there
abbrev pub answer_at : (prices : Prices) (m : MonthFile) (n : ℕ) (rest : List ℕ) → Stop prices m n rest → Answer MonthFile
answer_at prices m n rest (nothing_left e) = refusal file_fault n
answer_at prices m n rest (check_refuses some r place e) = refusal r place
answer_at prices m n rest (right_end d p after e) = closed m (suc n) after

refuses_here : (prices : Prices) (m : MonthFile) (n : ℕ) (rest : List ℕ) → 1 ≤ length rest → (r : Refusal) (place : ℕ) → first (record_checks prices m n rest) ≡ refused r place
    → read_from prices rest n m ≡ refusal r place
unfolding onward
refuses_here prices m n [] some r place e = absurd (omega arith)
refuses_here prices m n (kind ∷ body) some r place e =
    from_a_record prices kind body n m ∙ ap (λ (v : Verdict). onward v (on_from prices (record_at (kind ∷ body)) (drop (body_length kind) body) n m)) e

stops_so : (prices : Prices) (m : MonthFile) → Sound m → (n : ℕ) → n < 256 ^ 4 → (rest : List ℕ) (stop : Stop prices m n rest) → read_from prices rest n m ≡ answer_at prices m n rest stop
unfolding read_on is_end checks
stops_so prices m s n b rest (nothing_left e) = ap (λ (bytes : List ℕ). read_from prices bytes n m) e
stops_so prices m s n b rest (check_refuses some r place e) = refuses_here prices m n rest some r place e
stops_so prices m s n b rest (right_end d p after e) =
    ap (λ (bytes : List ℕ). read_from prices bytes n m) e
    ∙ one_record prices m s n (end n) d p ((unless_exactly (eqb n n) _ _).1 (eq-eqb n n refl), tt) b after

-- THE COURSE OF A READING: any bytes are those of records that pass, and of a rest at which it stops
pub record Course (prices : Prices) (m : MonthFile) (n : ℕ) (bytes : List ℕ) : Type 0 where
  pub passed : List Record
  pub rest : List ℕ
  pub split : bytes ≡ bytes_of_all passed ++ rest
  pub all_pass : AllPass prices m n passed
  pub stop : Stop prices (with_all m passed) (n + length passed) rest

-- the reading stops where it stands
stopped : {prices : Prices} {m : MonthFile} {n : ℕ} {bytes : List ℕ} → Stop prices m n bytes → Course prices m n bytes
unfolding bytes_of_all with_all
stopped {prices} {m} {n} {bytes} at_once =
    record { passed = []; rest = bytes; split = refl; all_pass = tt; stop = subst (λ (k : ℕ). Stop prices m k bytes) (omega arith) at_once }

-- or one more record passes
one_passes : (prices : Prices) (m : MonthFile) (n : ℕ) (bytes : List ℕ) (r : Record) (left : List ℕ) → bytes ≡ record_bytes r ++ left → Passes prices m n r
    → Course prices (with m r) (suc n) left → Course prices m n bytes
unfolding bytes_of_all with_all
one_passes prices m n bytes r left e p next =
    record {
      passed = r ∷ next.passed;
      rest = next.rest;
      split = e ∙ ap (λ (l : List ℕ). record_bytes r ++ l) next.split ∙ sym (append_assoc (record_bytes r) (bytes_of_all next.passed) next.rest);
      all_pass = (p, next.all_pass);
      stop = subst (λ (k : ℕ). Stop prices (with_all (with m r) next.passed) k next.rest) (omega arith) next.stop;
    }

-- a record that stands at the start of some bytes, and none of whose checks refuses
record Stands (prices : Prices) (m : MonthFile) (n : ℕ) (bytes : List ℕ) (r : Record) (left : List ℕ) : Type 0 where
  bytes_are : bytes ≡ record_bytes r ++ left
  is_due : due m r ≡ true
  is_priced : priced_for prices m r ≡ true
  none_refuses : NoneRefuses (checks (in_file m n) r)
  held : Held r

given_alone : (bytes : List ℕ) → 1 ≤ length bytes → known (kind_at bytes) ≡ true → leb (1 + body_length (kind_at bytes)) (length bytes) ≡ true
    → NoneRefuses (checks alone (record_at bytes)) → read_alone bytes ≡ given (record_at bytes)
unfolding read_alone first and_then unless answer
given_alone bytes some known_kind fits none = rw (le-leb 1 (length bytes) some, known_kind, fits, (accepted_exactly (checks alone (record_at bytes))).1 none)

stands : (prices : Prices) (m : MonthFile) → Sound m → (n kind : ℕ) (body : List ℕ) → Bytes (kind ∷ body) → first (record_checks prices m n (kind ∷ body)) ≡ accepted
    → Stands prices m n (kind ∷ body) (record_at (kind ∷ body)) (drop (body_length kind) body)
unfolding record_checks kind_at at
stands prices m s n kind body small e =
    let bytes : List ℕ = kind ∷ body in
    let r : Record = record_at bytes in
    let passed = (accepted_exactly (record_checks prices m n bytes)).0 e in
    let known_kind : known kind ≡ true = (unless_exactly (known kind) _ _).0 passed.0 in
    let fits : leb (1 + body_length kind) (length bytes) ≡ true = (unless_exactly _ _ _).0 passed.1.0 in
    let same : record_bytes r ≡ take (1 + body_length kind) bytes = written_of_read bytes r small (given_alone bytes (omega arith) known_kind fits (alone_too m s n r passed.1.1.1.1)) in
    record {
      bytes_are =
          sym (take-append-drop (suc (body_length kind)) bytes)
          ∙ ap (λ (l : List ℕ). l ++ drop (body_length kind) body) (ap (λ (k : ℕ). take k bytes) (sym (one-add (body_length kind))) ∙ sym same);
      is_due = (unless_exactly (due m r) _ _).0 passed.1.1.0;
      is_priced = (unless_exactly (priced_for prices m r) _ _).0 passed.1.1.1.0;
      none_refuses = passed.1.1.1.1;
      held = read_is_held kind body (bytes_drop 1 bytes small) known_kind (omega (arith, leb-true (1 + body_length kind) (length bytes) fits));
    }

-- an end that stands rightly has the number of records before it
the_end_here : (prices : Prices) (m : MonthFile) (n : ℕ) (bytes : List ℕ) (r : Record) (left : List ℕ) → is_end r ≡ true → Stands prices m n bytes r left → Stop prices m n bytes
unfolding is_end checks
the_end_here prices m n bytes (end count) left e here =
    let same : count ≡ n = eqb-true count n ((unless_exactly (eqb count n) _ _).0 here.none_refuses.0) in
    right_end (subst (λ (k : ℕ). due m (end k) ≡ true) same here.is_due) (subst (λ (k : ℕ). priced_for prices m (end k) ≡ true) same here.is_priced) left
    (here.bytes_are ∙ ap (λ (k : ℕ). record_bytes (end k) ++ left) same)
the_end_here prices m n bytes (heading h) left e here = absurd (true_not_false (sym e))
the_end_here prices m n bytes (party p) left e here = absurd (true_not_false (sym e))
the_end_here prices m n bytes (fixed_hour hour f) left e here = absurd (true_not_false (sym e))
the_end_here prices m n bytes (reading r) left e here = absurd (true_not_false (sym e))
the_end_here prices m n bytes (price hour p) left e here = absurd (true_not_false (sym e))
the_end_here prices m n bytes (refixed_hour hour f) left e here = absurd (true_not_false (sym e))

-- by the verdict on the record that stands first, and by whether it is the end
module _ (prices : Prices) (m : MonthFile) (s : Sound m) (n kind : ℕ) (body : List ℕ) (small : Bytes (kind ∷ body)) where
  abbrev here : Record
  here = record_at (kind ∷ body)

  abbrev left : List ℕ
  left = drop (body_length kind) body

  module _ (next : Sound (with m here) → Course prices (with m here) (suc n) left) where
    by_its_kind : (ends : Bool) → is_end here ≡ ends → Stands prices m n (kind ∷ body) here left → Course prices m n (kind ∷ body)
    by_its_kind true e stands_here = stopped (the_end_here prices m n (kind ∷ body) here left e stands_here)
    by_its_kind false e stands_here =
        one_passes prices m n (kind ∷ body) here left stands_here.bytes_are
        (record { not_the_end = e; is_due = stands_here.is_due; is_priced = stands_here.is_priced; none_refuses = stands_here.none_refuses; held = stands_here.held })
        (next (step m s n here stands_here.is_due stands_here.none_refuses))

    by_its_verdict : (v : Verdict) → first (record_checks prices m n (kind ∷ body)) ≡ v → Course prices m n (kind ∷ body)
    by_its_verdict accepted e = by_its_kind (is_end here) refl (stands prices m s n kind body small e)
    by_its_verdict (refused why place) e = stopped (check_refuses (omega arith) why place e)

course : (prices : Prices) (more : ℕ) (bytes : List ℕ) → length bytes ≤ more → Bytes bytes → (m : MonthFile) → Sound m → (n : ℕ) → Course prices m n bytes
course prices zero [] enough small m s n = stopped (nothing_left refl)
course prices zero (kind ∷ body) enough small m s n = absurd (omega arith)
course prices (suc more) [] enough small m s n = stopped (nothing_left refl)
course prices (suc more) (kind ∷ body) enough small m s n =
    by_its_verdict prices m s n kind body small
    (λ s'.
    course prices more (drop (body_length kind) body) (omega (arith, length-drop (body_length kind) body)) (bytes_drop (suc (body_length kind)) (kind ∷ body) small)
    (with m (record_at (kind ∷ body)))
    s'
    (suc n))
    (first (record_checks prices m n (kind ∷ body)))
    refl

-- THE COURSE OF A WHOLE FILE of the right length, and what is answered where it stops
pub file_course : (prices : Prices) (file : List ℕ) → Bytes file → Course prices nothing_yet 0 file
file_course prices file small = course prices (length file) file (omega arith) small nothing_yet nothing_is_sound 0

pub answer_of_course : (prices : Prices) (file : List ℕ) → within 1 longest_file (length file) ≡ true → (c : Course prices nothing_yet 0 file)
    → read_month prices file ≡ answer_at prices (with_all nothing_yet c.passed) (0 + length c.passed) c.rest c.stop
unfolding read_month
answer_of_course prices file fits c =
    let sound : Sound (with_all nothing_yet c.passed) = sound_after prices c.passed nothing_yet nothing_is_sound 0 c.all_pass in
    let few : length c.passed ≤ length file = omega (arith, a_byte_each c.passed, ap length c.split, length-append (bytes_of_all c.passed) c.rest) in
    let short : length file ≤ longest_file = (within_is 1 longest_file (length file) fits).1 in
    ap (λ (t : Bool). cond t (read_from prices file 0 nothing_yet) (refusal file_fault 0)) fits
    ∙ ap (λ (bytes : List ℕ). read_from prices bytes 0 nothing_yet) c.split
    ∙ reads_through prices c.passed c.rest nothing_yet nothing_is_sound 0 c.all_pass
    ∙ stops_so prices (with_all nothing_yet c.passed) sound (0 + length c.passed) (omega arith) c.rest c.stop
