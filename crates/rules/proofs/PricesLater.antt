-- PRICES REACH US DAYS AFTER THE VOLUMES (02, W6): what the reading makes of a file with its prices and of one without, where they are needed and where not; and
-- that no quantity of a month depends on them.
use mathlib.Core.Bool.{true, false, ◌&&◌}
use mathlib.Core.List.{List, [], ◌∷◌, ◌++◌, append_assoc, append-nil}
use mathlib.Core.Path.{◌≡◌, refl, sym, ◌∙◌, ap, subst}
use Prim.Native.Nat.{ℕ, suc, ◌+◌, ◌≤◌}
use native.Mathlib.Omega.{arith}
use borrow.Author.Tests.{ne_eqb}
use lib.Dec.{leb}
use lib.IntN.{ℤ}
use lib.ListN.{length, length-append}
use Rattle.rules.specs.Accepted.{NoneRefuses}
use Rattle.rules.specs.HoursReport.{judged_report, answered_report, hours_report}
use Rattle.rules.specs.Month.{distributed, periodised, loss, difference, month_verdict}
use Rattle.rules.specs.MonthFile.{MonthFile, nothing_yet, H, P, hours_there, prices_there, due, all_priced, priced_for, record_checks, read_month}
use Rattle.rules.specs.Record.{Reading, Record, heading, fixed_hour, refixed_hour, price, reading, end, set_prices, set_readings, record_bytes, alone, checks}
use Rattle.rules.specs.ReadingRefused.{Passes, with_all, RestRefuses, the_record, of_a_record}
use Rattle.rules.specs.Refusals.{out_of_order, Verdict, accepted, refused, given, refusal, unless, and_then, first}
use Rattle.rules.specs.Setting.{Setting, needed, optional}
use Rattle.rules.specs.Statement.{Per, answered_statement, statement_per, refusal_line, heading_line}
use Rattle.rules.specs.WellFormed.{Bytes, numbered, as_party, as_reading, records_of, bytes_of_all, file_of, Held, WellFormed}
use Rattle.rules.proofs.Computed.{months_1, months_2, months_3, reports_1, reports_2}
use Rattle.rules.proofs.MonthRecords.{the_readings, to_the_hours, none_numbered, Through, hours_through, hours_there_lem, prices_read, reading_passes}
use Rattle.rules.proofs.ReadThrough.{alone_too, Seen, seen, sound_after, a_byte_each}
use Rattle.rules.proofs.ReadingRefused.{reading_refused_exactly}
use Rattle.rules.proofs.Refusals.{refused_exactly}
use Rattle.rules.proofs.WellFormed.{well_formed_is_read, read_exactly}
use Rattle.rules.proofs.Whole.{Sound, nothing_is_sound, heading_facts, of_the_right_length}

-- A FILE WITH ALL ITS PRICES IS READ ALIKE. W6: "The statement program and the BRP program .. their output stays the same to the byte": a file that is read where
-- prices are not needed, and has one for each hour, is read where they are needed, as the same month. (The other way: `read_alike` of proofs/Setting.)
pub priced_is_read : (file : List ℕ) (m : MonthFile) → Bytes file → read_month optional file ≡ given m → length m.prices ≡ H m → read_month needed file ≡ given m
priced_is_read file m small is all =
    let read = (read_exactly optional file m small).0 is in
    let w : WellFormed optional m = read.0 in
    (read_exactly needed file m small).1 (record { whole = w.whole; priced = all; weights = w.weights; not_too_long = w.not_too_long }, read.1)

-- A FILE WITHOUT PRICES, where they are needed. The bytes of some records and of more; how many records there are of a kind.
bytes_of_both : (a b : List Record) → bytes_of_all (a ++ b) ≡ bytes_of_all a ++ bytes_of_all b
unfolding bytes_of_all
bytes_of_both [] b = refl
bytes_of_both (r ∷ a) b = ap (λ (l : List ℕ). record_bytes r ++ l) (bytes_of_both a b) ∙ sym (append_assoc (record_bytes r) (bytes_of_all a) (bytes_of_all b))

numbered_length : {A : Type 0} (make : ℕ → A → Record) (n : ℕ) (l : List A) → length (numbered make n l) ≡ length l
unfolding numbered
numbered_length make n [] = refl
numbered_length make n (x ∷ l) = ap suc (numbered_length make (suc n) l)

no_entries : {A : Type 0} (l : List A) → length l ≡ 0 → l ≡ []
no_entries [] e = refl
no_entries (x ∷ l) e = absurd (omega arith)

-- a record without fault that is due, and stands where a price is needed
unpriced_refuses : (m : MonthFile) (n : ℕ) (r : Record) (left : List ℕ) → due m r ≡ true → priced_for needed m r ≡ false → NoneRefuses (checks alone r) → Held r
    → first (record_checks needed m n (record_bytes r ++ left)) ≡ refused out_of_order n
unfolding record_checks first and_then unless
unpriced_refuses m n r left d unpriced none held =
    let here : Seen r (record_bytes r ++ left) = seen r none held left in
    rw (here.known_kind, here.all_there, here.is, d, unpriced)

module _ (m : MonthFile) (w : WellFormed optional m) (none : length m.prices ≡ 0) where
  -- what has been read once the hours have passed; and the rest of the file, the readings and the end
  abbrev so_far : MonthFile
  so_far = set_readings (set_prices m []) []

  abbrev last : Record
  last = end (length (records_of m))

  abbrev rest : List ℕ
  rest = bytes_of_all (the_readings m) ++ record_bytes last

  hours_pass : Through needed nothing_yet (to_the_hours m) so_far
  hours_pass = hours_through needed m w.whole w.weights

  sound : Sound so_far
  sound = subst Sound hours_pass.gives (sound_after needed (to_the_hours m) nothing_yet nothing_is_sound 0 (hours_pass.pass 0))

  records_are : records_of m ≡ to_the_hours m ++ the_readings m
  unfolding records_of
  records_are =
      let parties : List Record = numbered as_party 0 m.parties in
      let fixed : List Record = numbered fixed_hour 0 m.fixed in
      let refixed : List Record = numbered refixed_hour 0 m.refixed in
      ap (λ (l : List Record). heading m.heading ∷ l)
      (ap (λ (l : List Record). parties ++ (fixed ++ (refixed ++ (l ++ the_readings m)))) (none_numbered price m.prices none)
      ∙ ap (λ (l : List Record). parties ++ l) (sym (append_assoc fixed refixed (the_readings m)))
      ∙ sym (append_assoc parties (fixed ++ refixed) (the_readings m)))

  file_is : file_of m ≡ bytes_of_all (to_the_hours m) ++ rest
  unfolding file_of
  file_is =
      ap (λ (l : List ℕ). l ++ record_bytes last) (ap bytes_of_all records_are ∙ bytes_of_both (to_the_hours m) (the_readings m))
      ∙ append_assoc (bytes_of_all (to_the_hours m)) (bytes_of_all (the_readings m)) (record_bytes last)

  how_many : length (to_the_hours m) ≡ 1 + P m + H m + length m.refixed
  how_many =
      let parties = numbered_length as_party 0 m.parties in
      let fixed = numbered_length fixed_hour 0 m.fixed in
      let refixed = numbered_length refixed_hour 0 m.refixed in
      let hours = length-append (numbered fixed_hour 0 m.fixed) (numbered refixed_hour 0 m.refixed) in
      let all = length-append (numbered as_party 0 m.parties) (numbered fixed_hour 0 m.fixed ++ numbered refixed_hour 0 m.refixed) in
      omega (arith, parties, fixed, refixed, hours, all, w.whole.all_parties, w.whole.all_fixed)

  -- a reading and the end are due there, and a price is needed
  after_the_hours : leb 1 (H so_far) && prices_there so_far ≡ true
  unfolding H hours_there prices_there
  after_the_hours =
      let there : prices_there so_far ≡ true = subst (λ (l : List ℤ). prices_there (set_prices m l) ≡ true) (no_entries m.prices none) (prices_read optional m w.whole w.weights) in
      rw (hours_there_lem optional m w.whole w.weights, there)

  no_price : all_priced needed so_far ≡ false
  unfolding all_priced H
  no_price = ne_eqb 0 m.heading.hours (λ e. omega (arith, (heading_facts m.heading w.whole.head).hours.0))

  held_end : Held last
  unfolding file_of
  held_end = omega (arith, w.not_too_long, a_byte_each (records_of m), length-append (bytes_of_all (records_of m)) (record_bytes last))

  -- so the first reading is refused, or where there is none the end
  next_refuses : (readings : List Reading) → m.readings ≡ readings → (n : ℕ)
      → first (record_checks needed so_far n (bytes_of_all (numbered as_reading 0 readings) ++ record_bytes last)) ≡ refused out_of_order n
  unfolding bytes_of_all numbered due priced_for H P checks unless
  next_refuses [] e n =
      subst (λ (bytes : List ℕ). first (record_checks needed so_far n bytes) ≡ refused out_of_order n) (append-nil (record_bytes last))
      (unpriced_refuses so_far n last [] after_the_hours no_price (refl, tt) held_end)
  next_refuses (x ∷ later) e n =
      let passes : Passes optional (set_readings m []) n (reading x) = reading_passes optional m w.whole w.weights tt [] x later e n in
      let more : List Record = numbered as_reading 1 later in
      subst (λ (bytes : List ℕ). first (record_checks needed so_far n bytes) ≡ refused out_of_order n) (sym (append_assoc (record_bytes (reading x)) (bytes_of_all more) (record_bytes last)))
      (unpriced_refuses so_far n (reading x) (bytes_of_all more ++ record_bytes last) after_the_hours no_price (alone_too so_far sound n (reading x) passes.none_refuses) passes.held)

  some_left : 1 ≤ length rest
  unfolding record_bytes
  some_left = omega (arith, length-append (bytes_of_all (the_readings m)) (record_bytes last))

  refuses : RestRefuses needed (with_all nothing_yet (to_the_hours m)) (length (to_the_hours m)) rest out_of_order (1 + P m + H m + length m.refixed)
  refuses =
      let n : ℕ = length (to_the_hours m) in
      let there : RestRefuses needed so_far n rest out_of_order n = the_record some_left ((refused_exactly (record_checks needed so_far n rest) out_of_order n).0 (next_refuses m.readings refl n)) in
      subst (λ (x : MonthFile). RestRefuses needed x n rest out_of_order (1 + P m + H m + length m.refixed)) (sym hours_pass.gives)
      (subst (λ (place : ℕ). RestRefuses needed so_far n rest out_of_order place) how_many there)

-- A FILE WITHOUT PRICES IS REFUSED WITH 3 WHERE THEY ARE NEEDED. W6: "the statement program goes on refusing such a file with 3": a file that is read where prices
-- are not needed, and has none, is refused where they are needed, at the record that stands where hour 0's price is due: after the heading, P parties,
-- H fixed hours and the refixed hours, if there are any.
pub refused_where_a_price_is_due :
    (file : List ℕ) (m : MonthFile) → Bytes file → read_month optional file ≡ given m → length m.prices ≡ 0
    → read_month needed file ≡ refusal out_of_order (1 + P m + H m + length m.refixed)
refused_where_a_price_is_due file m small is none =
    let read = (read_exactly optional file m small).0 is in
    (reading_refused_exactly needed file out_of_order (1 + P m + H m + length m.refixed) small).1
    (of_a_record
    (record {
      right_length = (of_the_right_length optional file is).0;
      before = to_the_hours m;
      rest = rest m read.0 none;
      split = read.1 ∙ file_is m read.0 none;
      all_pass = (hours_pass m read.0 none).pass 0;
      refuses = refuses m read.0 none;
    }))

-- so it has no statement, per party or per BRP, final or provisional, with amounts of 0 or any others: nothing is printed but that refusal
pub no_statement_without_prices :
    (per : Per) (setting : Setting) (file : List ℕ) (m : MonthFile) → Bytes file → read_month optional file ≡ given m → length m.prices ≡ 0
    → statement_per per setting file ≡ refusal_line out_of_order (1 + P m + H m + length m.refixed)
unfolding statement_per answered_statement
no_statement_without_prices per setting file m small is none = ap (answered_statement per setting) (refused_where_a_price_is_due file m small is none)

-- A QUANTITY NEEDS NO PRICE. W6: "one operation gives distributed, periodised, loss and difference per hour", and its file "may have no 05 records": with any other
-- prices, or none, a month has the same quantities, and the same verdict after the file is read. So what is given on day 1, without prices, is what day 5 has.
module _ (m : MonthFile) (prices : List ℤ) where
  pub distributed_needs_no_price : (t i : ℕ) → distributed (set_prices m prices) t i ≡ distributed m t i
  unfolding months_1 H P
  distributed_needs_no_price t i = refl

  pub periodised_needs_no_price : (t i : ℕ) → periodised (set_prices m prices) t i ≡ periodised m t i
  unfolding months_1 months_2 H P
  periodised_needs_no_price t i = refl

  pub loss_needs_no_price : (t : ℕ) → loss (set_prices m prices) t ≡ loss m t
  unfolding months_1 months_2 H P
  loss_needs_no_price t = refl

  pub difference_needs_no_price : (t i : ℕ) → difference (set_prices m prices) t i ≡ difference m t i
  unfolding months_1 months_2 H P
  difference_needs_no_price t i = refl

  pub verdict_needs_no_price : (setting : Setting) → month_verdict setting (set_prices m prices) ≡ month_verdict setting m
  unfolding months_1 months_2 months_3 H P
  verdict_needs_no_price setting = refl

  report_alike : (v : Verdict) → judged_report (set_prices m prices) v ≡ judged_report m v
  unfolding months_1 months_2 reports_1 reports_2 heading_line H P
  report_alike accepted = refl
  report_alike (refused r place) = refl

  -- and so the hours program, which prints no money, prints of a file without its prices byte for byte what it prints of the file that has them
  pub report_needs_no_price : (setting : Setting) → WellFormed optional m → WellFormed optional (set_prices m prices)
      → hours_report setting (file_of (set_prices m prices)) ≡ hours_report setting (file_of m)
  unfolding hours_report answered_report
  report_needs_no_price setting without with-them =
      ap (answered_report setting) (well_formed_is_read optional (set_prices m prices) with-them)
      ∙ ap (judged_report (set_prices m prices)) (verdict_needs_no_price setting)
      ∙ report_alike (month_verdict setting m)
      ∙ sym (ap (answered_report setting) (well_formed_is_read optional m without))
