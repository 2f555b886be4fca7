-- The walk through a whole file: what is left of it says what the whole says.
use mathlib.Core.Bool.{cond}
use mathlib.Core.List.{List, [], ◌∷◌}
use mathlib.Core.Path.{◌≡◌, refl, sym, ◌∙◌, ap, ap₂, subst}
use Prim.Native.Nat.{ℕ, zero, suc, ◌+◌, ◌-◌, ◌≤◌, ◌<◌, zero-le}
use native.Mathlib.Nat.{sub-zero, not-suc-le-zero}
use native.Mathlib.Numerals.{add-one}
use native.Mathlib.Omega.{arith}
use borrow.Author.Tests.{le-leb, lt-leb}
use lib.ListN.{length, drop, length-drop, drop_of_length-le}
use lib.Seq.{drop-drop}
use Rattle.std.specs.Prelude.{Result, Ok, Err}
use Rattle.answer.specs.Said.{named}
use Rattle.answer.specs.declared.Refused.{Refused}
use Rattle.setting.specs.Asked.{prices_asked}
use Rattle.setting.specs.declared.Prices as Called
use Rattle.file_step.specs.declared.Walk.{Walk}
use Rattle.file_step.specs.declared.Step.{Step}
use Rattle.file_step.specs.declared.Step.TheVariants as S
use Rattle.file_sections.specs.declared.Sections.{Sections}
use Rattle.file_step.specs.Walk.{start_of, kind_of_the_last, Counted, Few, Stands, Stepped, Steppable}
use Rattle.file_sections.specs.Walk.{sections_in, sections_of, sections_for, read_answer}
use Rattle.rules.specs.Limits.{longest_file}
use Rattle.rules.specs.MonthFile.{MonthFile, nothing_yet, after_the_last, rises_after, record_checks, is_end, closed, onward, read_on, read_month}
use Rattle.rules.specs.MonthFile as F
use Rattle.rules.specs.Record as R
use Rattle.rules.specs.Refusals.{file_fault, given, refusal, first}
use Rattle.rules.specs.Setting.{Prices}
use Rattle.rules.specs.Words.{within, at}

pub record Walking (prices : Prices) (file : List ℕ) (w : Walk) (place : ℕ) : Type 0 where
  pub bound : place ≤ length file
  pub counted : Counted w
  pub fuel : w.records ≤ place
  pub month : MonthFile
  pub stands : Stands month w
  pub same : read_on (prices_asked w.prices_asked) (length file - w.records) (drop place file) w.records month ≡ read_on prices (length file) file 0 nothing_yet

pub walk_start : (prices : Called.Prices) (file : List ℕ) → Walking (prices_asked prices) file (start_of prices) 0
unfolding nothing_yet after_the_last rises_after kind_of_the_last
walk_start prices file =
    record { bound = zero-le; counted = none; fuel = zero-le; month = nothing_yet; stands = nothing; same = rw (sub-zero (length file)) }
  where
    none : Counted (start_of prices)
    none = record { parties = zero-le; fixed = zero-le; refixed = zero-le; prices = zero-le; readings = zero-le }

    nothing : Stands nothing_yet (start_of prices)
    nothing =
        record { heading = refl; parties = refl; fixed = refl; refixed = refl; prices = refl; readings = refl; rising = λ p. refl; kind = refl }

-- one turn of the definition
turn :
    (prices : Prices) (fuel : ℕ) (bytes : List ℕ) (n : ℕ) (m : MonthFile)
    → 1 ≤ length bytes
    → read_on prices (suc fuel) bytes n m
    ≡ onward (first (record_checks prices m n bytes))
    (cond (is_end (R.record_at bytes)) (closed m (suc n) (drop (suc (R.body_length (R.kind_at bytes))) bytes))
    (read_on prices fuel (drop (suc (R.body_length (R.kind_at bytes))) bytes) (suc n) (F.with m (R.record_at bytes))))
unfolding read_on R.kind_at at
turn prices fuel [] n m b = absurd (not-suc-le-zero b)
turn prices fuel (kind ∷ body) n m b = refl

closed_gives : (m : MonthFile) (n : ℕ) (l : List ℕ) → length l ≡ 0 → closed m n l ≡ given m
unfolding closed
closed_gives m n [] e = refl
closed_gives m n (b ∷ l) e = absurd (omega arith)

closed_refuses : (m : MonthFile) (n : ℕ) (l : List ℕ) → 1 ≤ length l → closed m n l ≡ refusal file_fault n
unfolding closed
closed_refuses m n [] b = absurd (not-suc-le-zero b)
closed_refuses m n (x ∷ l) b = refl

none_left : (prices : Prices) (fuel n : ℕ) (m : MonthFile) → read_on prices fuel [] n m ≡ refusal file_fault n
unfolding read_on
none_left prices zero n m = refl
none_left prices (suc fuel) n m = refl

-- the numbers of the walk are the sections of the month
same_sections : (m : MonthFile) (w : Walk) → Stands m w → sections_of m ≡ sections_in w
unfolding sections_of
same_sections m w st =
    ap (λ (h : R.Heading). sections_for (record { area = h.area; year = h.year; month = h.month; hours = h.hours; parties = h.parties; carrier = h.carrier }) (kind_of_the_last m.parties) (length m.refixed) (length m.prices) (length m.readings)) (sym st.heading)
    ∙ ap (λ (k : ℕ). sections_for w.heading k (length m.refixed) (length m.prices) (length m.readings)) (sym st.kind)
    ∙ ap₂ (λ (r q : ℕ). sections_for w.heading w.party_kind r q (length m.readings)) (sym st.refixed) (sym st.prices)
    ∙ ap (λ (g : ℕ). sections_for w.heading w.party_kind w.refixed w.prices g) (sym st.readings)

-- "An empty or too long file is refused before all else, place 0"
module _ (prices : Prices) (file : List ℕ) where
  pub empty : length file < 1 → refusal file_fault 0 ≡ read_month prices file
  unfolding read_month within
  empty b = rw (lt-leb 1 (length file) b)

  pub too_long : 1 ≤ length file → longest_file < length file → refusal file_fault 0 ≡ read_month prices file
  unfolding read_month within
  too_long a b = rw (le-leb 1 (length file) a, lt-leb (length file) longest_file b)

  read_by_records : 1 ≤ length file → length file ≤ longest_file → read_on prices (length file) file 0 nothing_yet ≡ read_month prices file
  unfolding read_month within
  read_by_records a b = rw (le-leb 1 (length file) a, le-leb (length file) longest_file b)

-- A turn of the loop: the file's length is right, and the walk stands before its end.
pub record Turn (prices : Prices) (file : List ℕ) (w : Walk) (place : ℕ) : Type 0 where
  pub some : 1 ≤ length file
  pub short : length file ≤ longest_file
  pub walking : Walking prices file w place
  pub more : place < length file

module _ (prices : Prices) (file : List ℕ) (w : Walk) (place : ℕ) (turn_is : Turn prices file w place) where
  abbrev k : Walking prices file w place
  k = turn_is.walking

  -- the bytes that are left, and those after the record at their start
  abbrev rest : List ℕ
  rest = drop place file

  abbrev later : List ℕ
  later = drop (suc (R.body_length (R.kind_at rest))) rest

  pub few : Few w
  few = record { records = omega (arith, k.fuel, turn_is.short, turn_is.more); counted = k.counted }

  left : length rest ≡ length file - place
  left = length-drop place file

  some_left : 1 ≤ length rest
  some_left = omega (arith, left, turn_is.more)

  pub steppable : Steppable w rest
  steppable = record { few = few; some = some_left }

  this_turn :
      read_month prices file
      ≡ onward (first (record_checks (prices_asked w.prices_asked) k.month w.records rest))
      (cond (is_end (R.record_at rest)) (closed k.month (suc w.records) later)
      (read_on (prices_asked w.prices_asked) (length file - suc w.records) later (suc w.records) (F.with k.month (R.record_at rest))))
  this_turn =
      let fuel : length file - w.records ≡ suc (length file - suc w.records) = omega (arith, k.fuel, turn_is.more) in
      sym (read_by_records prices file turn_is.some turn_is.short) ∙ sym k.same
      ∙ ap (λ (f : ℕ). read_on (prices_asked w.prices_asked) f rest w.records k.month) fuel
      ∙ turn (prices_asked w.prices_asked) (length file - suc w.records) rest w.records k.month some_left

  -- the reading goes on
  module _ {v : Walk} {size : ℕ} (s : Stepped w rest (Ok (S.Next v size))) where
    abbrev grown : MonthFile
    grown = F.with k.month (R.record_at rest)

    same_later : read_on (prices_asked v.prices_asked) (length file - v.records) (drop (place + size) file) v.records grown ≡ read_on prices (length file) file 0 nothing_yet
    unfolding onward
    same_later =
        let means = s.means k.month k.stands in
        let n : v.records ≡ suc w.records = s.moves.1 ∙ add-one w.records in
        let size_is : size ≡ suc (R.body_length (R.kind_at rest)) = omega (arith, s.moves.0) in
        let there : drop (place + size) file ≡ later = sym (drop-drop size place file) ∙ ap (λ (j : ℕ). drop j rest) size_is in
        ap (λ (x : Called.Prices). read_on (prices_asked x) (length file - v.records) (drop (place + size) file) v.records grown) s.moves.4
        ∙ ap₂ (λ (j : ℕ) (l : List ℕ). read_on (prices_asked w.prices_asked) (length file - j) l j grown) n there
        ∙ sym (read_by_records prices file turn_is.some turn_is.short ∙ this_turn ∙ rw (means.0, means.1))

    next_walking : Walking prices file v (place + size)
    next_walking =
        record { bound = omega (arith, left, s.moves.3); counted = s.moves.2; fuel = omega (arith, k.fuel, s.moves.0, s.moves.1); month = grown; stands = (s.means k.month k.stands).2; same = same_later }

  -- a record is refused
  refused_here : {r : Refused} → Stepped w rest (Err r) → refusal (named r.0) r.1 ≡ read_month prices file
  unfolding onward
  refused_here s = sym (this_turn ∙ rw (s.means k.month k.stands))

  -- the end record, and what stands after it
  module _ (s : Stepped w rest (Ok S.End)) where
    ended : read_month prices file ≡ closed k.month (suc w.records) later
    unfolding onward
    ended = let means = s.means k.month k.stands in this_turn ∙ rw (means.0, means.1)

    after_the_end : length later ≡ length rest - 5
    after_the_end = length-drop (suc (R.body_length (R.kind_at rest))) rest ∙ omega (arith, s.moves.0)

    at_the_end : length file - place ≡ 5 → given (sections_in w) ≡ read_answer (read_month prices file)
    at_the_end e =
        sym
        (ap read_answer (ended ∙ closed_gives k.month (suc w.records) later (omega (arith, left, after_the_end)))
        ∙ ap given (same_sections k.month w k.stands))

    past_the_end : (length file - place ≡ 5 → ⊥) → refusal file_fault (w.records + 1) ≡ read_month prices file
    past_the_end e =
        sym
        (ended ∙ closed_refuses k.month (suc w.records) later (omega (arith, left, after_the_end, s.moves.1, e))
        ∙ ap (refusal file_fault) (sym (add-one w.records)))

  -- The same of what the step answered.
  module _ {s : Result Step Refused} (stepped : Stepped w rest s) where
    stepped_as : {t : Result Step Refused} → s ≡ t → Stepped w rest t
    stepped_as e = subst (Stepped w rest) e stepped

    pub refuses : {r : Refused} → s ≡ Err r → refusal (named r.0) r.1 ≡ read_answer (read_month prices file)
    refuses e = ap read_answer (refused_here (stepped_as e))

    module _ {step : Step} (told : s ≡ Ok step) where
      pub goes_on : {v : Walk} {size : ℕ} → step ≡ S.Next v size → Walking prices file v (place + size)
      goes_on e = next_walking (stepped_as (told ∙ ap Ok e))

      pub moves : {v : Walk} {size : ℕ} → step ≡ S.Next v size → (1 ≤ size) × (place + size ≤ length file)
      moves e = (omega (arith, (stepped_as (told ∙ ap Ok e)).moves.0), (goes_on e).bound)

      pub accepts : {x : Sections} → step ≡ S.End → length file - place ≡ 5 → x ≡ sections_in w → given x ≡ read_answer (read_month prices file)
      accepts e five is = ap given is ∙ at_the_end (stepped_as (told ∙ ap Ok e)) five

      pub goes_past : step ≡ S.End → (length file - place ≡ 5 → ⊥) → refusal file_fault (w.records + 1) ≡ read_answer (read_month prices file)
      goes_past e longer = ap read_answer (past_the_end (stepped_as (told ∙ ap Ok e)) longer)

-- no end record
pub never_ends :
    (prices : Prices) (file : List ℕ) → 1 ≤ length file → length file ≤ longest_file → (w : Walk) (place : ℕ) → Walking prices file w place → length file ≤ place
    → refusal file_fault w.records ≡ read_answer (read_month prices file)
never_ends prices file some short w place k b =
    ap read_answer
    (sym
    (sym k.same ∙ ap (λ (l : List ℕ). read_on (prices_asked w.prices_asked) (length file - w.records) l w.records k.month) (drop_of_length-le file b)
    ∙ none_left (prices_asked w.prices_asked) (length file - w.records) w.records k.month)
    ∙ read_by_records prices file some short)
