-- The exits of a step, each with its answer: what it means for the month read so far, and how far it moves.
use mathlib.Core.Bool.{Bool, true, false, cond}
use mathlib.Core.List.{List}
use mathlib.Core.Path.{◌≡◌, refl, sym, ◌∙◌, ap, ap₂, subst}
use Prim.Native.Nat.{ℕ, ◌+◌, ◌≤◌, ◌<◌}
use native.Mathlib.Omega.{arith}
use borrow.Author.Tests.{le-leb}
use lib.Dec.{eqb}
use lib.ListN.{length, get_or, drop}
use Rattle.std.specs.Prelude.{Option, Some, None, Result, Ok, Err, ⊤}
use Rattle.answer.specs.Said.{said}
use Rattle.answer.specs.declared.Refused.{Refused}
use Rattle.answer.specs.declared.Refusal.TheVariants.{UnknownKind, FileFault, OutOfOrder, GlnFault, WrongCount}
use Rattle.gln.specs.Gln.{gln_answer}
use Rattle.record.specs.Record.{record_of, glns_in, Whole}
use Rattle.record.specs.declared.Brp.{Brp}
use Rattle.record.specs.declared.Record.{Record}
use Rattle.record.specs.declared.Record.TheVariants.{Heading, Party, FixedHour, Reading, Price, RefixedHour, End}
use Rattle.record_rule.specs.Judged.{fault_of}
use Rattle.file_step.specs.declared.Walk.{Walk}
use Rattle.file_step.specs.declared.Step.{Step}
use Rattle.file_step.specs.declared.Step.TheVariants as S
use Rattle.file_step.specs.Walk.{due_in, moved_in, rises, risen_in, Counted, Few, Stepped, Steppable, StepMoves, judged_in}
use Rattle.file_step.proofs.Stepping as G
use Rattle.record.proofs.BodyShort.{body_short}
use Rattle.rules.specs.Record as R
use Rattle.rules.specs.Refusals.{accepted}
use Rattle.rules.specs.Words.{at}
use Rattle.rules.proofs.Places.{length_of, length_of_record}

-- how far a record that is judged moves the reading
module _ (w : Walk) (bytes : List ℕ) (size : ℕ) (body : size ≡ R.body_length (R.kind_at bytes)) (fits : size < length bytes) (c : Counted w) (known : R.known (R.kind_at bytes) ≡ true) where
  one_further : (size + 1 ≡ 1 + R.body_length (R.kind_at bytes)) × (size + 1 ≤ length bytes)
  one_further = (omega (arith, body), omega arith)

  end_is_short : (count : ℕ) → R.end count ≡ R.record_at bytes → (R.body_length (R.kind_at bytes) ≡ 4) × (5 ≤ length bytes)
  unfolding R.record_at
  end_is_short count is =
      let four : R.body_length (R.kind_at bytes) ≡ 4 = length_of_record (R.kind_at bytes) (R.cut_into (R.field_widths (R.kind_at bytes)) (drop 1 bytes)) known ∙ ap length_of (sym is) in
      (four, omega (arith, body))

  party_moves : (brp : Brp) (share : ℕ) (g : Option ℕ) → StepMoves w bytes (risen_in w (Party brp share) g size)
  party_moves brp share (Some number) = risen (rises w number)
    where
      risen : (t : Bool) → StepMoves w bytes (cond t (Ok (moved_in w (Party brp share) number size)) (Err (GlnFault, w.records)))
      risen true = (one_further.0, refl, omega (arith, c), one_further.1, refl)
      risen false = tt
  party_moves brp share None = tt

  moves_on : (x : Record) → record_of (glns_in bytes) x ≡ R.record_at bytes → (gln : List ℕ) → StepMoves w bytes (judged_in w x gln size)
  moves_on (Heading h) is gln = (one_further.0, refl, omega (arith, c), one_further.1, refl)
  moves_on (Party brp share) is gln = party_moves brp share (gln_answer gln)
  moves_on (FixedHour hour f) is gln = (one_further.0, refl, omega (arith, c), one_further.1, refl)
  moves_on (Reading r) is gln = (one_further.0, refl, omega (arith, c), one_further.1, refl)
  moves_on (Price hour p) is gln = (one_further.0, refl, omega (arith, c), one_further.1, refl)
  moves_on (RefixedHour hour f) is gln = (one_further.0, refl, omega (arith, c), one_further.1, refl)
  moves_on (End count) is gln = ended (eqb count w.records)
    where
      ended : (t : Bool) → StepMoves w bytes (cond t (Ok S.End) (Err (WrongCount, w.records)))
      ended true = end_is_short count is
      ended false = tt

-- what a party comes to, by the test of its GLN
pub of_a_party :
    (w : Walk) (gln : List ℕ) (size : ℕ) {r : Record} {brp : Brp} {share : ℕ} {g : Option ℕ} {s : Result Step Refused} → r ≡ Party brp share → g ≡ gln_answer gln
    → s ≡ risen_in w r g size
    → s ≡ judged_in w r gln size
of_a_party w gln size is tested e =
    e ∙ ap₂ (λ (x : Record) (g : Option ℕ). risen_in w x g size) is tested ∙ sym (ap (λ (x : Record). judged_in w x gln size) is)

-- The kinds that have no check left go on: those that a match on a party and an end leaves.
pub others :
    (w : Walk) (gln : List ℕ) (size : ℕ) (r : Record) → ((brp : Brp) (share : ℕ) → r ≡ Party brp share → ⊥) → ((count : ℕ) → r ≡ End count → ⊥)
    → Ok (moved_in w r 0 size) ≡ judged_in w r gln size
others w gln size (Heading h) no_party no_end = refl
others w gln size (Party brp share) no_party no_end = absurd (no_party brp share refl)
others w gln size (FixedHour hour f) no_party no_end = refl
others w gln size (Reading r) no_party no_end = refl
others w gln size (Price hour p) no_party no_end = refl
others w gln size (RefixedHour hour f) no_party no_end = refl
others w gln size (End count) no_party no_end = absurd (no_end count refl)

-- What is known after each test of a step. The kind's body has so many bytes:
pub record Sized (w : Walk) (bytes : List ℕ) (size : ℕ) : Type 0 where
  pub asked : Steppable w bytes
  pub body : size ≡ R.body_length (R.kind_at bytes)

-- a record of a known kind stands whole;
pub record Standing (w : Walk) (bytes : List ℕ) (size : ℕ) : Type 0 where
  pub sized : Sized w bytes size
  pub some : 1 ≤ R.body_length (R.kind_at bytes)
  pub fits : size < length bytes

-- it was decoded, and is due;
pub record Due (w : Walk) (bytes : List ℕ) (size : ℕ) (r : Record) : Type 0 where
  pub standing : Standing w bytes size
  pub is : record_of (glns_in bytes) r ≡ R.record_at bytes
  pub due : due_in w r ≡ true

-- and its fields were judged.
pub record Judged (w : Walk) (bytes : List ℕ) (size : ℕ) (r : Record) (a : Result ⊤ Refused) : Type 0 where
  pub due : Due w bytes size r
  pub says : said a ≡ fault_of w.heading.hours w.heading.parties (glns_in bytes) r w.records

module _ {w : Walk} {bytes : List ℕ} {size : ℕ} where
  pub sized : Steppable w bytes → size ≡ R.body_length (get_or bytes 0 0) → Sized w bytes size
  unfolding R.kind_at at
  sized asked e = record { asked = asked; body = e }

  pub exit_unknown : Sized w bytes size → size ≡ 0 → Stepped w bytes (Err (UnknownKind, w.records))
  exit_unknown k e = record { means = λ m st. G.unknown m w st bytes (sym k.body ∙ e); moves = tt }

  some_body : Sized w bytes size → (size ≡ 0 → ⊥) → 1 ≤ R.body_length (R.kind_at bytes)
  some_body k some = omega (arith, k.body, some)

  pub exit_cut : Sized w bytes size → (size ≡ 0 → ⊥) → length bytes ≤ size → Stepped w bytes (Err (FileFault, w.records))
  exit_cut k some b = record { means = λ m st. G.cut m w st bytes (some_body k some) (omega (arith, k.body)); moves = tt }

  pub standing : Sized w bytes size → (size ≡ 0 → ⊥) → size < length bytes → Standing w bytes size
  standing k some b = record { sized = k; some = some_body k some; fits = b }

  module _ (k : Standing w bytes size) where
    whole_fits : 1 + R.body_length (R.kind_at bytes) ≤ length bytes
    whole_fits = omega (arith, k.sized.body, k.fits)

    known_kind : R.known (R.kind_at bytes) ≡ true
    unfolding R.known
    known_kind = le-leb 1 (R.body_length (R.kind_at bytes)) k.some

    pub decodable : Whole bytes
    decodable = record { known_kind = known_kind; fits = whole_fits }

    module _ (r : Record) (is : record_of (glns_in bytes) r ≡ R.record_at bytes) {d : Bool} (d-is : d ≡ due_in w r) where
      pub exit_order : d ≡ false → Stepped w bytes (Err (OutOfOrder, w.records))
      exit_order e = record { means = λ m st. G.not_due m w st bytes k.some whole_fits r is (sym d-is ∙ e); moves = tt }

      pub due : d ≡ true → Due w bytes size r
      due e = record { standing = k; is = is; due = sym d-is ∙ e }

  module _ {r : Record} {a : Result ⊤ Refused} where
    pub judged : Due w bytes size r → said a ≡ fault_of w.heading.hours w.heading.parties (glns_in bytes) r w.records → Judged w bytes size r a
    judged k a-says = record { due = k; says = a-says }

  module _ {r : Record} {a : Result ⊤ Refused} (j : Judged w bytes size r a) where
    k : Standing w bytes size
    k = j.due.standing

    pub exit_fault : {x : Refused} {s : Result Step Refused} → a ≡ Err x → s ≡ Err x → Stepped w bytes s
    exit_fault e is =
        rw is (record { means = λ m st. G.faulty m w st bytes k.some (whole_fits k) r j.due.is j.due.due j.says e; moves = tt })

    module _ {given : ⊤} (done : a ≡ Ok given) where
      sound : fault_of w.heading.hours w.heading.parties (glns_in bytes) r w.records ≡ accepted
      sound = sym j.says ∙ ap said done

      judged_stepped : Stepped w bytes (judged_in w r (glns_in bytes).gln size)
      judged_stepped =
          let further = moves_on w bytes size k.sized.body k.fits k.sized.asked.few.counted (known_kind k) r j.due.is in
          record { means = λ m st. G.judged_means m w st bytes k.some (whole_fits k) r j.due.is j.due.due sound size; moves = further (glns_in bytes).gln }

      pub exit_judged : {s : Result Step Refused} → s ≡ judged_in w r (glns_in bytes).gln size → Stepped w bytes s
      exit_judged is = subst (λ (z : Result Step Refused). Stepped w bytes z) (sym is) judged_stepped

    pub judged_asks : (size ≤ 35) × Few w
    judged_asks = (omega (arith, k.sized.body, body_short (R.kind_at bytes)), k.sized.asked.few)
