-- The plain entry point: each test of the list is one of the rule's, and then the writer's own verdict counts.
use mathlib.Core.Bool.{Bool, true, false, ◌&&◌}
use mathlib.Core.List.{List}
use mathlib.Core.Path.{◌≡◌, refl, sym, ◌∙◌, ap, subst}
use Prim.Native.Nat.{ℕ, ◌≤◌, ◌<◌}
use native.Mathlib.Omega.{arith}
use borrow.Author.Tests.{le-leb, lt-leb, eq-eqb, ne_eqb, eqb-true}
use lib.Dec.{eqb, leb}
use lib.IntN.{ℤ, nat_abs}
use lib.ListN.{length}
use Rattle.record.specs.Record.{record_of, Glns}
use Rattle.record_service.specs.Held.{field_count, signed_place, signs_from, fields_held, list_right, held_record}
use Rattle.record_service.proofs.Alike.{plain_with, judged_alike, accepted_same, right_as_the_rules}
use Rattle.record_write.specs.Writing.{room_for, WrittenUnder}
use Rattle.record_write.proofs.WriteOne.{verdict_is}
use Rattle.rules.specs.PlainRecord.{nth, stand_in, fields_hold, plain_verdict}
use Rattle.rules.specs.Record.{Record, end_kind, long_reading_kind, body_length, known, fields_of, alone, checks, write_verdict}
use Rattle.rules.specs.Refusals.{unknown_kind, out_of_range, Verdict, accepted, refused, Answer, refusal, unless, and_then, first, answer, afterwards}
use Rattle.rules.proofs.EachKind.{kind_is_a_byte}
use Rattle.rules.proofs.Refusals.{then_accepted}
use Rattle.rules.proofs.RoundTrip.{both_true}

-- 4 OF THE LIST
module _ (kind : ℕ) (numbers : List ℤ) {n : ℕ} (count : n ≡ field_count kind) where
  pub wrong_length_lem : (length numbers ≡ n → ⊥) → false ≡ list_right kind numbers
  unfolding list_right
  wrong_length_lem h = rw (ne_eqb (length numbers) (field_count kind) (λ e. h (e ∙ sym count)))

  module _ (right : length numbers ≡ n) {p : ℕ} (place : p ≡ signed_place kind) {b : Bool} (signs : b ≡ signs_from p 0 numbers) where
    lengths : eqb (length numbers) (field_count kind) ≡ true
    lengths = eq-eqb (length numbers) (field_count kind) (right ∙ count)

    all_signs : signs_from (signed_place kind) 0 numbers ≡ b
    all_signs = sym (signs ∙ ap (λ (q : ℕ). signs_from q 0 numbers) place)

    pub wrong_sign : b ≡ false → false ≡ list_right kind numbers
    unfolding list_right
    wrong_sign e = rw (lengths, all_signs, e)

    module _ (e : b ≡ true) where
      pub by_its_fields : {t : Bool} → t ≡ fields_held kind numbers → t ≡ list_right kind numbers
      unfolding list_right
      by_its_fields q = q ∙ rw (lengths, all_signs, e)

-- what has room in its bytes, kind by kind
module _ (kind : ℕ) (numbers : List ℤ) where
  pub count_held : kind ≡ end_kind → {t : Bool} → t ≡ leb (nat_abs (nth numbers 0)) 4294967295 → t ≡ fields_held kind numbers
  unfolding fields_held
  count_held h q = q ∙ rw (eq-eqb kind end_kind h)

  pub weights_held : kind ≡ long_reading_kind → {t u : Bool} → t ≡ leb (nat_abs (nth numbers 4)) 18446744073709551615
      → u ≡ leb (nat_abs (nth numbers 5)) 18446744073709551615 → t && u ≡ fields_held kind numbers
  unfolding fields_held
  weights_held h p q = rw (h, p, q)

  pub others_held : (kind ≡ end_kind → ⊥) → (kind ≡ long_reading_kind → ⊥) → true ≡ fields_held kind numbers
  unfolding fields_held
  others_held h g = rw (ne_eqb kind end_kind h, ne_eqb kind long_reading_kind g)

pub right_length : (kind : ℕ) (numbers : List ℤ) → list_right kind numbers ≡ true → length numbers ≡ field_count kind
unfolding list_right
right_length kind numbers e =
    eqb-true (length numbers) (field_count kind)
    (both_true (eqb (length numbers) (field_count kind)) (signs_from (signed_place kind) 0 numbers)
    (both_true (eqb (length numbers) (field_count kind) && signs_from (signed_place kind) 0 numbers) (fields_held kind numbers) e).0
    ).0

-- 2: a kind is one byte, and a known one has a body
known_by : (kind : ℕ) (t : Bool) → known kind ≡ t → (known kind ≡ true → ⊥) → known kind ≡ false
known_by kind true e h = absurd (h e)
known_by kind false e h = e

pub no_kind_above : (kind : ℕ) → 255 < kind → known kind ≡ false
no_kind_above kind h = known_by kind (known kind) refl (λ e. omega (arith, kind_is_a_byte kind e))

pub no_body : (kind : ℕ) → body_length kind < 1 → known kind ≡ false
unfolding known
no_body kind h = lt-leb 1 (body_length kind) h

pub has_body : (kind : ℕ) → 1 ≤ body_length kind → known kind ≡ true
unfolding known
has_body kind h = le-leb 1 (body_length kind) h

-- THE WHOLE VERDICT
module _ (kind : ℕ) (numbers : List ℤ) (beside : Glns) (out : List ℕ) where
  abbrev record_held : Record
  record_held = record_of beside (held_record kind numbers)

  abbrev record_is : Record
  record_is = plain_with beside kind numbers

  abbrev plain_verdict_lem : Verdict
  plain_verdict_lem = plain_verdict kind numbers beside.gln beside.brp_gln (length out)

  -- what is promised, of an answer in the words of the rules
  abbrev Written_so : Answer ℕ → List ℕ → Type 0
  Written_so a after = WrittenUnder record_is out plain_verdict_lem a after

  pub unknown : known kind ≡ false → {a : Answer ℕ} → a ≡ refusal unknown_kind 0 → Written_so a out
  unfolding plain_verdict first and_then unless answer afterwards
  unknown e is = (rw e is, rw e refl)

  module _ (has : known kind ≡ true) {b : Bool} (list : b ≡ list_right kind numbers) where
    as_ruled : stand_in (fields_of record_is) numbers && fields_hold kind numbers ≡ b
    as_ruled = sym (list ∙ right_as_the_rules numbers beside kind has)

    pub wrong_list : b ≡ false → {a : Answer ℕ} → a ≡ refusal out_of_range 0 → Written_so a out
    unfolding plain_verdict first and_then unless answer afterwards
    wrong_list e is = (rw (has, as_ruled, e) is, rw (has, as_ruled, e) refl)

    module _ (e : b ≡ true) where
      passed : plain_verdict_lem ≡ write_verdict record_is (length out)
      unfolding plain_verdict first and_then unless
      passed = rw (has, as_ruled, e) (then_accepted (write_verdict record_is (length out)))

      held_count : fields_hold kind numbers ≡ true
      held_count = (both_true (stand_in (fields_of record_is) numbers) (fields_hold kind numbers) (as_ruled ∙ e)).1

      -- the writer's promise of the record as it is held is that of the record itself
      of_the_record : (v : Verdict) → first (checks alone record_is) ≡ v → {a : Answer ℕ} {after : List ℕ}
          → WrittenUnder record_held out (write_verdict record_held (length out)) a after
          → WrittenUnder record_is out (write_verdict record_is (length out)) a after
      unfolding and_then answer afterwards
      of_the_record accepted is {a} {after} h =
          subst (λ (r : Record). WrittenUnder r out (write_verdict r (length out)) a after) (accepted_same numbers beside kind has held_count is) h
      of_the_record (refused r place) is h =
          let held-refused = verdict_is record_held out ∙ ap (λ (v : Verdict). and_then v (room_for record_held out)) (judged_alike numbers beside kind has held_count ∙ is) in
          let is-refused = verdict_is record_is out ∙ ap (λ (v : Verdict). and_then v (room_for record_is out)) is in
          rw is-refused (rw held-refused at h)

      pub written_plain : {a : Answer ℕ} {after : List ℕ} → WrittenUnder record_held out (write_verdict record_held (length out)) a after → Written_so a after
      written_plain h =
          let same = of_the_record (first (checks alone record_is)) refl h in
          (rw passed same.0, rw passed same.1)
