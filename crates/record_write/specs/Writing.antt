-- What the writer asks of a record and a part, and tells, in the words of the rules (01 "The month file", "The record writer").
use Rattle.std.specs.Prelude.{List, ◌≡◌, ℕ, ◌≤◌, leb, length, Result}
use Rattle.answer.specs.Said as A
use Rattle.answer.specs.declared.Refused.{Refused}
use Rattle.record.specs.Record.{record_of, Glns, glns, no_glns}
use Rattle.record.specs.declared.Record.{Record}
use Rattle.rules.specs.Record as RRecord
use Rattle.rules.specs.Refusals.{wrong_length, Verdict, accepted, Answer, unless, first, answer, afterwards}

-- a record's kind byte: no GLN is needed for it
abbrev pub kind_of : Record → ℕ
kind_of r = RRecord.kind_of (record_of no_glns r)

-- a record has no fault, and a part has room for it
pub record Writable (beside : Glns) (r : Record) (out : List ℕ) : Type 0 where
  pub sound : first (RRecord.checks RRecord.alone (record_of beside r)) ≡ accepted
  pub room : length (RRecord.record_bytes (record_of beside r)) ≤ length out

-- 16, "record writer: too short"
unfoldable pub room_for : RRecord.Record → List ℕ → Verdict
room_for r lent = unless (leb (length (RRecord.record_bytes r)) (length lent)) wrong_length 0

-- what writing one record tells
abbrev pub wrote : Result ℕ Refused → Answer ℕ
wrote = A.told (λ n. n)

-- what writing a record into a lent part promises under a verdict: "the number of bytes", and what the part then holds
abbrev pub WrittenUnder : RRecord.Record → List ℕ → Verdict → Answer ℕ → List ℕ → Type 0
WrittenUnder r lent v a held = (a ≡ answer v (length (RRecord.record_bytes r))) × (held ≡ afterwards v (RRecord.written r lent) lent)

-- of a record without fault only the room is left to test
abbrev pub RoomPromised : Record → List ℕ → List ℕ → List ℕ → Result ℕ Refused → List ℕ → Type 0
RoomPromised r gln brp_gln lent w held = WrittenUnder (record_of (glns gln brp_gln) r) lent (room_for (record_of (glns gln brp_gln) r) lent) (wrote w) held

-- THE PROMISE of `write`, of a record with the bytes that stand for its GLN and for its BRP's: its `ensures` cites it, and so does what is proved of every
-- service (`every_service`)
abbrev pub Promised : Record → List ℕ → List ℕ → List ℕ → Result ℕ Refused → List ℕ → Type 0
Promised r gln brp_gln lent w held =
    WrittenUnder (record_of (glns gln brp_gln) r) lent (RRecord.write_verdict (record_of (glns gln brp_gln) r) (length lent)) (wrote w) held
