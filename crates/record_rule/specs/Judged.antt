-- What the rule of a record's fields says of the code's record, and what reading one record tells, in the words of the rules (01 "Numbers that bound it", "The
-- month file").
use Rattle.std.specs.Prelude.{ℕ, Result}
use Rattle.answer.specs.Said as A
use Rattle.answer.specs.declared.Refused.{Refused}
use Rattle.record.specs.Record.{Glns, record_of}
use Rattle.record.specs.declared.Record.{Record}
use Rattle.rules.specs.Record as RRecord
use Rattle.rules.specs.Refusals.{Verdict, Answer, first}

-- 4, 5, 11, 12, in that order, of a record with the bytes of its GLNs beside it, by itself with so many hours and parties, at a place
unfoldable pub fault_of : ℕ → ℕ → Glns → Record → ℕ → Verdict
fault_of hours parties beside r place = first (RRecord.checks (RRecord.by_itself hours parties place) (record_of beside r))

-- what reading one record tells
abbrev pub told : Glns → Result Record Refused → Answer RRecord.Record
told beside = A.told (record_of beside)
