-- What the writer on plain numbers promises, in the words of the rules (`PlainRecord`).
use Rattle.std.specs.Prelude.{List, ℕ, ℤ, length, Result}
use Rattle.answer.specs.declared.Refused.{Refused}
use Rattle.record_write.specs.Writing.{wrote, WrittenUnder}
use Rattle.rules.specs.PlainRecord.{plain_record, plain_verdict}

-- THE PROMISE: the answer is the number of bytes of the record that the numbers are, or the refusal; the lent part then holds these bytes at its start and
-- nothing further on is touched, or refused it holds what it held
abbrev pub Promised : ℕ → List ℤ → List ℕ → List ℕ → List ℕ → Result ℕ Refused → List ℕ → Type 0
Promised kind numbers gln brp_gln lent w held =
    WrittenUnder (plain_record kind numbers gln brp_gln) lent (plain_verdict kind numbers gln brp_gln (length lent)) (wrote w) held
