-- The promises, each said once: a function's `ensures` cites it by its name, and so does what is proved of every service (`every_service`).
use Rattle.std.specs.Prelude.{List, ◌≡◌, ℕ, Result, ⊤}
use Rattle.answer.specs.Said.{said}
use Rattle.answer.specs.declared.Refused.{Refused}
use Rattle.record.specs.Record.{glns, glns_in}
use Rattle.record.specs.declared.Record.{Record}
use Rattle.record_rule.specs.Judged.{fault_of, told}
use Rattle.rules.specs.Record.{read_alone}

-- `fault`: of a record, with the bytes that stand for its GLN and for its BRP's, in a month of so many hours and parties, refused at this place
abbrev pub FaultPromised : Record → List ℕ → List ℕ → ℕ → ℕ → ℕ → Result ⊤ Refused → Type 0
FaultPromised r gln brp_gln hours parties place a = said a ≡ fault_of hours parties (glns gln brp_gln) r place

-- `fault_of_part`: the same, with the bytes that stand for its GLNs in the part
abbrev pub PartFaultPromised : Record → List ℕ → ℕ → ℕ → ℕ → Result ⊤ Refused → Type 0
PartFaultPromised r part hours parties place a = said a ≡ fault_of hours parties (glns_in part) r place

-- `read_alone`
abbrev pub ReadAlonePromised : List ℕ → Result Record Refused → Type 0
ReadAlonePromised part r = told (glns_in part) r ≡ read_alone part
