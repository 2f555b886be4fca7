-- `record_write::put_record` meets its contract: a record without fault has the length that its kind says. Assumes nothing.
use Rattle.record.proofs.BodyShort.{body_short}
use Rattle.record_write.specs.Writing.{kind_of}
use Rattle.rules.specs.Record.{body_length}
use Prim.Native.Nat.{ℕ, ◌+◌}
use mathlib.Core.Path.{◌∙◌, ap}
use native.Mathlib.Omega.{arith}
use Rattle.record_write.proofs.WriteOne.{size_is, too_short, has_room}
use Rattle.record_write.proofs.put_record.Goals as goal

pub overflow_add-n : goal.overflow_add-n
overflow_add-n c = omega (arith, c.body_length-n.ensures ∙ ap body_length c.kind_of.ensures, body_short (kind_of c.args.r))

pub returns-then-out-n : goal.returns-then-out-n
returns-then-out-n c =
    too_short _ c.args.r c.args.out.now c.requires
    (omega (arith, c.body_length-n.ensures ∙ ap body_length c.kind_of.ensures))

pub encode-requires : goal.encode-requires
encode-requires c =
    let kind = c.body_length-n.ensures ∙ ap body_length c.kind_of.ensures in
    let size = size_is _ c.args.r c.requires in
    record { sound = c.requires; room = omega (arith, kind, size) }

pub returns : goal.returns
returns c =
    has_room _ c.args.r c.args.out.now c.requires
    (ap (λ (n : ℕ). 1 + n) (c.body_length-n.ensures ∙ ap body_length c.kind_of.ensures))
    (omega arith) c.encode.ensures
