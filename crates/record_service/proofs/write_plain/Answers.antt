-- `record_service::write_plain` meets its contract: the kind, the list, and then the writer. Assumes nothing.
use mathlib.Core.Path.{refl, sym, ◌∙◌}
use native.Mathlib.Omega.{arith}
use Rattle.record.specs.Record.{glns}
use Rattle.record_service.proofs.PlainOne.{no_kind_above, no_body, has_body, unknown, wrong_list, written_plain, right_length}
use Rattle.record_service.proofs.write_plain.Goals as goal

pub returns-then-kind-gt255 : goal.returns-then-kind-gt255
returns-then-kind-gt255 c = unknown c.args.kind c.args.numbers.now (glns c.args.gln.now c.args.brp_gln.now) c.args.out.now (no_kind_above _ c.if-kind-gt255.true) refl

pub returns-then-body_length-lt1 : goal.returns-then-body_length-lt1
returns-then-body_length-lt1 c =
    unknown c.args.kind c.args.numbers.now (glns c.args.gln.now c.args.brp_gln.now) c.args.out.now
    (no_body _ (omega (arith, c.body_length.ensures))) refl

pub list_right-requires : goal.list_right-requires
list_right-requires c = has_body _ (omega (arith, c.body_length.ensures))

pub returns-then-not-list_right : goal.returns-then-not-list_right
returns-then-not-list_right c =
    wrong_list c.args.kind c.args.numbers.now (glns c.args.gln.now c.args.brp_gln.now) c.args.out.now
    (has_body _ (omega (arith, c.body_length.ensures))) c.list_right.ensures c.if-not-list_right.true refl

pub record_of-r-requires : goal.record_of-r-requires
record_of-r-requires c = (has_body _ (omega (arith, c.body_length.ensures)), right_length _ _ (sym c.list_right.ensures ∙ c.if-not-list_right.false))

pub returns : goal.returns
returns c =
    written_plain c.args.kind c.args.numbers.now (glns c.args.gln.now c.args.brp_gln.now) c.args.out.now
    (has_body _ (omega (arith, c.body_length.ensures)))
    c.list_right.ensures c.if-not-list_right.false
    (rw c.record_of-r.ensures at c.write.ensures)
