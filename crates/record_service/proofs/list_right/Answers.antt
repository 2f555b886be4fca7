-- `record_service::list_right` meets its contract: each test is one of the rule. Assumes nothing.
use mathlib.Core.Path.{◌∙◌}
use Rattle.record_service.proofs.PlainOne.{wrong_length_lem, wrong_sign, by_its_fields}
use Rattle.record_service.proofs.list_right.Goals as goal

pub returns-then-numbers-field_count : goal.returns-then-numbers-field_count
returns-then-numbers-field_count c = wrong_length_lem c.args.sort c.args.numbers.now c.field_count.ensures c.if-numbers-field_count.true

pub returns-then-not-signs_right : goal.returns-then-not-signs_right
returns-then-not-signs_right c =
    wrong_sign c.args.sort c.args.numbers.now c.field_count.ensures
    c.if-numbers-field_count.false c.signed_place.ensures c.signs_right.ensures c.if-not-signs_right.true

pub fields_hold-requires : goal.fields_hold-requires
fields_hold-requires c = c.if-numbers-field_count.false ∙ c.field_count.ensures

pub returns : goal.returns
returns c =
    by_its_fields c.args.sort c.args.numbers.now c.field_count.ensures
    c.if-numbers-field_count.false c.signed_place.ensures c.signs_right.ensures
    c.if-not-signs_right.false c.fields_hold.ensures
