-- `record_service::fields_hold` meets its contract: an end count is tested, a weight always has room, and nothing else is asked. Assumes nothing.
use lib.Dec.{leb}
use lib.IntN.{pos, nat_abs}
use lib.ListN.{get_or}
use mir.Facts.{to_z-of_z}
use mir.Syntax.{w64}
use mir.Val.{SFits}
use mathlib.Core.Path.{◌∙◌, ap}
use native.Mathlib.Omega.{arith}
use Rattle.rules.proofs.EachKind.{body_lengths}
use Rattle.record_service.specs.Held.{field_count}
use Rattle.record_service.proofs.PlainOne.{count_held, weights_held, others_held}
use borrow.Author.Rules.{rules}
use Rattle.record_service.proofs.fields_hold.Goals as goal

pub bounds-numbers-0 : goal.bounds-numbers-0
unfolding field_count body_lengths
bounds-numbers-0 c = omega (arith, c.requires ∙ ap field_count c.in-7.is)

pub bounds-numbers-4 : goal.bounds-numbers-4
unfolding field_count body_lengths
bounds-numbers-4 c = omega (arith, c.requires ∙ ap field_count c.in-8.is)

pub bounds-numbers-5 : goal.bounds-numbers-5
unfolding field_count body_lengths
bounds-numbers-5 c = omega (arith, c.requires ∙ ap field_count c.in-8.is)

pub returns-in-7 : goal.returns-in-7
returns-in-7 c =
    let f : SFits w64 (get_or c.args.numbers.now 0 (pos 0)) = search rules in
    count_held c.args.sort c.args.numbers.now c.in-7.is
    (c.not_above_end.ensures ∙ ap (λ z. leb (nat_abs z) 4294967295) (to_z-of_z f))

pub returns-in-8 : goal.returns-in-8
returns-in-8 c =
    let f : SFits w64 (get_or c.args.numbers.now 4 (pos 0)) = search rules in
    let g : SFits w64 (get_or c.args.numbers.now 5 (pos 0)) = search rules in
    weights_held c.args.sort c.args.numbers.now c.in-8.is
    (c.in_eight_bytes.ensures ∙ ap (λ z. leb (nat_abs z) 18446744073709551615) (to_z-of_z f))
    (c.in_eight_bytes-in-8.ensures ∙ ap (λ z. leb (nat_abs z) 18446744073709551615) (to_z-of_z g))

pub returns-in_default : goal.returns-in_default
returns-in_default c = others_held _ _ (search rules) (search rules)
