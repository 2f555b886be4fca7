-- `record_service::held_at` meets its contract: below its field, within it, or beyond it. Assumes nothing.
use Rattle.record_service.specs.Held.{held}
use lib.IntN.{pos}
use lib.ListN.{get_or}
use mir.Syntax.{w64}
use mir.Val.{SFits}
use Rattle.record_bytes.proofs.Complement.{plain_fits}
use Rattle.record_service.proofs.Numbers.{within_field, beyond_field, below_field}
use borrow.Author.Rules.{rules}
use Rattle.record_service.proofs.held_at.Goals as goal

pub overflow_cast-n : goal.overflow_cast-n
overflow_cast-n c = let f : SFits w64 (get_or c.args.numbers.now c.args.k (pos 0)) = search rules in plain_fits f 0 c.if-z-ge0.true

pub returns-then-n-most : goal.returns-then-n-most
unfolding held
returns-then-n-most c =
    let f : SFits w64 (get_or c.args.numbers.now c.args.k (pos 0)) = search rules in
    within_field f _ c.if-z-ge0.true c.if-n-most.true

pub returns-then-z-ge0 : goal.returns-then-z-ge0
unfolding held
returns-then-z-ge0 c =
    let f : SFits w64 (get_or c.args.numbers.now c.args.k (pos 0)) = search rules in
    beyond_field f _ c.if-z-ge0.true c.if-n-most.false

pub returns : goal.returns
unfolding held
returns c = let f : SFits w64 (get_or c.args.numbers.now c.args.k (pos 0)) = search rules in below_field f _ c.if-z-ge0.false
