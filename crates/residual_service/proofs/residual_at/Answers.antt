-- `residual_service::residual_at` meets its contract: the four flows of the hour are read back as they stand. Assumes nothing.
use mathlib.Core.Path.{◌∙◌}
use borrow.Author.Rules.{rules}
use lib.IntN.{pos}
use lib.ListN.{get_or}
use mir.Facts.{to_z-of_z}
use mir.Syntax.{w64}
use mir.Val.{SFits}
use Rattle.rules.specs.Services.{at_ℤ}
use Rattle.rules.specs.Words.{at}
use Rattle.residual_service.proofs.residual_at.Goals as goal

pub residual_of-requires : goal.residual_of-requires
unfolding at_ℤ at
residual_of-requires c =
    let f : SFits w64 (get_or c.args.nets.now c.args.t (pos 0)) = search rules in
    rw (to_z-of_z f) c.requires.limits

pub returns : goal.returns
unfolding at_ℤ at
returns c =
    let f : SFits w64 (get_or c.args.nets.now c.args.t (pos 0)) = search rules in
    let r : SFits w64 c.residual_of.result = search rules in
    rw (to_z-of_z r) (c.residual_of.ensures ∙ rw (to_z-of_z f))
