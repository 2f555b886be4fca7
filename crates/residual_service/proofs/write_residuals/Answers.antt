-- `residual_service::write_residuals` meets its contract: the beginning of the lent series is the residuals so far. Assumes nothing.
use mathlib.Core.Path.{◌∙◌}
use native.Mathlib.Omega.{arith}
use borrow.Author.Rules.{rules}
use mir.Facts.{to_z-of_z}
use mir.Syntax.{w64}
use mir.Val.{SFits}
use Rattle.rules.specs.Services.{residual_figures}
use Rattle.rules.proofs.Loops.{fill_start, fill_next, fill_end}
use Rattle.residual_service.proofs.Hours.{within_limits, written_fits, written_is}
use Rattle.residual_service.proofs.write_residuals.Goals as goal

pub loop-t-init : goal.loop-t-init
loop-t-init c = fill_start _ c.requires.out_len

pub residual_at-wh-requires : goal.residual_at-wh-requires
residual_at-wh-requires c = within_limits _ _ _ _ _ c.requires.judged.ranged _ (omega arith)

pub overflow_cast-out : goal.overflow_cast-out
overflow_cast-out c =
    let f : SFits w64 c.residual_at-wh.result = search rules in
    written_fits _ _ _ _ _ c.requires.judged _ (omega arith) (to_z-of_z f ∙ c.residual_at-wh.ensures)

pub loop-t-preserved : goal.loop-t-preserved
loop-t-preserved c =
    let f : SFits w64 c.residual_at-wh.result = search rules in
    fill_next c.loop-t.invariant (omega arith) (written_is _ _ _ _ _ _ (to_z-of_z f ∙ c.residual_at-wh.ensures))

pub returns : goal.returns
unfolding residual_figures
returns c = fill_end c.loop-t.invariant (omega arith)
