-- `month_run::put_hour` meets its contract: each output is filled from the hour's place on. Assumes nothing.
use native.Mathlib.Omega.{arith}
use lib.IntN.{ℤ}
use lib.ListN.{set}
use mathlib.Core.Path.{◌∙◌, ap}
use mir.Facts.{to_z-of_z}
use mir.Syntax.{w64}
use mir.Val.{SFits}
use Rattle.month_run.proofs.put_hour.Goals as goal

pub overflow_mul-place : goal.overflow_mul-place
overflow_mul-place c = omega (arith, c.requires.distributed_fits_holds)

pub put_loss-requires : goal.put_loss-requires
put_loss-requires c = omega (arith, c.requires.losses_fit)

pub returns : goal.returns
returns c =
    let fits : SFits w64 c.args.quantities.loss_wh = record { sfits = c.struct_told-1.given.1.1.1.0.1 } in
    record {
      distributed = c.put_figures.ensures.fills;
      periodised = c.put_wh.ensures.fills;
      differences = c.put_figures-2.ensures.fills;
      losses = c.put_loss.ensures ∙ ap (λ (z : ℤ). set c.args.losses_wh.now c.args.j z) (to_z-of_z fits);
    }
