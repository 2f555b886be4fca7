-- `distribute_service::distribute` meets its contract: after t hours the list holds their figures (`Hours`). Assumes nothing.
use Rattle.distribute_service.proofs.Hours as H
use mathlib.Core.Path.{refl, sym, ◌∙◌}
use native.Mathlib.Omega.{arith}
use Rattle.distribute_service.proofs.distribute.Goals as goal

pub start-carries-requires : goal.start-carries-requires
start-carries-requires c = c.requires.startable

pub loop-t-init : goal.loop-t-init
loop-t-init c = H.hours_start _ _ _ c.requires refl c.start-carries.ensures

pub step-carries-requires : goal.step-carries-requires
step-carries-requires c = H.ready _ _ _ c.requires c.loop-t.invariant (omega arith)

pub put_figures-requires : goal.put_figures-requires
put_figures-requires c = (c.requires.startable.few, H.place_fits _ _ _ c.requires c.loop-t.invariant (omega arith))

pub overflow_add-place : goal.overflow_add-place
overflow_add-place c = omega (arith, H.place_small _ _ _ c.requires c.loop-t.invariant (omega arith))

pub loop-t-preserved : goal.loop-t-preserved
loop-t-preserved c =
    H.hours_next _ _ _ c.requires c.loop-t.invariant (omega arith)
    c.step-carries.ensures c.put_figures.ensures.fills

pub shape_of-out : goal.shape_of-out
shape_of-out c = c.loop-t.invariant.filling.size ∙ sym c.requires.size

pub returns : goal.returns
returns c = H.hours_end _ _ _ c.requires c.loop-t.invariant (omega arith)
