-- `report_figures::pass_hour` meets its contract: its parts give the hour's sums and distances. Assumes nothing.
use mathlib.Core.Path.{◌∙◌, ap}
use Prim.Native.Nat.{ℕ}
use lib.IntN.{ℤ}
use lib.ListN.{set}
use mir.Facts.{to_z-of_z}
use mir.Syntax.{w64}
use mir.Val.{SFits}
use borrow.Author.Rules.{rules}
use Rattle.report_figures.proofs.pass_hour.Goals as goal

pub returns : goal.returns
returns c =
    let fits : SFits w64 c.total.result = search rules in
    let distributed = ap (λ (z : ℤ). set c.args.distributed_wh.now c.args.t z) (to_z-of_z fits ∙ c.total.ensures) in
    let periodised = ap (λ (n : ℕ). set c.args.periodised_wh.now c.args.t n) c.all_periodised.ensures in
    record { distances = c.with.ensures; distributed = distributed; periodised = periodised }
