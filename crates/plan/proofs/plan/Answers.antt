-- `plan::plan` meets its contract: 13 comes last (`Making`). Assumes nothing.
use native.Mathlib.Omega.{arith}
use Rattle.answer.proofs.Checks.{handed}
use Rattle.plan.proofs.Making.{refused_under, weighed_all, energy_small, making_asked, nothing_under, made_under}
use Rattle.plan.proofs.plan.Goals as goal

pub returns-in_err-handed_fits : goal.returns-in_err-handed_fits
returns-in_err-handed_fits c = refused_under _ _ _ _ _ _ _ c.handed_fits.ensures c.in_err-handed_fits.was (handed c.from_residual.ensures)

pub whole_weight-whole-requires : goal.whole_weight-whole-requires
whole_weight-whole-requires c = weighed_all c.args.e_wh _ _ c.args.parties.now _ _ _ c.handed_fits.ensures c.in_ok-handed_fits.was

pub returns-then-not-follows : goal.returns-then-not-follows
returns-then-not-follows c =
    nothing_under _ _ _ _ _ _ _ c.handed_fits.ensures c.in_ok-handed_fits.was
    c.whole_weight-whole.ensures c.follows.ensures c.if-not-follows.true-raw

pub overflow_cast-e_wh : goal.overflow_cast-e_wh
overflow_cast-e_wh c =
    omega (
      arith,
      energy_small c.args.e_wh c.args.a c.args.b c.args.parties.now c.args.hours.now c.args.curves.now _
          c.handed_fits.ensures c.in_ok-handed_fits.was,
    )

pub make-requires : goal.make-requires
make-requires c = making_asked _ _ _ _ _ _ _ c.handed_fits.ensures c.in_ok-handed_fits.was c.whole_weight-whole.ensures

pub returns : goal.returns
returns c =
    made_under _ _ _ _ _ _ _ c.handed_fits.ensures c.in_ok-handed_fits.was
    c.whole_weight-whole.ensures c.follows.ensures c.if-not-follows.false-raw c.make.ensures
