-- `periodise_service::periodisation` meets its contract: its tests stand in the order of the checks, and what passes them all is spread with nothing before and S
-- the whole. Assumes nothing.
use mathlib.Core.Path.{refl, ◌∙◌, ap}
use lib.ListN.{length}
use Rattle.answer.specs.Said.{said}
use Rattle.answer.proofs.Checks.{handed, accepted_by, unwritten}
use Rattle.std.proofs.lemmas.List.{map-id}
use Rattle.rules.specs.Refusals.{afterwards}
use Rattle.periodise_service.proofs.Order.{lent_wrong, no_hours, too_many_hours, energy_wrong, weights_stop, Summed, follow_stop, all_pass, core_asks, core_gives}
use Rattle.periodise_service.proofs.periodisation.Goals as goal
use Rattle.periodise_service.proofs.periodisation.Goals.{After-total-s}

pub returns-then-out-weights : goal.returns-then-out-weights
unfolding afterwards
returns-then-out-weights c = record { answer = lent_wrong _ _ _ c.if-out-weights.true; contents = refl }

pub returns-then-weights-lt1 : goal.returns-then-weights-lt1
unfolding afterwards
returns-then-weights-lt1 c = record { answer = no_hours _ _ _ c.if-out-weights.false c.if-weights-lt1.true; contents = refl }

pub returns-then-weights-gt-MOST_WEIGHTS : goal.returns-then-weights-gt-MOST_WEIGHTS
unfolding afterwards
returns-then-weights-gt-MOST_WEIGHTS c = record { answer = too_many_hours _ _ _ c.if-out-weights.false c.if-weights-lt1.false c.if-weights-gt-MOST_WEIGHTS.true; contents = refl }

pub returns-then-e : goal.returns-then-e
unfolding afterwards
returns-then-e c = record { answer = energy_wrong _ _ _ c.if-out-weights.false c.if-weights-lt1.false c.if-weights-gt-MOST_WEIGHTS.false c.if-e.true; contents = refl }

pub returns-in_err-each_at_most : goal.returns-in_err-each_at_most
returns-in_err-each_at_most c =
    let on = handed c.from_residual.ensures in
    record {
      answer = ap said on
          ∙ weights_stop (record { as_long = c.if-out-weights.false; some = c.if-weights-lt1.false; few = c.if-weights-gt-MOST_WEIGHTS.false; fits = c.if-e.false }) (simp map-id at c.each_at_most.ensures) c.in_err-each_at_most.was;
      contents = unwritten _ _ on;
    }

-- what is known where the weights are judged, and E and the lengths before them
summed : (c : After-total-s) → Summed c.args.e c.args.weights.now (length c.args.out.now) c.total-s.result
summed c =
    record {
      shape = record { as_long = c.if-out-weights.false; some = c.if-weights-lt1.false; few = c.if-weights-gt-MOST_WEIGHTS.false; fits = c.if-e.false };
      each = accepted_by (simp map-id at c.each_at_most.ensures) c.in_ok-each_at_most.was;
      total = c.total-s.ensures;
    }

pub returns-in_err-followed_by : goal.returns-in_err-followed_by
returns-in_err-followed_by c =
    let on = handed c.from_residual-in_err-followed_by.ensures in
    record {
      answer = ap said on ∙ follow_stop (summed (goal.at.returns-in_err-followed_by c).After-total-s) c.followed_by.ensures c.in_err-followed_by.was;
      contents = unwritten _ _ on;
    }

pub spread-requires : goal.spread-requires
spread-requires c = let known = summed (goal.at.spread-requires c).After-total-s in record { within = core_asks known; out_len = known.shape.as_long }

pub returns : goal.returns
unfolding afterwards
returns c =
    let known = summed (goal.at.returns c).After-total-s in
    record { answer = all_pass known c.followed_by.ensures c.in_ok-followed_by.was; contents = core_gives known c.spread.ensures }
