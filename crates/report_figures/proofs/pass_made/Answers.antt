-- `report_figures::pass_made` meets its contract: refused before the hours, or these are passed. Assumes nothing.
use mathlib.Core.Path.{refl}
use Rattle.answer.proofs.Checks.{handed}
use Rattle.month_walk.proofs.Chain.{month_known, beginning}
use Rattle.report_figures.proofs.Making.{hour_refused, numbers_made}
use borrow.Author.Rules.{rules}
use Rattle.report_figures.proofs.pass_made.Goals as goal

pub pass_hours-requires : goal.pass_hours-requires
pass_hours-requires c =
    record {
      month_known = month_known _ _ c.requires.accepted c.requires.made_so refl c.applied-applied_wh.ensures;
      beginning = beginning _ _ c.requires.accepted c.requires.made_so;
      window_len = search rules;
      sums_lent = c.requires.sums_lent;
    }

pub returns-in_err-distances : goal.returns-in_err-distances
returns-in_err-distances c = hour_refused c.pass_hours.ensures.passed c.in_err-distances.was (handed c.from_residual.ensures)

pub returns : goal.returns
returns c = numbers_made c.pass_hours.ensures.passed c.requires.made_so c.in_ok-distances.was
