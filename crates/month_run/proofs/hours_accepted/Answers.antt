-- `month_run::hours_accepted` meets its contract: refused before the hours, or what is made is what they are walked with. Assumes nothing.
use mathlib.Core.Path.{sym, ◌∙◌, ap}
use Rattle.answer.specs.Said.{said}
use Rattle.answer.proofs.Checks.{handed}
use Rattle.month_run.proofs.Answers.{refused_file}
use Rattle.month_walk.proofs.Chain.{file_verdict_lem, refused_before, hours_decide}
use Rattle.rules.specs.Setting.{optional}
use Rattle.month_run.proofs.hours_accepted.Goals as goal

pub returns-in_err-prepared : goal.returns-in_err-prepared
returns-in_err-prepared c =
    refused_file _ _ _ _ _ _ _ _ (handed c.from_residual.ensures)
    (file_verdict_lem optional _ _ _ c.requires ∙ sym (refused_before _ _ c.prepare.ensures.verdict c.in_err-prepared.was) ∙ ap said c.in_err-prepared.was)

pub hours_prepared-requires : goal.hours_prepared-requires
hours_prepared-requires c = record { accepted = c.requires; placed = c.prepare.ensures.prepared _ c.in_ok-prepared.was }

pub returns : goal.returns
returns c = c.hours_prepared.ensures.under _ (file_verdict_lem optional _ _ _ c.requires ∙ hours_decide _ _ c.prepare.ensures.verdict c.in_ok-prepared.was)
