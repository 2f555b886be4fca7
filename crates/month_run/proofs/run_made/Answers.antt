-- `month_run::run_made` meets its contract: refused by an hour or by what is asked, or written. Assumes nothing.
use Rattle.answer.proofs.Checks.{handed, accepted_by}
use Rattle.month_run.proofs.Answers.{refused_hour, refused_run, run_lent, written}
use Rattle.month_run.proofs.run_made.Goals as goal

pub judge_all-limited-requires : goal.judge_all-limited-requires
judge_all-limited-requires c = record { windows_known = c.requires.month_known.windows; window_len = c.requires.window_len }

pub returns-in_default : goal.returns-in_default
returns-in_default c = refused_hour _ _ _ _ _ _ _ c.judge_all-limited.ensures.answer c.in_default.is c.in_default.is

pub returns-in_err-asked : goal.returns-in_err-asked
returns-in_err-asked c =
    refused_run c.requires.month_known.windows.accepted (accepted_by c.judge_all-limited.ensures.answer c.in-Ok.is) _ _ _ _ _ _ c.asked.ensures c.in_err-asked.was
    (handed c.from_residual.ensures)

pub run_hours-requires : goal.run_hours-requires
run_hours-requires c = let lent = run_lent c.requires.month_known.windows.accepted (accepted_by c.judge_all-limited.ensures.answer c.in-Ok.is) _ _ _ _ _ _ _ c.asked.ensures c.in_ok-asked.was in record { run_known = record { month = c.requires.month_known; none_refuses = accepted_by c.judge_all-limited.ensures.answer c.in-Ok.is }; beginning = c.requires.beginning; window_len = c.judge_all-limited.ensures.window; run_lent = lent }

pub returns : goal.returns
returns c = written c.requires.month_known.windows.accepted (accepted_by c.judge_all-limited.ensures.answer c.in-Ok.is) _ _ _ _ _ _ c.asked.ensures c.in_ok-asked.was c.run_hours.ensures.run
