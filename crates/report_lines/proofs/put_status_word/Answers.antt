-- `report_lines::put_status_word` meets its contract: either word stands after a space. Assumes nothing.
use Rattle.rules.specs.Words.{ascii}
use Rattle.text.proofs.Puts.{put_as}
use Rattle.report_lines.proofs.Lines.{is_estimated_lem, is_measured}
use borrow.Author.Rules.{rules}
use Rattle.report_lines.proofs.put_status_word.Goals as goal

pub returns-then-status-eq-ESTIMATED : goal.returns-then-status-eq-ESTIMATED
unfolding ascii
returns-then-status-eq-ESTIMATED c = record { text = put_as (is_estimated_lem _ c.if-status-eq-ESTIMATED.true) c.put_bytes.ensures; within = search rules }

pub returns : goal.returns
unfolding ascii
returns c = record { text = put_as (is_measured _ c.if-status-eq-ESTIMATED.false) c.put_bytes-2.ensures; within = search rules }
