-- `month_series::judge_readings` meets its contract: what is left of the readings says what the whole says, and each is read behind those before it. Assumes nothing.
use mathlib.Core.Path.{◌≡◌, sym, ◌∙◌, ap}
use native.Mathlib.Omega.{arith}
use Rattle.file_sections.proofs.AcceptedFile.{readings_are}
use Rattle.answer.specs.Said.{said}
use Rattle.answer.proofs.Checks.{handed}
use Rattle.file_fields.specs.Fields.{ReadingPlaced}
use Rattle.file_fields.proofs.Readers.{reading_asked, next_place, next_within}
use Rattle.month_series.proofs.OneReading.{Read, in_file_lem, ends_stand, end_not_less, judged_is, none_before, one_further}
use Rattle.rules.specs.Month.{month_of, reading_verdict}
use Rattle.rules.specs.Words.{at}
use Rattle.rules.proofs.Loops.{look_start, look_pass, look_stop, look_end}
use Rattle.month_series.proofs.judge_readings.Goals.{In-loop-j, After-reading-x, After-judge_reading}
use Rattle.month_series.proofs.judge_readings.Goals as goal

-- where the reading stands
here : (c : In-loop-j) → ReadingPlaced c.args.file.now c.args.s c.loop-j.j c.loop-j.place
here c = record { accepted = c.requires.accepted; number = omega arith; is = c.loop-j.invariant.1 }

-- the reading that was read
read : (c : After-reading-x) → Read c.args.file.now c.args.s c.args.beginnings.now c.loop-j.j c.loop-j.place c.reading-x.result
read c = record { written = c.requires.beginnings_value; placed = record { accepted = c.requires.accepted; number = omega arith; is = c.loop-j.invariant.1 }; is = c.reading-x.ensures }

-- what is said of it
judged : (c : After-judge_reading) → Read c.args.file.now c.args.s c.args.beginnings.now c.loop-j.j c.loop-j.place c.reading-x.result
    → said c.judge_reading.result ≡ reading_verdict (month_of c.args.file.now) c.loop-j.j
unfolding at
judged c r = judged_is r c.weight_between-own.ensures c.spread_of.ensures c.judge_reading.ensures

pub loop-j-init : goal.loop-j-init
loop-j-init c = (look_start _ _, none_before _ _)

pub reading-x-requires : goal.reading-x-requires
reading-x-requires c = reading_asked _ _ _ _ (here c)

pub weight_between-own-requires : goal.weight_between-own-requires
unfolding at
weight_between-own-requires c =
    let r = read (goal.at.weight_between-own-requires c).After-reading-x in
    ((ends_stand r).0, ((ends_stand r).1, end_not_less r))

pub returns-in_err-judge_reading : goal.returns-in_err-judge_reading
returns-in_err-judge_reading c =
    let at_end = goal.at.returns-in_err-judge_reading c in
    let r = read at_end.After-reading-x in
    let refused = ap said c.in_err-judge_reading.was in
    ap said (handed c.from_residual.ensures) ∙ sym (look_stop c.loop-j.invariant.0 (in_file_lem r) (sym (judged at_end.After-judge_reading r) ∙ refused))

pub overflow_add-place : goal.overflow_add-place
overflow_add-place c = omega (arith, next_within _ _ _ _ (here (goal.at.overflow_add-place c).In-loop-j) c.reading-x.ensures c.reading_size-place.ensures)

pub loop-j-preserved : goal.loop-j-preserved
loop-j-preserved c =
    let at_end = goal.at.loop-j-preserved c in
    let r = read at_end.After-reading-x in (
      look_pass c.loop-j.invariant.0 (in_file_lem r) (sym (judged at_end.After-judge_reading r) ∙ ap said c.in_ok-judge_reading.was),
      next_place _ _ _ _ r.placed c.reading-x.ensures c.reading_size-place.ensures ∙ one_further _ _ _,
    )

pub returns : goal.returns
returns c = sym (look_end c.loop-j.invariant.0 (omega (arith, readings_are _ _ c.requires.accepted)))
