-- `record_rule::read_alone` meets its contract: each test is the next check of the rules. Assumes nothing.
use Rattle.rules.specs.Words.{at}
use Rattle.rules.specs.Record.{kind_at}
use native.Mathlib.Omega.{arith}
use Rattle.answer.proofs.Checks.{handed}
use Rattle.record_rule.proofs.ReadOne.{nothing_there, no_kind, cut_short, stands_whole, whole_record, faulty_record}
use Rattle.record_rule.proofs.read_alone.Goals as goal

pub returns-then-part-lt1 : goal.returns-then-part-lt1
returns-then-part-lt1 c = nothing_there _ (omega arith)

pub returns-then-body-lt1 : goal.returns-then-body-lt1
unfolding kind_at at
returns-then-body-lt1 c = no_kind _ (omega arith) (omega (arith, c.body_length-body.ensures))

pub returns-then-part-body : goal.returns-then-part-body
unfolding kind_at at
returns-then-part-body c = cut_short _ (omega arith) (omega (arith, c.body_length-body.ensures)) (omega (arith, c.body_length-body.ensures))

pub decode-r-requires : goal.decode-r-requires
unfolding kind_at at
decode-r-requires c = stands_whole _ (omega arith) (omega (arith, c.body_length-body.ensures)) (omega (arith, c.body_length-body.ensures))

pub returns-in_err-fault_of_part : goal.returns-in_err-fault_of_part
unfolding kind_at at
returns-in_err-fault_of_part c =
    faulty_record _ (omega arith) (omega (arith, c.body_length-body.ensures)) (omega (arith, c.body_length-body.ensures)) _ c.decode-r.ensures _ c.fault_of_part.ensures
    c.in_err-fault_of_part.was
    (handed c.from_residual.ensures)

pub returns : goal.returns
unfolding kind_at at
returns c =
    whole_record _ (omega arith) (omega (arith, c.body_length-body.ensures)) (omega (arith, c.body_length-body.ensures)) _ c.decode-r.ensures _ c.fault_of_part.ensures
    c.in_ok-fault_of_part.was
