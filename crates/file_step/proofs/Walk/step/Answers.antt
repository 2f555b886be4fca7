-- `file_step::Walk::step` meets its contract: `Exits` says why, exit by exit. Assumes nothing.
use Rattle.answer.proofs.Checks.{handed}
use Rattle.file_step.proofs.Exits as E
use Rattle.file_step.proofs.Walk.step.Goals.{After-body_length-size, Else-rest-size, After-fault_of_part}
use Rattle.file_step.proofs.Walk.step.Goals as goal

-- what is known of the record once its kind is looked up, once it is known to stand whole, and once its fields are judged
sized : (c : After-body_length-size) → E.Sized c.args.self c.args.rest.now c.body_length-size.result
sized c = E.sized c.requires c.body_length-size.ensures

standing : (c : Else-rest-size) → E.Standing c.args.self c.args.rest.now c.body_length-size.result
standing c = E.standing (E.sized c.requires c.body_length-size.ensures) c.if-size-eq0.false c.if-rest-size.false

judged : (c : After-fault_of_part) → E.Standing c.args.self c.args.rest.now c.body_length-size.result
    → E.Judged c.args.self c.args.rest.now c.body_length-size.result c.decode-r.result c.fault_of_part.result
judged c whole = E.judged (E.due whole c.decode-r.result c.decode-r.ensures c.due.ensures c.if-not-due.false) c.fault_of_part.ensures

pub returns-then-size-eq0 : goal.returns-then-size-eq0
returns-then-size-eq0 c = E.exit_unknown (sized (goal.at.returns-then-size-eq0 c).After-body_length-size) c.if-size-eq0.true

pub returns-then-rest-size : goal.returns-then-rest-size
returns-then-rest-size c = E.exit_cut (sized (goal.at.returns-then-rest-size c).After-body_length-size) c.if-size-eq0.false c.if-rest-size.true

pub decode-r-requires : goal.decode-r-requires
decode-r-requires c = E.decodable (standing c)

pub returns-then-not-due : goal.returns-then-not-due
returns-then-not-due c = E.exit_order (standing (goal.at.returns-then-not-due c).Else-rest-size) c.decode-r.result c.decode-r.ensures c.due.ensures c.if-not-due.true

pub returns-in_err-fault_of_part : goal.returns-in_err-fault_of_part
returns-in_err-fault_of_part c =
    let at_end = goal.at.returns-in_err-fault_of_part c in
    E.exit_fault (judged at_end.After-fault_of_part (standing at_end.Else-rest-size)) c.in_err-fault_of_part.was (handed c.from_residual.ensures)

pub judged-requires : goal.judged-requires
judged-requires c =
    let at_end = goal.at.judged-requires c in
    E.judged_asks (judged at_end.After-fault_of_part (standing at_end.Else-rest-size))

pub returns : goal.returns
returns c =
    let at_end = goal.at.returns c in
    E.exit_judged (judged at_end.After-fault_of_part (standing at_end.Else-rest-size)) c.in_ok-fault_of_part.was c.judged.ensures
