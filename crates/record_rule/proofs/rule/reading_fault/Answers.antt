-- `record_rule::rule::reading_fault` meets its contract: each test is one part of 4, 11 and 12, in their order. Assumes nothing.
use Rattle.record_rule.proofs.Judging.{no_party, not_before, past_the_end, too_much, no_fault}
use native.Mathlib.Omega.{arith}
use Rattle.record_rule.proofs.rule.reading_fault.Goals as goal

pub returns-then-parties-r : goal.returns-then-parties-r
returns-then-parties-r c = no_party _ _ _ _ (omega arith)

pub returns-then-r : goal.returns-then-r
returns-then-r c = not_before _ _ _ _ (omega arith) c.if-r.true

pub returns-then-hours-r : goal.returns-then-hours-r
returns-then-hours-r c = past_the_end _ _ _ _ (omega arith) (omega arith) c.if-hours-r.true

pub returns-then-r-gt-GREATEST_ENERGY_WH : goal.returns-then-r-gt-GREATEST_ENERGY_WH
returns-then-r-gt-GREATEST_ENERGY_WH c = too_much _ _ _ _ (omega arith) (omega arith) (omega arith) c.if-r-gt-GREATEST_ENERGY_WH.true

pub returns : goal.returns
returns c = no_fault _ _ _ _ (omega arith) (omega arith) (omega arith) c.if-r-gt-GREATEST_ENERGY_WH.false
