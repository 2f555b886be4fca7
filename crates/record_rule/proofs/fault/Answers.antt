-- `record_rule::fault` meets its contract: each kind has its own checks. Assumes nothing.
use mathlib.Core.Path.{◌∙◌}
use mir.Syntax.{w64}
use mir.Val.{SFits}
use Rattle.record_rule.proofs.Judging.{heading_fault, fixed_fault, refixed_fault, price_fault, party_anywhere, reading_anyhow, end_has_none}
use borrow.Author.Rules.{rules}
use Rattle.record_rule.proofs.fault.Goals as goal

pub returns-in-Heading : goal.returns-in-Heading
returns-in-Heading c = rw c.in-Heading.is (heading_fault _ _ _ _ c.unless.ensures _ c.heading_in_range.ensures)

pub returns-in-Party : goal.returns-in-Party
returns-in-Party c = rw c.in-Party.is (c.party_fault.ensures ∙ party_anywhere _ _ _ _ _ _)

pub returns-in-FixedHour : goal.returns-in-FixedHour
returns-in-FixedHour c = rw c.in-FixedHour.is (fixed_fault _ _ _ _ c.unless-in-FixedHour.ensures _ _ c.hour_in_range.ensures)

pub returns-in-Reading : goal.returns-in-Reading
returns-in-Reading c = rw c.in-Reading.is (c.reading_fault.ensures ∙ reading_anyhow _ _ _ _ _)

pub returns-in-Price : goal.returns-in-Price
returns-in-Price c =
    let f : SFits w64 c.in-Price.p = search rules in
    rw c.in-Price.is (price_fault _ _ _ _ c.unless-in-Price.ensures _ _ f c.price_in_range.ensures)

pub returns-in-RefixedHour : goal.returns-in-RefixedHour
returns-in-RefixedHour c = rw c.in-RefixedHour.is (refixed_fault _ _ _ _ c.unless-in-RefixedHour.ensures _ _ c.hour_in_range-in-RefixedHour.ensures)

pub returns-in-End : goal.returns-in-End
returns-in-End c = rw c.in-End.is (end_has_none _ _ _ _ _)
