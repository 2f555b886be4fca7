-- `record_service::record_of` meets its contract: each kind has its own numbers, and the last kind is the end. Assumes nothing.
use borrow.Author.Rules.{rules}
use lib.IntN.{pos}
use lib.ListN.{get_or}
use mir.Facts.{to_z-of_z}
use mir.Syntax.{w64}
use mir.Val.{SFits}
use Rattle.record.specs.declared.Brp.TheVariants.{Own, Named}
use Rattle.record.specs.declared.Record.TheVariants.{Heading, Party, FixedHour, Reading, RefixedHour, End}
use Rattle.rules.proofs.EachKind.{body_lengths, last_kind}
use Rattle.record_service.specs.Held.{field_count, held_reading, held_record}
use native.Mathlib.Omega.{arith}
use mathlib.Core.Path.{◌∙◌, ap, ap₂}
use Rattle.record_service.proofs.record_of.Goals as goal

pub heading_of-requires : goal.heading_of-requires
unfolding field_count body_lengths
heading_of-requires c = omega (arith, c.requires.1 ∙ ap field_count c.in-1.is)

pub u64_of-requires : goal.u64_of-requires
unfolding field_count body_lengths
u64_of-requires c = omega (arith, c.requires.1 ∙ ap field_count c.in-2.is)

pub u16_of-requires : goal.u16_of-requires
unfolding field_count body_lengths
u16_of-requires c = omega (arith, c.requires.1 ∙ ap field_count c.in-3.is)

pub flows_of-requires : goal.flows_of-requires
unfolding field_count body_lengths
flows_of-requires c = omega (arith, c.requires.1 ∙ ap field_count c.in-3.is)

pub reading_of-requires : goal.reading_of-requires
unfolding field_count body_lengths
reading_of-requires c = omega (arith, c.requires.1 ∙ ap field_count c.in-4.is)

pub u16_of-requires-in-5 : goal.u16_of-requires-in-5
unfolding field_count body_lengths
u16_of-requires-in-5 c = omega (arith, c.requires.1 ∙ ap field_count c.in-5.is)

pub bounds-numbers-1 : goal.bounds-numbers-1
unfolding field_count body_lengths
bounds-numbers-1 c = omega (arith, c.requires.1 ∙ ap field_count c.in-5.is)

pub u16_of-requires-in-6 : goal.u16_of-requires-in-6
unfolding field_count body_lengths
u16_of-requires-in-6 c = omega (arith, c.requires.1 ∙ ap field_count c.in-6.is)

pub flows_of-requires-in-6 : goal.flows_of-requires-in-6
unfolding field_count body_lengths
flows_of-requires-in-6 c = omega (arith, c.requires.1 ∙ ap field_count c.in-6.is)

pub weights_of-requires : goal.weights_of-requires
unfolding field_count body_lengths
weights_of-requires c = omega (arith, c.requires.1 ∙ ap field_count c.in-8.is)

pub reading_of-requires-in-8 : goal.reading_of-requires-in-8
unfolding field_count body_lengths
reading_of-requires-in-8 c = omega (arith, c.requires.1 ∙ ap field_count c.in-8.is)

pub u64_of-requires-in-18 : goal.u64_of-requires-in-18
unfolding field_count body_lengths
u64_of-requires-in-18 c = omega (arith, c.requires.1 ∙ ap field_count c.in-18.is)

pub u32_of-requires : goal.u32_of-requires
unfolding field_count body_lengths
u32_of-requires c = omega (arith, c.requires.1 ∙ ap field_count (last_kind _ c.requires.0 (search rules)))

pub returns-in-1 : goal.returns-in-1
unfolding held_record
returns-in-1 c = rw c.in-1.is (ap Heading c.heading_of.ensures)

pub returns-in-2 : goal.returns-in-2
unfolding held_record
returns-in-2 c = rw c.in-2.is (ap (Party Own) c.u64_of.ensures)

pub returns-in-3 : goal.returns-in-3
unfolding held_record
returns-in-3 c = rw c.in-3.is (ap₂ FixedHour c.u16_of.ensures c.flows_of.ensures)

pub returns-in-4 : goal.returns-in-4
unfolding held_record
returns-in-4 c = rw c.in-4.is (ap Reading c.reading_of.ensures)

pub returns-in-5 : goal.returns-in-5
unfolding held_record
returns-in-5 c = let f : SFits w64 (get_or c.args.numbers.now 1 (pos 0)) = search rules in rw (c.in-5.is, to_z-of_z f, c.u16_of-in-5.ensures)

pub returns-in-6 : goal.returns-in-6
unfolding held_record
returns-in-6 c = rw c.in-6.is (ap₂ RefixedHour c.u16_of-in-6.ensures c.flows_of-in-6.ensures)

pub returns-in-8 : goal.returns-in-8
unfolding held_record
returns-in-8 c = rw c.in-8.is (ap Reading (c.reading_of-in-8.ensures ∙ ap (held_reading _) c.weights_of.ensures))

pub returns-in-18 : goal.returns-in-18
unfolding held_record
returns-in-18 c = rw c.in-18.is (ap (Party Named) c.u64_of-in-18.ensures)

pub returns-in_default : goal.returns-in_default
unfolding held_record
returns-in_default c = rw (last_kind _ c.requires.0 (search rules)) (ap End c.u32_of.ensures)
