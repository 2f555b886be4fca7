-- `record_service::field_count` meets its contract: each kind has its own number, and the last kind is the end. Assumes nothing.
use borrow.Author.Rules.{rules}
use Rattle.rules.proofs.EachKind.{body_lengths, last_kind}
use Rattle.record_service.specs.Held.{field_count}
use Rattle.record_service.proofs.field_count.Goals as goal

pub returns-in-1 : goal.returns-in-1
unfolding field_count body_lengths
returns-in-1 c = rw c.in-1.is

pub returns-in-2 : goal.returns-in-2
unfolding field_count body_lengths
returns-in-2 c = rw c.in-2.is

pub returns-in-3 : goal.returns-in-3
unfolding field_count body_lengths
returns-in-3 c = rw c.in-3.is

pub returns-in-4 : goal.returns-in-4
unfolding field_count body_lengths
returns-in-4 c = rw c.in-4.is

pub returns-in-5 : goal.returns-in-5
unfolding field_count body_lengths
returns-in-5 c = rw c.in-5.is

pub returns-in-6 : goal.returns-in-6
unfolding field_count body_lengths
returns-in-6 c = rw c.in-6.is

pub returns-in-8 : goal.returns-in-8
unfolding field_count body_lengths
returns-in-8 c = rw c.in-8.is

pub returns-in-18 : goal.returns-in-18
unfolding field_count body_lengths
returns-in-18 c = rw c.in-18.is

pub returns-in_default : goal.returns-in_default
unfolding field_count body_lengths
returns-in_default c = rw (last_kind _ c.requires (search rules))
