-- `answer::Refusal::number` meets its contract: in each arm the refusal is the one that the arm names. Assumes nothing.
use mathlib.Core.Path.{◌≡◌, sym, ap}
use Rattle.answer.specs.Said.{named}
use Rattle.answer.specs.declared.Refusal.{Refusal}
use Rattle.rules.specs.Refusals.{number_of}
use Rattle.answer.proofs.Refusal.number.Goals as goal

numbered : {r known : Refusal} → r ≡ known → number_of (named known) ≡ number_of (named r)
numbered is = ap (λ (x : Refusal). number_of (named x)) (sym is)

pub returns-in-FileFault : goal.returns-in-FileFault
returns-in-FileFault c = numbered c.in-FileFault.is

pub returns-in-UnknownKind : goal.returns-in-UnknownKind
returns-in-UnknownKind c = numbered c.in-UnknownKind.is

pub returns-in-OutOfOrder : goal.returns-in-OutOfOrder
returns-in-OutOfOrder c = numbered c.in-OutOfOrder.is

pub returns-in-OutOfRange : goal.returns-in-OutOfRange
returns-in-OutOfRange c = numbered c.in-OutOfRange.is

pub returns-in-GlnFault : goal.returns-in-GlnFault
returns-in-GlnFault c = numbered c.in-GlnFault.is

pub returns-in-WOutOfRange : goal.returns-in-WOutOfRange
returns-in-WOutOfRange c = numbered c.in-WOutOfRange.is

pub returns-in-MissingHour : goal.returns-in-MissingHour
returns-in-MissingHour c = numbered c.in-MissingHour.is

pub returns-in-ResidualNegative : goal.returns-in-ResidualNegative
returns-in-ResidualNegative c = numbered c.in-ResidualNegative.is

pub returns-in-ResidualTooLarge : goal.returns-in-ResidualTooLarge
returns-in-ResidualTooLarge c = numbered c.in-ResidualTooLarge.is

pub returns-in-CurveTooLarge : goal.returns-in-CurveTooLarge
returns-in-CurveTooLarge c = numbered c.in-CurveTooLarge.is

pub returns-in-SpanFault : goal.returns-in-SpanFault
returns-in-SpanFault c = numbered c.in-SpanFault.is

pub returns-in-EnergyTooLarge : goal.returns-in-EnergyTooLarge
returns-in-EnergyTooLarge c = numbered c.in-EnergyTooLarge.is

pub returns-in-NothingToFollow : goal.returns-in-NothingToFollow
returns-in-NothingToFollow c = numbered c.in-NothingToFollow.is

pub returns-in-PeriodisedTooLarge : goal.returns-in-PeriodisedTooLarge
returns-in-PeriodisedTooLarge c = numbered c.in-PeriodisedTooLarge.is

pub returns-in-WrongCount : goal.returns-in-WrongCount
returns-in-WrongCount c = numbered c.in-WrongCount.is

pub returns-in-WrongLength : goal.returns-in-WrongLength
returns-in-WrongLength c = numbered c.in-WrongLength.is

pub returns-in-NotRefixed : goal.returns-in-NotRefixed
returns-in-NotRefixed c = numbered c.in-NotRefixed.is

pub returns-in-WholeExceeded : goal.returns-in-WholeExceeded
returns-in-WholeExceeded c = numbered c.in-WholeExceeded.is

pub returns-in-DifferenceTooLarge : goal.returns-in-DifferenceTooLarge
returns-in-DifferenceTooLarge c = numbered c.in-DifferenceTooLarge.is
