-- What an answer of the code says in the words of the rules: for each case the paper's refusal and place.
use Rattle.std.specs.Prelude.{Result, Ok, Err}
use Rattle.answer.specs.declared.Refusal.{Refusal}
use Rattle.answer.specs.declared.Refusal.TheVariants.{FileFault, UnknownKind, OutOfOrder, OutOfRange, GlnFault, WOutOfRange}
use Rattle.answer.specs.declared.Refusal.TheVariants.{MissingHour, ResidualNegative, ResidualTooLarge, CurveTooLarge, SpanFault}
use Rattle.answer.specs.declared.Refusal.TheVariants.{EnergyTooLarge, NothingToFollow, PeriodisedTooLarge, WrongCount, WrongLength, NotRefixed, WholeExceeded, DifferenceTooLarge}
use Rattle.answer.specs.declared.Refused.{Refused}
use Rattle.rules.specs.Refusals as R

abbrev pub named : Refusal → R.Refusal
named FileFault = R.file_fault
named UnknownKind = R.unknown_kind
named OutOfOrder = R.out_of_order
named OutOfRange = R.out_of_range
named GlnFault = R.gln_fault
named WOutOfRange = R.w_out_of_range
named MissingHour = R.missing_hour
named ResidualNegative = R.residual_negative
named ResidualTooLarge = R.residual_too_large
named CurveTooLarge = R.curve_too_large
named SpanFault = R.span_fault
named EnergyTooLarge = R.energy_too_large
named NothingToFollow = R.nothing_to_follow
named PeriodisedTooLarge = R.periodised_too_large
named WrongCount = R.wrong_count
named WrongLength = R.wrong_length
named NotRefixed = R.not_refixed
named WholeExceeded = R.whole_exceeded
named DifferenceTooLarge = R.difference_too_large

abbrev pub verdict_of : Refused → R.Verdict
verdict_of r = R.refused (named r.0) r.1

-- whether a call refuses, whatever it gives
abbrev pub said : {A : Type 0} → Result A Refused → R.Verdict
said (Ok _) = R.accepted
said (Err r) = verdict_of r

-- and what it gives, in the rules' words
abbrev pub told : {A B : Type 0} → (A → B) → Result A Refused → R.Answer B
told words (Ok given) = R.given (words given)
told words (Err r) = R.refusal (named r.0) r.1
