-- No second answer says the same: `said` can be read back.
use mathlib.Core.Path.{◌≡◌, refl, sym, ◌∙◌, ap}
use Rattle.std.specs.Prelude.{Result, Ok, Err, ⊤}
use Rattle.answer.specs.Said.{named, said}
use Rattle.answer.specs.declared.Refusal.{Refusal}
use Rattle.answer.specs.declared.Refusal.TheVariants.{FileFault, UnknownKind, OutOfOrder, OutOfRange, GlnFault, WOutOfRange}
use Rattle.answer.specs.declared.Refusal.TheVariants.{MissingHour, ResidualNegative, ResidualTooLarge, CurveTooLarge, SpanFault}
use Rattle.answer.specs.declared.Refusal.TheVariants.{EnergyTooLarge, NothingToFollow, PeriodisedTooLarge, WrongCount, WrongLength, NotRefixed, WholeExceeded, DifferenceTooLarge}
use Rattle.answer.specs.declared.Refused.{Refused}
use Rattle.rules.specs.Refusals as R

abbrev read_back : R.Refusal → Refusal
read_back R.file_fault = FileFault
read_back R.unknown_kind = UnknownKind
read_back R.out_of_order = OutOfOrder
read_back R.out_of_range = OutOfRange
read_back R.gln_fault = GlnFault
read_back R.w_out_of_range = WOutOfRange
read_back R.missing_hour = MissingHour
read_back R.residual_negative = ResidualNegative
read_back R.residual_too_large = ResidualTooLarge
read_back R.curve_too_large = CurveTooLarge
read_back R.span_fault = SpanFault
read_back R.energy_too_large = EnergyTooLarge
read_back R.nothing_to_follow = NothingToFollow
read_back R.periodised_too_large = PeriodisedTooLarge
read_back R.wrong_count = WrongCount
read_back R.wrong_length = WrongLength
read_back R.not_refixed = NotRefixed
read_back R.whole_exceeded = WholeExceeded
read_back R.difference_too_large = DifferenceTooLarge

read_back_lem : (r : Refusal) → read_back (named r) ≡ r
read_back_lem FileFault = refl
read_back_lem UnknownKind = refl
read_back_lem OutOfOrder = refl
read_back_lem OutOfRange = refl
read_back_lem GlnFault = refl
read_back_lem WOutOfRange = refl
read_back_lem MissingHour = refl
read_back_lem ResidualNegative = refl
read_back_lem ResidualTooLarge = refl
read_back_lem CurveTooLarge = refl
read_back_lem SpanFault = refl
read_back_lem EnergyTooLarge = refl
read_back_lem NothingToFollow = refl
read_back_lem PeriodisedTooLarge = refl
read_back_lem WrongCount = refl
read_back_lem WrongLength = refl
read_back_lem NotRefixed = refl
read_back_lem WholeExceeded = refl
read_back_lem DifferenceTooLarge = refl

abbrev answer_back : R.Verdict → Result ⊤ Refused
answer_back R.accepted = Ok tt
answer_back (R.refused r place) = Err (read_back r, place)

answer_back_lem : (a : Result ⊤ Refused) → answer_back (said a) ≡ a
answer_back_lem (Ok _) = refl
answer_back_lem (Err r) = ap (λ (x : Refusal). Err (x, r.1)) (read_back_lem r.0)

-- two names of one refusal are one, and so are two answers that say the same
pub named_once : (r s : Refusal) → named r ≡ named s → r ≡ s
named_once r s e = sym (read_back_lem r) ∙ ap read_back e ∙ read_back_lem s

pub said_once : (a b : Result ⊤ Refused) → said a ≡ said b → a ≡ b
said_once a b e = sym (answer_back_lem a) ∙ ap answer_back e ∙ answer_back_lem b
