-- `hours::input_text` meets its contract: what is printed is the final report of the input, however its reading ended. Assumes nothing.
use mathlib.Core.Path.{refl}
use Prim.Native.Nat.{zero-le}
use Rattle.hours.proofs.Texts.{alone_printed, whole_printed}
use Rattle.report_text.proofs.Reports.{too_long_line}
use Rattle.rules.specs.HoursReport as T
use Rattle.rules.specs.Setting.{final}
use Rattle.text.proofs.Stands.{line_stands}
use Rattle.standard_input.proofs.Endings.{too_long_text, failed_text}
use borrow.Author.Rules.{rules}
use Rattle.hours.proofs.input_text.Goals as goal

pub returns-in-Whole : goal.returns-in-Whole
returns-in-Whole c = let both = whole_printed final _ c.in-Whole.is (c.file_text.ensures.within, c.file_text.ensures.text) in record { within = both.0; text = both.1 }

pub returns-in-TooLong : goal.returns-in-TooLong
returns-in-TooLong c = let prints = alone_printed c.alone.ensures (line_stands c.refusal_line.ensures (search rules)) in record { within = prints.0; text = too_long_text (T.hours_report final) _ (too_long_line final) c.requires.fully_read c.in-TooLong.is prints.1 }

pub returns-in-Failed : goal.returns-in-Failed
returns-in-Failed c = record { within = (alone_printed c.alone-in-Failed.ensures (zero-le, refl)).0; text = failed_text (T.hours_report final) _ c.in-Failed.is }
