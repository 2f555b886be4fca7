-- `hours::file_text` meets its contract: what is printed, one part after the other, is the final report of the file. Assumes nothing.
use mathlib.Core.Path.{◌∙◌}
use Rattle.hours.proofs.Texts.{alone_printed, lines_printed, refusal_printed}
use Rattle.setting.specs.declared.Setting.TheVariants.{Final}
use Rattle.text.proofs.Stands.{line_stands}
use borrow.Author.Rules.{rules}
use Rattle.hours.proofs.file_text.Goals as goal

pub returns-in_default : goal.returns-in_default
returns-in_default c =
    let stands = line_stands c.refusal_line.ensures (search rules) in let both = alone_printed c.alone.ensures
    (stands.0, stands.1 ∙ refusal_printed Final _ _ _ _ c.report-reported.ensures c.requires c.in_default.is) in record { within = both.0; text = both.1 }

pub returns : goal.returns
returns c = let both = lines_printed Final _ _ _ _ c.report-reported.ensures c.in-Ok.is in record { within = both.0; text = both.1 }
