-- The small month's statement and report, each by computing the definitions from the file's bytes to the printed text.
use mathlib.Core.Path.{refl}
use Rattle.rules.specs.SmallMonth.{file_of, supply, party_of, reading_of, heading_of, begin, fixed_hours, refixed_hours, prices, small, SmallMonth}
use Rattle.rules.proofs.Computed.{words, hours, parts, records, files, months, texts, reports}

pub small_month : SmallMonth
unfolding words hours parts records files months texts reports file_of supply party_of reading_of heading_of begin fixed_hours refixed_hours prices small
small_month =
    record {
      curve_from_fixed = refl;
      report_of_both_series = refl;
    }
