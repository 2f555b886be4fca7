-- The worked months, each by computing the definitions from the file's bytes to the printed text.
use mathlib.Core.Path.{refl}
use Rattle.worked_cases.specs.WorkedMonths.{brp_party_of, long_reading_of, S1, D3of, D3, D3brps, ore_of, whole_ore, ore_brps, unrefixed, closing, volumes, empty_first, opening, WorkedMonths}
use Rattle.rules.specs.SmallMonth.{file_of, supply, party_of, reading_of, heading_of, begin, fixed_hours, refixed_hours, prices, small}
use Rattle.rules.proofs.Computed.{words, hours, parts, records, files, months, texts, reports}

pub worked_months : WorkedMonths
unfolding words hours parts records files months texts reports file_of supply party_of brp_party_of reading_of long_reading_of heading_of S1 D3of D3 D3brps ore_of whole_ore ore_brps begin fixed_hours refixed_hours prices small unrefixed closing volumes empty_first opening
worked_months =
    record {
      S1_lines = refl;
      S1_report = refl;
      D3_lines = refl;
      D3_report = refl;
      whole_ore_lines = refl;
      report_refused = refl;
      fixed_applied = refl;
      refused_1_empty = refl;
      refused_1_no_end = refl;
      refused_1_cut = refl;
      refused_1_after_the_end = refl;
      refused_2 = refl;
      cut_before_order = refl;
      refused_3_kind = refl;
      order_before_range = refl;
      refused_4_silent_figure = refl;
      refused_4_carrier = refl;
      refused_5_check_digit = refl;
      refused_5_not_rising = refl;
      refused_5_third_below_second = refl;
      refused_6 = refl;
      refused_7 = refl;
      refused_8 = refl;
      refused_9 = refl;
      refused_10 = refl;
      refused_11 = refl;
      range_before_span = refl;
      span_before_energy = refl;
      refused_12 = refl;
      refused_13 = refl;
      over_months = refl;
      just_the_whole = refl;
      refused_18 = refl;
      refused_18_true_sum = refl;
      refused_18_whole = refl;
      exceeded_before_nothing = refl;
      nothing_of_the_earlier = refl;
      range_of_the_long = refl;
      refused_14 = refl;
      refused_15 = refl;
      refused_17 = refl;
      report_refused_17 = refl;
      not_refixed_before_W = refl;
      refused_6_provisional = refl;
      S1_preview = refl;
      D3_brp_lines = refl;
      D3_of_12 = refl;
      ore_brp_lines = refl;
      S1_brps = refl;
      brps_refused = refl;
      refused_3_12_after_02 = refl;
      refused_3_02_after_12 = refl;
      report_without_prices = refl;
      statement_needs_prices = refl;
      brps_need_prices = refl;
      half_the_prices = refl;
      price_after_a_reading = refl;
      refixed_after_a_reading = refl;
      price_judged = refl;
      refused_5_brp = refl;
      refused_5_brp_no_digits = refl;
      range_before_brp = refl;
    }
