-- What the worked cases compute with (proofs/SmallMonth, and the crate `worked_cases`), document by document; proofs/PricesLater unfolds some of it. To unfold one of
-- these names is to unfold all that its line names, and no more is meant by it.
use Rattle.rules.specs.Brp.{brp_of, in_its_place, different_ones, brps, supplies_for, suppliers_of, only_of, only_of_ℤ, sum_of_brp, sum_of_brp_ℤ, brp_distributed}
use Rattle.rules.specs.Brp.{brp_periodised, brp_loss, brp_difference, brp_month_distributed, brp_month_periodised, brp_month_loss, brp_month_difference, brp_invoice, brp_share}
use Rattle.rules.specs.Words.{sum, sum_ℤ, sum_from1, count, figures, at, within, at_most, within_ℤ, joined, ascii}
use Rattle.rules.specs.Refusals.{unless, and_then, first, in_turn, answer, afterwards}
use Rattle.rules.specs.Flows.{residual, silent_is_zero, flows_in_range, judged_by, judged, verdict_of, residual_wh, W, curve_number, applied_series}
use Rattle.rules.specs.Distributed.{rounded_down, remainder, left_over, running_sum, running_after, distributed_figure}
use Rattle.rules.specs.LargestRemainder.{comes_before, rank, one_each}
use Rattle.rules.specs.Periodised.{sum_so_far, periodised_figure}
use Rattle.rules.specs.Reconciliation.{grid_loss, loss_of, difference_of, amount_millionths}
use Rattle.rules.specs.Invoice.{ore_down, ore_remainder, down_of, remainder_of, missing_ore, invoice_ore}
use Rattle.rules.specs.Gln.{all_digits, digit_at_position, weight_of_position, weighted_digit, weighted_sum, valid_gln, digits_onto, rises}
use Rattle.rules.specs.Services.{at_ℤ, same_ℤ, check_at, each_at, check_at_ℤ, each_at_ℤ, flows_of, silent_check, hour_check, residual_checks, residual_at, residual_figures, curve_fits, curve_checks}
use Rattle.rules.specs.Services.{curve_at, curve_figures, distribution_checks, distributed_at, distribution_figures, periodisation_checks, periodisation_figures, distributed_fits}
use Rattle.rules.specs.Services.{reconciliation_checks, reconciliation_loss, reconciliation_differences, amount_at, reconciliation_amounts, invoice_checks, invoice_figures}
use Rattle.rules.specs.Services.{difference_in, adds_up_check, is_beyond, beyond_check, amounts_checks, priced_at, amounts_figures}
use Rattle.rules.specs.Record.{layouts, widths_in, field_widths, total_of, body_length, known, number_onto, bytes_of, signed, unsigned, cut_into, field, number_at, signed_at, heading_from}
use Rattle.rules.specs.Record.{flows_from, party_from, reading_from, never_asked, record_from, kind_at, record_at, field_bytes, in_widths, hour_fields, weight_fields, fields_of, record_bytes, nothing_yet, H, P, with}
use Rattle.rules.specs.Record.{brp_fields, hours_there, prices_there, due, all_priced, priced_for, after_the_last, alike_after, rises_after, heading_in_range, hour_in_range, checks, read_alone, write_verdict, written}
use Rattle.rules.specs.PlainRecord.{no_sign, nth_no_sign, plain_heading, plain_flows, plain_reading, plain_record, stand_in, fields_hold, plain_verdict}
use Rattle.rules.specs.MonthFile.{record_checks, is_end, closed, onward, read_on, read_month}
use Rattle.rules.specs.Month.{party_at, flows_at, reading_at, price_at, share_of, month_w, fixed_wh, applied_flows, applied_wh, curve, distributed, weight_of, S, weight_before, whole_weight}
use Rattle.rules.specs.Month.{whole_of, reading_figure, figure_for, weights_fit, follows_whole, reading_checks}
use Rattle.rules.specs.Month.{periodised, all_periodised, loss, difference, amount, month_distributed, month_periodised, month_loss, month_difference, month_amount, invoice, is_estimated}
use Rattle.rules.specs.Month.{estimated_hours, refixed_verdict, hour_verdict, curve_verdict, reading_verdict, periodised_verdict, month_checks, month_verdict}
use Rattle.rules.specs.Plan.{month_count, month_start, curve_of_month, part_from, part_to, part_hours, part_weight, planned_before, planned_whole, planned_reading, planned}
use Rattle.rules.specs.Plan.{reading_hours, hours_verdict, party_verdict, part_verdict, weight_verdict, list_checks, span_checks, handed_checks, plan_checks}
use Rattle.rules.specs.Statement.{digits_in, decimal, signed_decimal, digits_of_width, newline, refusal_line, provisional_ending, heading_text}
use Rattle.rules.specs.Statement.{heading_line, columns_line, party_line, total_line, brp_line, line_for_each, lines_per, statement_lines}
use Rattle.rules.specs.Statement.{judged_statement, answered_statement, statement_per}
use Rattle.rules.specs.Demands.{exact_share}
use Rattle.rules.specs.HoursReport.{status_word, statuses_text, series_text, parts_text, all_distributed, hour_line, distance_after, distance_at, smaller, larger, smallest, largest}
use Rattle.rules.specs.HoursReport.{smallest_distance, largest_distance, fraction, distances_text, distances_line, report_lines, judged_report, answered_report, hours_report}

unfoldable pub words : Unit {0}
unfolding sum sum_ℤ sum_from1 count figures at within at_most within_ℤ joined ascii unless and_then first in_turn answer afterwards
words = tt

unfoldable pub hours_1 : Unit {0}
unfolding residual silent_is_zero flows_in_range judged_by judged verdict_of residual_wh W curve_number applied_series sum_so_far periodised_figure grid_loss loss_of
hours_1 = tt

unfoldable pub hours_2 : Unit {0}
unfolding difference_of amount_millionths ore_down ore_remainder down_of remainder_of missing_ore invoice_ore
hours_2 = tt

unfoldable pub hours : Unit {0}
unfolding hours_1 hours_2
hours = tt

unfoldable pub parts_1 : Unit {0}
unfolding rounded_down remainder left_over comes_before rank one_each running_sum running_after distributed_figure all_digits
parts_1 = tt

unfoldable pub parts_2 : Unit {0}
unfolding digit_at_position weight_of_position weighted_digit weighted_sum valid_gln digits_onto rises
parts_2 = tt

unfoldable pub parts : Unit {0}
unfolding parts_1 parts_2
parts = tt

unfoldable pub services_1 : Unit {0}
unfolding at_ℤ same_ℤ check_at each_at check_at_ℤ each_at_ℤ flows_of silent_check hour_check residual_checks residual_at residual_figures curve_fits curve_checks curve_at
services_1 = tt

unfoldable pub services_2 : Unit {0}
unfolding curve_figures distribution_checks distributed_at distribution_figures periodisation_checks periodisation_figures distributed_fits reconciliation_checks
services_2 = tt

unfoldable pub services_3 : Unit {0}
unfolding reconciliation_loss reconciliation_differences amount_at reconciliation_amounts invoice_checks invoice_figures difference_in adds_up_check is_beyond
services_3 = tt

unfoldable pub services_4 : Unit {0}
unfolding beyond_check amounts_checks priced_at amounts_figures
services_4 = tt

unfoldable pub services : Unit {0}
unfolding services_1 services_2 services_3 services_4
services = tt

unfoldable pub records_1 : Unit {0}
unfolding layouts widths_in field_widths total_of body_length known number_onto bytes_of signed unsigned cut_into field number_at signed_at heading_from flows_from
records_1 = tt

unfoldable pub records_2 : Unit {0}
unfolding party_from reading_from never_asked record_from kind_at record_at field_bytes in_widths hour_fields weight_fields fields_of record_bytes nothing_yet H P with due rises_after
records_2 = tt

unfoldable pub records_3 : Unit {0}
unfolding brp_fields hours_there prices_there all_priced priced_for after_the_last alike_after heading_in_range hour_in_range checks read_alone write_verdict written
records_3 = tt

unfoldable pub records : Unit {0}
unfolding records_1 records_2 records_3
records = tt

unfoldable pub plains : Unit {0}
unfolding no_sign nth_no_sign plain_heading plain_flows plain_reading plain_record stand_in fields_hold plain_verdict
plains = tt

unfoldable pub files : Unit {0}
unfolding record_checks is_end closed onward read_on read_month
files = tt

unfoldable pub months_1 : Unit {0}
unfolding party_at flows_at reading_at price_at share_of month_w fixed_wh applied_flows applied_wh curve distributed weight_of S weight_before whole_weight whole_of
months_1 = tt

unfoldable pub months_2 : Unit {0}
unfolding reading_figure figure_for periodised all_periodised loss difference amount month_distributed month_periodised month_loss month_difference month_amount invoice is_estimated estimated_hours
months_2 = tt

unfoldable pub months_3 : Unit {0}
unfolding refixed_verdict hour_verdict curve_verdict weights_fit follows_whole reading_checks reading_verdict periodised_verdict month_checks month_verdict
months_3 = tt

unfoldable pub brp_figures : Unit {0}
unfolding brp_of in_its_place different_ones brps supplies_for suppliers_of only_of only_of_ℤ sum_of_brp sum_of_brp_ℤ brp_distributed brp_periodised brp_loss brp_difference brp_month_distributed
brp_figures = tt

unfoldable pub brp_months : Unit {0}
unfolding brp_month_periodised brp_month_loss brp_month_difference brp_invoice brp_share
brp_months = tt

unfoldable pub months : Unit {0}
unfolding months_1 months_2 months_3 brp_figures brp_months
months = tt

unfoldable pub plans_1 : Unit {0}
unfolding month_count month_start curve_of_month part_from part_to part_hours part_weight planned_before planned_whole planned_reading planned reading_hours
plans_1 = tt

unfoldable pub plans_2 : Unit {0}
unfolding hours_verdict party_verdict part_verdict weight_verdict list_checks span_checks handed_checks plan_checks follows_whole
plans_2 = tt

unfoldable pub plans : Unit {0}
unfolding plans_1 plans_2
plans = tt

unfoldable pub texts_1 : Unit {0}
unfolding digits_in decimal signed_decimal digits_of_width newline refusal_line provisional_ending heading_text heading_line columns_line party_line total_line brp_line line_for_each lines_per statement_lines
texts_1 = tt

unfoldable pub texts_2 : Unit {0}
unfolding judged_statement answered_statement statement_per exact_share
texts_2 = tt

unfoldable pub texts : Unit {0}
unfolding texts_1 texts_2
texts = tt

unfoldable pub reports_1 : Unit {0}
unfolding status_word statuses_text series_text parts_text all_distributed hour_line distance_after distance_at smaller larger smallest largest
reports_1 = tt

unfoldable pub reports_2 : Unit {0}
unfolding smallest_distance largest_distance fraction distances_text distances_line report_lines judged_report answered_report hours_report
reports_2 = tt

unfoldable pub reports : Unit {0}
unfolding reports_1 reports_2
reports = tt
