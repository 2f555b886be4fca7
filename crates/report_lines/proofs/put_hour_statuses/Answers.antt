-- `report_lines::put_hour_statuses` meets its contract: an hour of at most 20 digits, then two words. Assumes nothing.
use native.Mathlib.Omega.{arith}
use Rattle.text.proofs.Digits.{number_size}
use Rattle.report_lines.proofs.Lines.{statuses}
use Rattle.report_lines.proofs.put_hour_statuses.Goals as goal

pub put_number-after_hour-requires : goal.put_number-after_hour-requires
put_number-after_hour-requires c = omega (arith, number_size c.args.hour c.ranges.hour.fits)

pub put_status_word-after_fixed-requires : goal.put_status_word-after_fixed-requires
put_status_word-after_fixed-requires c = omega (arith, number_size c.args.hour c.ranges.hour.fits)

pub put_status_word-requires : goal.put_status_word-requires
put_status_word-requires c = omega (arith, number_size c.args.hour c.ranges.hour.fits)

pub returns : goal.returns
returns c =
    record {
      text = statuses _ _ _ c.put_number-after_hour.ensures c.put_status_word-after_fixed.ensures.text
          c.put_status_word.ensures.text;
      within = omega (arith, number_size c.args.hour c.ranges.hour.fits);
    }
