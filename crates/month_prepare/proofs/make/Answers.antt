-- `month_prepare::make` meets its contract: `Making` says what each check leaves. Assumes nothing.
use Rattle.answer.proofs.Checks.{handed}
use Rattle.month_prepare.proofs.Making.{not_begun, series_refuse, curve_asked, curve_refuses, all_made}
use Rattle.month_prepare.proofs.make.Goals as goal

pub returns-in_err-carries : goal.returns-in_err-carries
returns-in_err-carries c = not_begun _ _ _ c.requires.accepted c.weigh.ensures c.in_err-carries.was (handed c.from_residual.ensures) _ _ _ _

pub returns-in_err-estimated : goal.returns-in_err-estimated
returns-in_err-estimated c =
    series_refuse _ _ _ c.requires.accepted c.weigh.ensures c.in_ok-carries.was
    c.both_series.ensures c.in_err-estimated.was (handed c.from_residual-in_err-estimated.ensures) _ _

pub curve_and_readings-requires : goal.curve_and_readings-requires
curve_and_readings-requires c =
    curve_asked _ _ _ c.requires.accepted c.weigh.ensures c.in_ok-carries.was
    c.both_series.ensures c.in_ok-estimated.was
    c.requires.curve_size c.requires.beginnings_size

pub returns-in_err-curve_and_readings : goal.returns-in_err-curve_and_readings
returns-in_err-curve_and_readings c =
    curve_refuses _ _ _ c.requires.accepted c.weigh.ensures c.in_ok-carries.was
    c.both_series.ensures c.in_ok-estimated.was
    _ c.curve_and_readings.ensures c.in_err-curve_and_readings.was (handed c.from_residual-in_err-curve_and_readings.ensures)

pub returns : goal.returns
returns c =
    all_made _ _ _ c.requires.accepted c.weigh.ensures c.in_ok-carries.was
    c.both_series.ensures c.in_ok-estimated.was _ c.curve_and_readings.ensures c.in_ok-curve_and_readings.was
