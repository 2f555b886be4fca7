-- `month_prepare::curve_and_readings` meets its contract: the curve decides first, then the readings. Assumes nothing.
use native.Mathlib.Omega.{arith}
use Prim.Native.Nat.{suc}
use mathlib.Core.Path.{sym, ◌∙◌, ap}
use Rattle.month_prepare.proofs.Numbers.{few, curve_refused, numbers_many, begun_are, curve_known}
use Rattle.month_prepare.proofs.curve_and_readings.Goals as goal

pub returns-in_default : goal.returns-in_default
returns-in_default c = curve_refused c.requires c.curve-fit.ensures.answer _ c.curve-fit.ensures.contents c.in_default.is c.in_default.is _

pub beginnings-requires : goal.beginnings-requires
beginnings-requires c =
    record {
      out_len = c.requires.beginnings_size
          ∙ ap suc
          (sym (numbers_many c.requires c.curve-fit.ensures.answer _ c.curve-fit.ensures.contents c.in-Ok.is));
      curve_len_bound = omega (
        arith,
        few c.requires,
        numbers_many c.requires c.curve-fit.ensures.answer _ c.curve-fit.ensures.contents c.in-Ok.is,
      );
    }

pub judge_readings-requires : goal.judge_readings-requires
judge_readings-requires c =
    record {
      accepted = c.requires.accepted;
      beginnings_value = begun_are c.requires c.curve-fit.ensures.answer _ c.curve-fit.ensures.contents c.in-Ok.is
          c.beginnings.ensures;
    }

pub returns : goal.returns
returns c =
    curve_known c.requires c.curve-fit.ensures.answer _ c.curve-fit.ensures.contents c.in-Ok.is
    c.beginnings.ensures c.judge_readings.ensures
