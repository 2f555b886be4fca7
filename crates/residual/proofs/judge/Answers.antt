-- `residual::judge` meets its contract: the match goes by the status and then by `<`, as the rules do. Assumes nothing.
use native.Mathlib.Omega.{arith}
use borrow.Author.Rules.{rules}
use mir.Facts.{to_z-of_z}
use Rattle.residual.proofs.OneHour.{is_missing, is_negative, is_figure, is_too_large}
use Rattle.residual.proofs.judge.Goals as goal

pub returns-in-0 : goal.returns-in-0
returns-in-0 c = is_missing _ _ c.in-0.is

pub returns-in-minus9223372036854775808-to-minus1 : goal.returns-in-minus9223372036854775808-to-minus1
returns-in-minus9223372036854775808-to-minus1 c = is_negative _ _ (λ e. omega arith) (search rules)

pub returns-in-0-to-2000000000 : goal.returns-in-0-to-2000000000
returns-in-0-to-2000000000 c = rw (to_z-of_z c.ranges.residual_wh) (is_figure _ _ (λ e. omega arith) (search rules) (search rules))

pub returns-in_default-residual_wh : goal.returns-in_default-residual_wh
returns-in_default-residual_wh c = is_too_large _ _ (λ e. omega arith) (search rules) (search rules)
