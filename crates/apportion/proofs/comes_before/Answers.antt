-- `apportion::comes_before` meets its contract: a test for each order of the two remainders. Assumes nothing.
use mathlib.Core.Bool.{Bool, true, false, cond}
use mathlib.Core.Path.{◌≡◌, ◌∙◌, refl, sym}
use mir.Val.{bool_byte}
use Rattle.apportion.proofs.Order.{larger_first, smaller_later, equal_by_number}
use Rattle.apportion.proofs.comes_before.Goals as goal

-- a test as a number
as_number : (b : Bool) → cond b 1 0 ≡ bool_byte b
as_number true = refl
as_number false = refl

pub returns-then-own-other : goal.returns-then-own-other
returns-then-own-other c = sym (larger_first _ _ _ c.if-own-other.true)

pub returns-then-other-own : goal.returns-then-other-own
returns-then-other-own c = sym (smaller_later _ _ _ c.if-other-own.true)

pub returns : goal.returns
returns c = sym (equal_by_number _ _ _ c.if-own-other.false c.if-other-own.false ∙ as_number _)
