-- `answer::each_at_most` meets its contract: what is left of the list says what the whole says. Assumes nothing.
use mathlib.Core.List.{List, map}
use mathlib.Core.Path.{◌≡◌, sym, ◌∙◌, ap}
use Prim.Native.Nat.{ℕ, ◌<◌}
use lib.ListN.{length, get_or}
use native.Mathlib.Omega.{arith}
use Rattle.std.proofs.lemmas.List.{get_or-map, length-map}
use Rattle.rules.specs.Services.{each_at}
use Rattle.rules.proofs.Loops.{look_start, look_pass, look_stop, look_end}
use Rattle.answer.proofs.Ranges.{value_passes, value_stops}
use Rattle.answer.proofs.each_at_most.Goals as goal

-- the number at a place of the list is that of the value there
number_there :
    {A : Type 0} (number : A → ℕ) (values : List A) (i : ℕ) {value : A} {wide : ℕ}
    → i < length values
    → value ≡ get_or values i value
    → wide ≡ number value
    → get_or (map number values) i 0 ≡ wide
number_there number values i {value = value} b is e = get_or-map number values i value 0 b ∙ sym (ap number is) ∙ sym e

pub loop-i-init : goal.loop-i-init
loop-i-init g c = look_start _ _

pub returns-then-most-wide : goal.returns-then-most-wide
unfolding each_at
returns-then-most-wide g c =
    let there = number_there g.T.Figure.number c.args.values.now c.loop-i.i c.loop-i-test.true c.index-values-i.is c.wide.ensures in
    rw (length-map c.args.values.now g.T.Figure.number)
    (sym (look_stop c.loop-i.invariant (omega arith) (value_stops _ _ _ _ (rw there c.if-most-wide.true))))

pub loop-i-preserved : goal.loop-i-preserved
loop-i-preserved g c =
    let there = number_there g.T.Figure.number c.args.values.now c.loop-i.i c.loop-i-test.true c.index-values-i.is c.wide.ensures in
    look_pass c.loop-i.invariant (omega arith) (value_passes _ _ _ _ (rw there (omega arith)))

pub returns : goal.returns
unfolding each_at
returns g c = rw (length-map c.args.values.now g.T.Figure.number) (sym (look_end c.loop-i.invariant (omega arith)))
