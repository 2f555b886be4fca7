-- No second judgement of an hour says the same: `judgement` can be read back.
use mathlib.Core.Bool.{cond}
use mathlib.Core.Path.{◌≡◌, refl, sym, ◌∙◌, ap}
use Prim.Native.Nat.{ℕ}
use lib.Dec.{eqb}
use lib.IntN.{ℤ}
use Rattle.std.specs.Prelude.{Result, Ok, Err}
use Rattle.residual.specs.declared.NoResidual.{NoResidual}
use Rattle.residual.specs.declared.NoResidual.TheVariants.{Missing, Negative, TooLarge}
use Rattle.residual.specs.Hour.{judgement}
use Rattle.rules.specs.Flows.{Judgement, figure, no_figure, judged_by}
use Rattle.rules.specs.Refusals.{number_of}

abbrev read_back : Judgement → Result ℕ NoResidual
read_back (figure wh) = Ok wh
read_back (no_figure r) = Err (cond (eqb (number_of r) 7) Missing (cond (eqb (number_of r) 8) Negative TooLarge))

read_back_lem : (h : Result ℕ NoResidual) → read_back (judgement h) ≡ h
read_back_lem (Ok wh) = refl
read_back_lem (Err Missing) = refl
read_back_lem (Err Negative) = refl
read_back_lem (Err TooLarge) = refl

pub judge_once : (status : ℕ) (wh : ℤ) (a b : Result ℕ NoResidual) → judgement a ≡ judged_by status wh → judgement b ≡ judged_by status wh → a ≡ b
judge_once status wh a b e k = sym (read_back_lem a) ∙ ap read_back (e ∙ sym k) ∙ read_back_lem b
