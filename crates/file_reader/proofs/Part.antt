-- All bytes of a file from a place on, where a record is judged: the place stands before the file's end.
use mathlib.Core.List.{List}
use mathlib.Core.Path.{◌≡◌, sym, subst}
use Prim.Native.Nat.{ℕ, ◌-◌, ◌<◌}
use native.Mathlib.Omega.{arith}
use lib.ListN.{length, take, drop, length-drop}
use lib.Seq.{take_all}
use Rattle.std.specs.Prelude.{Result}
use Rattle.answer.specs.declared.Refused.{Refused}
use Rattle.file_step.specs.Walk.{Steppable, Stepped}
use Rattle.file_step.specs.declared.Step.{Step}
use Rattle.file_step.specs.declared.Walk.{Walk}

module _ (file : List ℕ) (place : ℕ) (w : Walk) where
  pub before_the_end : Steppable w (drop place file) → place < length file
  before_the_end a = omega (arith, a.some, length-drop place file)

  abbrev part : List ℕ
  part = take (length file - place) (drop place file)

  part_is : part ≡ drop place file
  part_is = take_all (length file - place) (drop place file) (omega (arith, length-drop place file))

  pub asked : Steppable w (drop place file) → Steppable w part
  asked = subst (Steppable w) (sym part_is)

  pub judged : {s : Result Step Refused} → Stepped w part s → Stepped w (drop place file) s
  judged {s} = subst (λ (bytes : List ℕ). Stepped w bytes s) part_is
