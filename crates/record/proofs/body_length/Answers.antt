-- `record::body_length` meets its contract: the table's rule is a test at each of its 256 entries, which antt computes. Assumes nothing.
use mathlib.Core.Bool.{Bool}
use mathlib.Core.List.{List, ◌∷◌, ◌++◌}
use mathlib.Core.Path.{◌≡◌}
use Prim.Native.Nat.{ℕ, ◌<◌}
use native.Mathlib.Omega.{arith}
use borrow.Author.Rules.{rules}
use lib.Dec.{eqb, eqb→eq}
use lib.ListN.{get_or, replicate}
use Rattle.rules.specs.Record.{body_length}
use Rattle.rules.proofs.EachKind.{body_lengths}
use Rattle.record.proofs.BodyShort.{body_short}
use Rattle.record.proofs.EveryEntry.{at}
use Rattle.record.proofs.body_length.Goals as goal

table : List ℕ
table = (0 ∷ 9 ∷ 21 ∷ 35 ∷ 9 ∷ 6 ∷ 35 ∷ 4 ∷ 25 ∷ replicate 9 0) ++ (34 ∷ replicate 237 0)

right : ℕ → ℕ → Bool
unfolding body_lengths
right k x = eqb x (body_length k)

entry : (kind : ℕ) → kind < 256 → get_or table kind 0 ≡ body_length kind
unfolding table right body_lengths
entry kind h = eqb→eq (get_or table kind 0) (body_length kind) (at right table tt kind h)

pub overflow_cast-result : goal.overflow_cast-result
unfolding table
overflow_cast-result c = omega (arith, entry c.args.kind (search rules), body_short c.args.kind)

pub returns : goal.returns
unfolding table
returns c = entry c.args.kind (search rules)
