-- `standard_input::read_month` meets its contract: a piece that was read stands after what was read before it. Assumes nothing.
use Rattle.std.proofs.Common.{◌≡◌, ◌+◌, ◌≤◌, ℕ, List, ◌++◌, length, take, arith, sym, ap, ◌∙◌, subst, length-take-le}
use Rattle.std.specs.Io.KnownBytes.{Consumes}
use Rattle.std.proofs.Math.Seq.{take-append-add}
use Rattle.std.proofs.KnownBytes.{Consumes-trans}
use Rattle.std.proofs.lemmas.List.{take-append-le}
use Rattle.standard_input.proofs.read_month.Goals as goal

-- n bytes of a piece that stands in a list from the place a on
with_piece : (a n : ℕ) (xs piece after : List ℕ) → a ≤ length xs → n ≤ length piece → take (a + n) (take a xs ++ (piece ++ after)) ≡ take a xs ++ take n piece
with_piece a n xs piece after within fits =
    ap (λ m. take (m + n) (take a xs ++ (piece ++ after))) (sym (length-take-le a xs within))
    ∙ take-append-add (take a xs) (piece ++ after) n
    ∙ ap (λ l. take a xs ++ l) (take-append-le n piece after fits)

pub loop-filled-preserved : goal.loop-filled-preserved
loop-filled-preserved g c =
    let so_far = c.loop-filled.invariant in
    let got = c.in-Bytes.ensures in (
      omega arith,
      subst (Consumes _ _) (sym (with_piece c.loop-filled.filled c.in-Bytes.n c.loop-filled.buffer c.read_piece-piece.new.part _ so_far.0 got.within.1))
          (Consumes-trans _ _ _ _ _ so_far.1 got.known),
    )
