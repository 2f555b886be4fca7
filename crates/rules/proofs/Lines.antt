-- Texts one after the other: put into a buffer, with one line more, and made in two runs.
use mathlib.Core.List.{List, [], ◌∷◌, ◌++◌, append_assoc, append-nil}
use mathlib.Core.Path.{◌≡◌, sym, ◌∙◌, ap}
use Prim.Native.Nat.{ℕ, zero, suc, ◌+◌}
use native.Mathlib.Nat.{add-zero, add-suc, suc-add}
use lib.ListN.{length, set}
use lib.Seq.{sets}
use Rattle.rules.specs.Statement.{joined}
use Rattle.rules.specs.Words.{figures}

pub joined_last : (lines : List (List ℕ)) (line : List ℕ) → joined (lines ++ (line ∷ [])) ≡ joined lines ++ line
unfolding joined
joined_last [] line = append-nil line
joined_last (l ∷ lines) line = ap (λ (t : List ℕ). l ++ t) (joined_last lines line) ∙ sym (append_assoc l (joined lines) line)

-- the lines of the first a, and those of the next b
pub lines_in_two : (a b : ℕ) (line : ℕ → List ℕ) → joined (figures (a + b) line) ≡ joined (figures a line) ++ joined (figures b (λ t. line (a + t)))
unfolding figures joined
lines_in_two a zero line = ap (λ (n : ℕ). joined (figures n line)) (add-zero a) ∙ sym (append-nil (joined (figures a line)))
lines_in_two a (suc b) line =
    ap (λ (n : ℕ). joined (figures n line)) (add-suc a b) ∙ joined_last (figures (a + b) line) (line (a + b))
    ∙ ap (λ (t : List ℕ). t ++ line (a + b)) (lines_in_two a b line)
    ∙ append_assoc (joined (figures a line)) (joined (figures b (λ t. line (a + t)))) (line (a + b))
    ∙ ap (λ (t : List ℕ). joined (figures a line) ++ t) (sym (joined_last (figures b (λ t. line (a + t))) (line (a + b))))

-- two texts put one after the other are both put at once
pub sets_append : (d : List ℕ) (p : ℕ) (xs ys : List ℕ) → sets (sets d p xs) (p + length xs) ys ≡ sets d p (xs ++ ys)
sets_append d p [] ys = rw (add-zero p)
sets_append d p (x ∷ xs) ys = rw (add-suc p (length xs)) (rw (suc-add p (length xs)) at (sets_append (set d p x) (suc p) xs ys))
