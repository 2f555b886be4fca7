-- An hour's figures copied to a place of a list, of any kind of number: whatever series the list is filled with, it is filled so many places more.
use mathlib.Core.List.{List, [], ◌∷◌, ◌++◌, append_assoc, append-nil}
use mathlib.Core.Path.{◌≡◌, sym, ◌∙◌, ap, ap₂}
use Prim.Native.Nat.{ℕ, zero, suc, ◌+◌, ◌-◌, ◌≤◌}
use native.Mathlib.Nat.{add-zero, add-suc, sub-zero}
use native.Mathlib.Omega.{arith}
use borrow.Rule.Slice.PartMut.{put_mid, mid_len, same_len_mid, drop_put}
use lib.ListN.{length, take}
use lib.Seq.{length-take-le}
use Rattle.std.proofs.lemmas.Slice.{take-put_mid}
use Rattle.apportion.proofs.Arrays.{first_of}
use Rattle.distribute.specs.Written.{FilledOn, PutOn}
use Rattle.rules.specs.Words.{figures}
use Rattle.rules.proofs.Loops.{figures_cong}

-- figures of a + b places are those of the first a, and then those of the b after them
figures_split : {A : Type 0} (a b : ℕ) (f : ℕ → A) → figures (a + b) f ≡ figures a f ++ figures b (λ k. f (a + k))
unfolding figures
figures_split a zero f = rw (add-zero a) (sym (append-nil (figures a f)))
figures_split a (suc b) f =
    rw (add-suc a b)
    (ap (λ l. l ++ (f (a + b) ∷ [])) (figures_split a b f) ∙ append_assoc (figures a f) (figures b (λ k. f (a + k))) (f (a + b) ∷ []))

pub put_part :
    {A : Type 0} {nothing : A} {written : List A} {n place : ℕ} {before part : List A}
    → n ≤ length written
    → place + n ≤ length before
    → part ≡ take (n - 0) written
    → PutOn nothing written n place before (put_mid place (place + n - place) before part)
put_part {A} {nothing} {written} {n} {place} {before} {part} few room copied =
    record { fills = filled; past = drop_put place (place + n) before part (omega arith) room size-of-part }
  where
    first-written : part ≡ take n written
    first-written = rw sub-zero at copied

    size-of-part : length part ≡ place + n - place
    size-of-part = ap length first-written ∙ length-take-le n written few ∙ omega arith

    filled : FilledOn nothing written n place before (put_mid place (place + n - place) before part)
    filled series size filling fits same =
        record {
          bound = fits;
          size = same_len_mid place (place + n - place) before part (size-of-part ∙ sym (mid_len place (place + n) before room)) ∙ filling.size;
          done =
              take-put_mid place (place + n - place) before part (place + n) (omega (arith, size-of-part)) (omega arith)
              ∙ ap₂ (λ xs ys. xs ++ ys) filling.done
              (first-written ∙ first_of nothing n written few ∙ figures_cong n same)
              ∙ sym (figures_split place n series);
        }
