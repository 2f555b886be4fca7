-- Filling an array from its start, whatever its size: what stands past the filled places is still nothing.
use mathlib.Core.List.{List, [], ◌∷◌, ◌++◌}
use mathlib.Core.Bool.{Bool, true, false, cond}
use mathlib.Core.Logic.{◌⊎◌, inl, inr, ⊎_elim}
use mathlib.Core.Path.{◌≡◌, refl, sym, ◌∙◌, ap, subst}
use Prim.Native.Nat.{ℕ, zero, suc, ◌+◌, ◌-◌, ◌≤◌, ◌<◌, zero-le}
use native.Mathlib.Nat.{eq-or-lt_of_le, le_antisymm, not-suc-le-zero}
use native.Mathlib.Omega.{arith}
use borrow.Rule.Slice.PartMut.{post_of, Post-is}
use borrow.Author.Tests.{leb-true, leb-false, ltb-true, ltb-false}
use lib.Dec.{leb, ltb}
use lib.ListN.{length, get_or, set, take, drop, replicate, length-set, length-append, length-drop, length-replicate, get_or-append}
use lib.Seq.{get_or-set_same, get_or-set_other, get_or-drop, ext_get_or, take-suc}
use Rattle.std.proofs.lemmas.List.{get_or-append_right}
use Rattle.apportion.specs.Filled.{FilledOf, Filled}
use Rattle.rules.specs.Limits.{most_parties}
use Rattle.rules.specs.Words.{figures}
use Rattle.rules.proofs.Loops.{figures_length, figures_at}

pub filled_none : {A : Type 0} {places : ℕ} (nothing : A) (figure : ℕ → A) (l : List A) → length l ≡ places → ((k : ℕ) → get_or l k nothing ≡ nothing)
    → FilledOf places nothing figure 0 l
filled_none nothing figure l e h = record { size = e; below = λ k b. absurd (not-suc-le-zero b); past = λ k b. h k }

pub all_nothing : {A : Type 0} (nothing : A) (n k : ℕ) → get_or (replicate n nothing) k nothing ≡ nothing
all_nothing nothing zero k = refl
all_nothing nothing (suc n) zero = refl
all_nothing nothing (suc n) (suc k) = all_nothing nothing n k

pub filled_zeros : {A : Type 0} {places : ℕ} (nothing : A) (figure : ℕ → A) → FilledOf places nothing figure 0 (replicate places nothing)
filled_zeros {places = places} nothing figure =
    filled_none nothing figure (replicate places nothing) (length-replicate places nothing) (all_nothing nothing places)

pub filled_next :
    {A : Type 0} {places : ℕ} {nothing : A} {figure : ℕ → A} {i : ℕ} {l : List A} {v : A}
    → FilledOf places nothing figure i l
    → i < places
    → v ≡ figure i
    → FilledOf places nothing figure (i + 1) (set l i v)
filled_next {A} {places} {nothing} {figure} {i} {l} {v} f b e =
    record { size = length-set l i v ∙ f.size; below = below'; past = λ k c. get_or-set_other l i k v nothing (λ same. omega arith) ∙ f.past k (omega arith) }
  where
    below' : (k : ℕ) → k < i + 1 → get_or (set l i v) k nothing ≡ figure k
    below' k c =
        ⊎_elim
        (λ (same : k ≡ i). rw same (get_or-set_same l i v nothing (omega (arith, f.size)) ∙ e))
        (λ (less : k < i). get_or-set_other l i k v nothing (λ same. omega arith) ∙ f.below k less)
        (eq-or-lt_of_le (omega arith))

-- the same series under another name
pub filled_as :
    {A : Type 0} {places : ℕ} {nothing : A} {figure figure' : ℕ → A} {n : ℕ} {l : List A}
    → FilledOf places nothing figure n l
    → ((k : ℕ) → k < n → figure k ≡ figure' k)
    → FilledOf places nothing figure' n l
filled_as f h = record { size = f.size; below = λ k b. f.below k b ∙ h k b; past = f.past }

-- one series fills one list
pub filled_once : {A : Type 0} {places : ℕ} (nothing : A) (figure : ℕ → A) (n : ℕ) (l m : List A) → FilledOf places nothing figure n l → FilledOf places nothing figure n m → l ≡ m
filled_once nothing figure n l m f g =
    ext_get_or nothing l m (f.size ∙ sym g.size)
    (λ k b.
    ⊎_elim (λ (c : n ≤ k). f.past k c ∙ sym (g.past k c)) (λ (c : k < n). f.below k c ∙ sym (g.below k c)) (le_or_lt n k))
  where
    le_or_lt : (a b : ℕ) → (a ≤ b) ⊎ (b < a)
    le_or_lt a b = go (leb a b) refl
      where
        go : (t : Bool) → leb a b ≡ t → (a ≤ b) ⊎ (b < a)
        go true e = inl (leb-true a b e)
        go false e = inr (leb-false a b e)

-- and that list in full
pub filled_in_full : {A : Type 0} {places : ℕ} {nothing : A} {figure : ℕ → A} {n : ℕ} {l : List A} → FilledOf places nothing figure n l
    → l ≡ figures places (λ k. cond (ltb k n) (figure k) nothing)
filled_in_full {A} {places = places} {nothing = nothing} {figure = figure} {n = n} {l = l} f =
    ext_get_or nothing l (figures places entry) (f.size ∙ sym (figures_length places entry))
    (λ k b. each k ∙ sym (figures_at places entry k nothing (omega (arith, f.size))))
  where
    entry : ℕ → A
    entry k = cond (ltb k n) (figure k) nothing

    each : (k : ℕ) → get_or l k nothing ≡ entry k
    each k = go (ltb k n) refl
      where
        go : (t : Bool) → ltb k n ≡ t → get_or l k nothing ≡ cond t (figure k) nothing
        go true e = f.below k (ltb-true k n e)
        go false e = f.past k (ltb-false k n e)

-- A loop that has filled the first i of n places.
pub record UptoOf {A : Type 0} (places : ℕ) (nothing : A) (figure : ℕ → A) (n i : ℕ) (l : List A) : Type 0 where
  pub bound : i ≤ n
  pub filled : FilledOf places nothing figure i l

abbrev pub Upto : {A : Type 0} → A → (ℕ → A) → ℕ → ℕ → List A → Type 0
Upto nothing figure n i l = UptoOf most_parties nothing figure n i l

pub upto_start : {A : Type 0} {places : ℕ} (nothing : A) (figure : ℕ → A) (n : ℕ) → UptoOf places nothing figure n 0 (replicate places nothing)
upto_start nothing figure n = record { bound = zero-le; filled = filled_zeros nothing figure }

pub upto_next :
    {A : Type 0} {places : ℕ} {nothing : A} {figure : ℕ → A} {n i : ℕ} {l : List A} {v : A}
    → UptoOf places nothing figure n i l
    → i < n
    → n ≤ places
    → v ≡ figure i
    → UptoOf places nothing figure n (i + 1) (set l i v)
upto_next u b few e = record { bound = omega arith; filled = filled_next u.filled (omega arith) e }

pub upto_end : {A : Type 0} {places : ℕ} {nothing : A} {figure : ℕ → A} {n i : ℕ} {l : List A} → UptoOf places nothing figure n i l → n ≤ i
    → FilledOf places nothing figure n l
upto_end {places = places} {nothing = nothing} {figure = figure} {n = n} {i = i} {l = l} u b =
    let e : i ≡ n = le_antisymm u.bound b in
    subst (λ (k : ℕ). FilledOf places nothing figure k l) e u.filled

-- the first part of an array of nothing written: the first n places hold a series, and the others nothing
pub part_filled :
    {A : Type 0} (nothing : A) (f : ℕ → A) (n : ℕ) {part : List A}
    → n ≤ 64
    → part ≡ figures n f
    → Filled nothing f n (part ++ post_of 0 (n - 0) (replicate 64 nothing))
part_filled {A} nothing f n {part} few e = rw (e, Post-is 0 n (replicate 64 nothing) (zero-le {n = n})) whole
  where
    whole : Filled nothing f n (figures n f ++ drop n (replicate 64 nothing))
    whole =
        record {
          size =
              length-append (figures n f) (drop n (replicate 64 nothing))
              ∙ omega (arith, figures_length n f, length-drop n (replicate 64 nothing), length-replicate 64 nothing);
          below =
              λ k b. get_or-append (figures n f) (drop n (replicate 64 nothing)) nothing k (omega (arith, figures_length n f))
              ∙ figures_at n f k nothing b;
          past =
              λ k b. get_or-append_right (figures n f) (drop n (replicate 64 nothing)) n k nothing (figures_length n f) b
              ∙ get_or-drop n (replicate 64 nothing) (k - n) nothing
              ∙ all_nothing nothing 64 (n + (k - n));
        }

-- the first n of a list, as figures of a series
pub first_of : {A : Type 0} (nothing : A) (n : ℕ) (l : List A) → n ≤ length l → take n l ≡ figures n (λ i. get_or l i nothing)
unfolding figures
first_of nothing zero l b = refl
first_of nothing (suc n) l b =
    take-suc l n nothing b ∙ ap (λ k. k ++ (get_or l n nothing ∷ [])) (first_of nothing n l (omega arith))
