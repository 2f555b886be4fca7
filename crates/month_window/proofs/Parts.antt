-- What stands at a place of a list's part, and of a list whose part was lent and came back with other figures: the part's own inside it, and what stood there
-- outside it.
use mathlib.Core.List.{List}
use mathlib.Core.Path.{◌≡◌, sym, ◌∙◌, ap}
use Prim.Native.Nat.{ℕ, ◌+◌, ◌-◌, ◌≤◌, ◌<◌}
use native.Mathlib.Omega.{arith}
use lib.ListN.{length, take, drop, get_or, get_or-append}
use lib.Seq.{get_or-take, get_or-drop, get_or-append-add, length-take-le}
use borrow.Rule.Slice.PartMut.{mid_of, post_of, put_mid, take_put, drop_put}
use Rattle.rules.specs.Words.{at}

pub part_at : (a e : ℕ) (xs : List ℕ) (k : ℕ) → k < e - a → at (mid_of a (e - a) xs) k ≡ at xs (a + k)
unfolding at
part_at a e xs k b = get_or-take (e - a) (drop a xs) k 0 b ∙ get_or-drop a xs k 0

module _ (a e : ℕ) (xs ys : List ℕ) (forwards : a ≤ e) (inside : e ≤ length xs) (size : length ys ≡ e - a) where
  pub before_part : (n : ℕ) → n < a → at (put_mid a (e - a) xs ys) n ≡ at xs n
  unfolding at
  before_part n b =
      sym (get_or-take a (put_mid a (e - a) xs ys) n 0 b)
      ∙ ap (λ (l : List ℕ). get_or l n 0) (take_put a (e - a) xs ys (omega arith))
      ∙ get_or-take a xs n 0 b

  pub in_part : (k : ℕ) → k < e - a → at (put_mid a (e - a) xs ys) (a + k) ≡ at ys k
  unfolding at
  in_part k b =
      let n : length (take a xs) ≡ a = length-take-le a xs (omega arith) in
      ap (λ (m : ℕ). get_or (put_mid a (e - a) xs ys) (m + k) 0) (sym n)
      ∙ get_or-append-add (take a xs) _ k 0
      ∙ get_or-append ys (post_of a (e - a) xs) 0 k (omega arith)

  pub after_part : (n : ℕ) → e ≤ n → at (put_mid a (e - a) xs ys) n ≡ at xs n
  unfolding at
  after_part n b =
      let there : e + (n - e) ≡ n = omega arith in
      ap (λ (m : ℕ). get_or (put_mid a (e - a) xs ys) m 0) (sym there)
      ∙ sym (get_or-drop e (put_mid a (e - a) xs ys) (n - e) 0)
      ∙ ap (λ (l : List ℕ). get_or l (n - e) 0) (drop_put a e xs ys forwards inside size)
      ∙ get_or-drop e xs (n - e) 0
      ∙ ap (λ (m : ℕ). get_or xs m 0) there
