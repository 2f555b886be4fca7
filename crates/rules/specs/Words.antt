-- The few words that every rule uses: sums, counts, lists of figures, ranges. They come from no sentence of 01 but from ordinary arithmetic.
use Rattle.std.specs.Prelude.{Bool, cond, ◌&&◌, List, [], ◌∷◌, ◌++◌, ℕ, zero, suc, ◌+◌, leb, ℤ, pos, neg_ℤ, ◌+ℤ◌, get_or}
use Prim.Native.Char.{code}
use Prim.Native.String.{String}
use Prim.Native.String as Str
use Rattle.std.specs.Int.Signed.{le_z}

-- f 0 + f 1 + .. + f (n - 1)
unfoldable pub sum : ℕ → (ℕ → ℕ) → ℕ
sum zero f = 0
sum (suc n) f = sum n f + f n

-- the same for figures that may be negative
unfoldable pub sum_ℤ : ℕ → (ℕ → ℤ) → ℤ
sum_ℤ zero f = pos 0
sum_ℤ (suc n) f = sum_ℤ n f +ℤ f n

-- f 1 + f 2 + .. + f n
unfoldable pub sum_from1 : ℕ → (ℕ → ℕ) → ℕ
sum_from1 n f = sum n (λ i. f (suc i))

-- how many of 0, 1, .. n - 1 pass a test
unfoldable pub count : ℕ → (ℕ → Bool) → ℕ
count n test = sum n (λ i. cond (test i) 1 0)

-- f 0, f 1, .. f (n - 1) as a list
unfoldable pub figures : {A : Type 0} → ℕ → (ℕ → A) → List A
figures zero f = []
figures (suc n) f = figures n f ++ (f n ∷ [])

-- what stands at place i of a list of numbers
unfoldable pub at : List ℕ → ℕ → ℕ
at l i = get_or l i 0

-- low .. high, both ends included
unfoldable pub within : ℕ → ℕ → ℕ → Bool
within low high n = leb low n && leb n high

-- 0 .. most
unfoldable pub at_most : ℕ → ℕ → Bool
at_most most n = leb n most

-- -most .. most
unfoldable pub within_ℤ : ℕ → ℤ → Bool
within_ℤ most z = le_z (neg_ℤ (pos most)) z && le_z z (pos most)

-- bytes one after the other
unfoldable pub joined : List (List ℕ) → List ℕ
joined [] = []
joined (l ∷ more) = l ++ joined more

-- a quoted text as its bytes
unfoldable pub ascii : String → List ℕ
ascii Str.[] = []
ascii (Str.◌∷◌ c s) = code c ∷ ascii s
