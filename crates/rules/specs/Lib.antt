-- Document 01, and the requests of 02 that have landed, as definitions, to be read beside them in this order. Each stands under the sentence that it renders (of a
-- request, with its number). Last comes one small month worked through by them; every other worked case is in the crate `worked_cases`.
-- An hour, a party, a reading and a record are numbered from 0; a series is a function from such a number to a figure.
--
-- THE SIGNS, for a reader without this language:
--   f : A → B → C                  f is given an A and a B and gives a C; the lines below say what it gives, one for each case
--   f x y                          f of x and y
--   ℕ, ℤ, Bool, List ℕ             0, 1, 2 and so on; whole numbers of either sign; true or false; a list of such numbers
--   pos 7, negsuc 4                7 and -5 in ℤ: negsuc n is -(n + 1), so negsuc 0 is -1
--   zero, suc n                    0, and n + 1; a case of each together says f for every number, counting down
--   a - b, a / b, a % b, a ^ b     on ℕ: `-` stops at 0 (3 - 5 is 0); `/` is rounded down, and by 0 it is 0; the remainder; the power
--   +ℤ, -ℤ, *ℤ, negℤ, natAbs       the same on ℤ; the opposite; the size without the sign, in ℕ
--   cond t a b                     a where the test t holds, else b
--   leb a b, ltb a b, eqb a b      the tests a ≤ b, a < b, a = b on ℕ; leZ and ltZ on ℤ
--   s && t, s || t                 both tests; one of them at least
--   [], x ∷ l, l ++ k              no entries; x and then the entries of l; those of l and then those of k. (5 ∷ 7 ∷ []) is the list 5, 7
--   length l, take n l, drop n l   how many entries; the first n; all but the first n
--   getD l i d                     the entry at place i, counted from 0; d where there is none
--   λ x. e                         the function that gives e for x
--   data T : Type 0 where          T is a type whose values are the cases below (`Type 0` only says that it is a type)
--   record { a = 1; b = 2 }, r.a  a value by its fields; the field a of r
--   (a, b), p.0, p.1, A × B      a pair, its parts, and the type of pairs (or: both statements hold)
--   a ≡ b, a ≤ b, a < b            a equals b; is at most b; is below b: statements, which a proof shows
--   A ⊎ B, Unit                    one of the two statements holds at least; a statement that always holds
--   abbrev, unfoldable, pub        say that other files may use a name or look behind it; they do not change what it means. Nor do `use` and `mod`.
pub mod Words
pub mod Limits
pub mod Refusals
pub mod Setting
pub mod Accepted
pub mod Flows
pub mod LargestRemainder
pub mod Distributed
pub mod Demands
pub mod Periodised
pub mod Reconciliation
pub mod Invoice
pub mod Gln
pub mod Record
pub mod WellFormed
pub mod MonthFile
pub mod ReadingRefused
pub mod Month
pub mod PlainRecord
pub mod Services
pub mod Run
pub mod Plan
pub mod Brp
pub mod BrpDemands
pub mod Statement
pub mod HoursReport
pub mod SmallMonth
