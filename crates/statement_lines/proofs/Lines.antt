-- A line of the statement from the texts put one after the other. Each law takes what the parts' functions promise.
use mathlib.Core.List.{List, ◌++◌, append_assoc}
use mathlib.Core.Path.{◌≡◌, sym, ap}
use Prim.Native.Nat.{ℕ, suc, ◌-◌}
use native.Mathlib.Omega.{arith}
use lib.IntN.{ℤ}
use mir.Facts.{to_z-of_z}
use mir.Syntax.{w64}
use mir.Val.{SFits, to_z, of_z}
use Rattle.rules.specs.Statement.{decimal, signed_decimal, digits_of_width, newline, provisional_ending, heading_text, columns_line}
use Rattle.rules.specs.Words.{ascii}
use Rattle.statement_lines.specs.Parts.{area_month, counted, ending, name_energies, resulting}
use Rattle.text.specs.Text.{Put}
use Rattle.text.proofs.Puts.{put_then, put_pair, put_as}

module _ {b : List ℕ} {p : ℕ} where
  pub area_month_lem : (area year month : ℕ) {m m' a : List ℕ} {q q' e : ℕ} → Put (ascii "area " ++ digits_of_width 3 area) b p m q → Put (ascii " " ++ decimal year) m q m' q'
      → Put (ascii "-" ++ digits_of_width 2 month) m' q' a e
      → Put (area_month area year month) b p a e
  area_month_lem area year month h k l = put_pair (ascii "-") _ (put_pair (ascii " ") _ h k) l

  pub counts :
      (hours parties estimated : ℕ) {m m' a : List ℕ} {q q' e : ℕ}
      → Put (ascii " hours " ++ decimal hours) b p m q
      → Put (ascii " parties " ++ decimal parties) m q m' q'
      → Put (ascii " estimated " ++ decimal estimated) m' q' a e
      → Put (counted hours parties estimated) b p a e
  counts hours parties estimated h k l = put_pair (ascii " estimated ") _ (put_pair (ascii " parties ") _ h k) l

  -- the ending of a month without 06 records, and of one with them
  pub unrefixed : {refixed : ℕ} {a : List ℕ} {e : ℕ} → refixed ≡ 0 → Put (ascii " provisional" ++ newline) b p a e → Put (ending refixed) b p a e
  unfolding provisional_ending
  unrefixed none h = put_as (ap ending (sym none)) h

  pub refixed_line : {refixed : ℕ} {a : List ℕ} {e : ℕ} → (refixed ≡ 0 → ⊥) → Put newline b p a e → Put (ending refixed) b p a e
  unfolding provisional_ending
  refixed_line {refixed} some h = let more : suc (refixed - 1) ≡ refixed = omega (arith, some) in put_as (ap ending more) h

  pub heading : (area year month hours parties estimated refixed : ℕ) {m m' a : List ℕ} {q q' e : ℕ}
      → Put (area_month area year month) b p m q
      → Put (counted hours parties estimated) m q m' q'
      → Put (ending refixed) m' q' a e
      → Put (heading_text area year month hours parties estimated refixed) b p a e
  unfolding heading_text
  heading area year month hours parties estimated refixed h k l = put_as (simp append_assoc) (put_then (put_then h k) l)

  pub name_energies_lem :
      {distributed : ℤ} → SFits w64 distributed → (periodised : ℕ) {name m a : List ℕ} {q e : ℕ}
      → Put name b p m q
      → Put (ascii " " ++ signed_decimal (to_z w64 (of_z w64 distributed)) ++ ascii " " ++ decimal periodised) m q a e
      → Put (name_energies name distributed periodised) b p a e
  name_energies_lem f periodised h k = put_as (rw (to_z-of_z f) (simp append_assoc)) (put_then h k)

  pub results : {loss difference ore : ℤ} → SFits w64 loss → SFits w64 difference → SFits w64 ore → {m m' m'' a : List ℕ} {q q' q'' e : ℕ}
      → Put (ascii " " ++ signed_decimal (to_z w64 (of_z w64 loss))) b p m q
      → Put (ascii " " ++ signed_decimal (to_z w64 (of_z w64 difference))) m q m' q'
      → Put (ascii " " ++ signed_decimal (to_z w64 (of_z w64 ore))) m' q' m'' q''
      → Put newline m'' q'' a e
      → Put (resulting loss difference ore) b p a e
  results f g i h k l n =
      rw (to_z-of_z f, to_z-of_z g, to_z-of_z i) at (put_then (put_pair (ascii " ") _ (put_pair (ascii " ") _ h k) l) n)

  pub columns :
      {distributed loss difference ore : ℤ}
      → SFits w64 distributed
      → SFits w64 loss
      → SFits w64 difference
      → SFits w64 ore → (name : List ℕ) (periodised : ℕ) {m a : List ℕ} {q e : ℕ}
      → Put (name_energies name (to_z w64 (of_z w64 distributed)) periodised) b p m q
      → Put (resulting (to_z w64 (of_z w64 loss)) (to_z w64 (of_z w64 difference)) (to_z w64 (of_z w64 ore))) m q a e
      → Put (columns_line name distributed periodised loss difference ore) b p a e
  unfolding columns_line
  columns d f g i name periodised h k = put_as (rw (to_z-of_z d, to_z-of_z f, to_z-of_z g, to_z-of_z i) (simp append_assoc)) (put_then h k)
