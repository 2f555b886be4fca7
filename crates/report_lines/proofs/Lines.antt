-- A line of the reviewer's report from the texts put one after the other. Each law takes what the parts' functions promise.
use mathlib.Core.List.{List, ◌++◌, append_assoc}
use mathlib.Core.Path.{◌≡◌, refl}
use Prim.Native.Nat.{ℕ}
use borrow.Author.Tests.{eq-eqb, ne_eqb}
use lib.IntN.{ℤ}
use mir.Facts.{to_z-of_z}
use mir.Syntax.{w64}
use mir.Val.{SFits, to_z, of_z}
use Rattle.report_lines.specs.HourText.{hour_text}
use Rattle.rules.specs.HoursReport.{status_word, statuses_text, series_text, parts_text, fraction, distances_text}
use Rattle.rules.specs.Limits.{estimated}
use Rattle.rules.specs.Statement.{decimal, signed_decimal, newline}
use Rattle.rules.specs.Words.{ascii}
use Rattle.text.specs.Text.{Put}
use Rattle.text.proofs.Puts.{put_then, put_as}

module _ {b : List ℕ} {p : ℕ} where
  pub statuses :
      (hour fixed applied : ℕ) {m m' a : List ℕ} {q q' e : ℕ}
      → Put (decimal hour) b p m q
      → Put (ascii " " ++ status_word fixed) m q m' q'
      → Put (ascii " " ++ status_word applied) m' q' a e
      → Put (statuses_text hour fixed applied) b p a e
  unfolding statuses_text
  statuses hour fixed applied h k l = put_as (simp append_assoc) (put_then (put_then h k) l)

  pub series :
      (fixed applied curve : ℕ) {m m' a : List ℕ} {q q' e : ℕ}
      → Put (ascii " " ++ decimal fixed) b p m q
      → Put (ascii " " ++ decimal applied) m q m' q'
      → Put (ascii " " ++ decimal curve) m' q' a e
      → Put (series_text fixed applied curve) b p a e
  unfolding series_text
  series fixed applied curve h k l = put_as (simp append_assoc) (put_then (put_then h k) l)

  pub hour :
      {distributed loss : ℤ} → SFits w64 distributed → SFits w64 loss
      → (t fixedStatus appliedStatus fixed applied curve periodised : ℕ) {m m' m'' m''' a : List ℕ} {q q' q'' q''' e : ℕ}
      → Put (statuses_text t fixedStatus appliedStatus) b p m q
      → Put (series_text fixed applied curve) m q m' q'
      → Put (ascii " " ++ signed_decimal (to_z w64 (of_z w64 distributed)) ++ ascii " " ++ decimal periodised) m' q' m'' q''
      → Put (ascii " " ++ signed_decimal (to_z w64 (of_z w64 loss))) m'' q'' m''' q'''
      → Put newline m''' q''' a e
      → Put (hour_text t fixedStatus appliedStatus fixed applied curve distributed periodised loss) b p a e
  unfolding hour_text parts_text
  hour f g t fixedStatus appliedStatus fixed applied curve periodised h k l n o =
      put_as (rw (to_z-of_z f, to_z-of_z g) (simp append_assoc)) (put_then (put_then (put_then (put_then h k) l) n) o)

  pub fraction_column :
      {n : ℤ}
      → SFits w64 n → (w : ℕ) {m a : List ℕ} {q e : ℕ}
      → Put (ascii " " ++ signed_decimal (to_z w64 (of_z w64 n))) b p m q
      → Put (ascii "/" ++ decimal w) m q a e
      → Put (ascii " " ++ fraction n w) b p a e
  unfolding fraction
  fraction_column f w h k = put_as (rw (to_z-of_z f) (simp append_assoc)) (put_then h k)

  pub distances :
      {least most : ℤ}
      → SFits w64 least
      → SFits w64 most → (name : List ℕ) (w : ℕ) {m m' m'' a : List ℕ} {q q' q'' e : ℕ}
      → Put name b p m q
      → Put (ascii " " ++ fraction (to_z w64 (of_z w64 least)) w) m q m' q'
      → Put (ascii " " ++ fraction (to_z w64 (of_z w64 most)) w) m' q' m'' q''
      → Put newline m'' q'' a e
      → Put (distances_text name least most w) b p a e
  unfolding distances_text
  distances f g name w h k l n = put_as (rw (to_z-of_z f, to_z-of_z g) (simp append_assoc)) (put_then (put_then (put_then h k) l) n)

-- the words of a status
pub is_estimated_lem : (status : ℕ) → status ≡ estimated → ascii " estimated" ≡ ascii " " ++ status_word status
unfolding status_word ascii
is_estimated_lem status e = rw (eq-eqb status estimated e) refl

pub is_measured : (status : ℕ) → (status ≡ estimated → ⊥) → ascii " measured" ≡ ascii " " ++ status_word status
unfolding status_word ascii
is_measured status e = rw (ne_eqb status estimated e) refl
