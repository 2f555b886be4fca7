-- Texts put one after the other: two puts are the put of the appended text, and a copied text is a put.
use mathlib.Core.List.{List, [], ◌++◌, append_assoc}
use mathlib.Core.Path.{◌≡◌, refl, sym, ◌∙◌, ap, ap₂}
use Prim.Native.Nat.{ℕ, ◌+◌, ◌≤◌}
use native.Mathlib.Nat.{zero-add, add-zero}
use native.Mathlib.Omega.{arith}
use borrow.Rule.Slice.PartMut.{put_mid}
use lib.ListN.{length, take, drop, length-append}
use lib.Seq.{sets, sets-eq, length-sets}
use Rattle.std.proofs.lemmas.List.Edits.{paste_all}
use Rattle.std.proofs.lemmas.Slice.{put_mid-paste}
use Rattle.rules.proofs.Lines.{sets_append}
use Rattle.text.specs.Text.{Put}

-- nothing is put where the buffer stays as it is
pub put_none : (d : List ℕ) (p : ℕ) → Put [] d p d p
put_none d p = record { is = refl; ends = sym (add-zero p) }

-- THE LAW OF PUTS
pub put_then : {x y b m a : List ℕ} {p q e : ℕ} → Put x b p m q → Put y m q a e → Put (x ++ y) b p a e
put_then {x} {y} {b} {m} {a} {p} {q} {e} h k =
    record {
      is = k.is ∙ ap₂ (λ (l : List ℕ) (i : ℕ). sets l i y) h.is h.ends ∙ sets_append b p x y;
      ends = omega (arith, h.ends, k.ends, length-append x y);
    }

-- a word and its number after what is put already
pub put_pair : {x b m a : List ℕ} {p q e : ℕ} (y z : List ℕ) → Put x b p m q → Put (y ++ z) m q a e → Put (x ++ y ++ z) b p a e
put_pair {x} {b} {m} {a} {p} {q} {e} y z h k = rw (append_assoc x y z) (put_then h k)

-- the same text by another name
pub put_as : {x y b a : List ℕ} {p e : ℕ} → x ≡ y → Put x b p a e → Put y b p a e
put_as {x} {y} {b} {a} {p} {e} s h = rw s at h

-- a put keeps the buffer's length
pub put_length : {x b a : List ℕ} {p e : ℕ} → Put x b p a e → length a ≡ length b
put_length {x} {b} {a} {p} {e} h = ap length h.is ∙ length-sets b p x

-- a text put at the start of a buffer stands before the rest of it
pub put_at_start : {text b a : List ℕ} {e : ℕ} → Put text b 0 a e → e ≤ length b → a ≡ text ++ drop (length text) b
put_at_start {text} {b} {a} {e} h room =
    h.is ∙ sets-eq text b 0 (omega (arith, h.ends)) ∙ ap (λ (n : ℕ). text ++ drop n b) (zero-add (length text))

-- a text copied into the part of a buffer that it fills
pub put_copied : (text before part : List ℕ) (place k : ℕ) → part ≡ text → k ≡ length text → place + length text ≤ length before
    → Put text before place (put_mid place k before part) (place + length text)
put_copied text before part place k same long room =
    record {
      is =
          put_mid-paste place k before part text (length text) same (sym long) refl ∙ paste_all before place text (length text) refl
          ∙ sym (sets-eq text before place room ∙ append_assoc (take place before) text (drop (place + length text) before));
      ends = refl;
    }
