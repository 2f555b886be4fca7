-- Fields as bytes, written: a loop over them keeps that what is left to write, on what is written, gives the whole.
use mathlib.Core.List.{List, [], ◌∷◌, ◌++◌, append_assoc}
use mathlib.Core.Path.{◌≡◌, refl, sym, ◌∙◌, ap, ap₂}
use Prim.Native.Nat.{ℕ, suc, ◌+◌, ◌-◌, ◌/◌, ◌%◌, ◌≤◌, ◌<◌}
use native.Mathlib.Nat.{add-zero}
use native.Mathlib.Numerals.{add-one}
use native.Mathlib.Omega.{arith}
use borrow.Rule.Slice.PartMut.{put_mid, Post-is}
use lib.ListN.{length, get_or, drop, set, length-set, drop_of_length-le}
use lib.Seq.{sets, sets-eq, length-sets, drop-cons, set_comm}
use Rattle.record_bytes.specs.Fields.{glue, total}
use Rattle.rules.specs.Record.{bytes_of}
use Rattle.rules.proofs.Lines.{sets_append}
use Rattle.rules.proofs.RoundTrip.{bytes_length}

-- the last byte first
sets_last : (d : List ℕ) (p : ℕ) (xs : List ℕ) (x : ℕ) → sets d p (xs ++ (x ∷ [])) ≡ sets (set d (p + length xs) x) p xs
sets_last d p [] x = rw (add-zero p)
sets_last d p (y ∷ xs) x =
    sets_last (set d p y) (suc p) xs x
    ∙ ap (λ (l : List ℕ). sets l (suc p) xs) (ap (λ (k : ℕ). set (set d p y) k x) (omega arith) ∙ set_comm d p (p + suc (length xs)) y x (λ e. omega arith))

-- the low bytes of a number are written, k are left
pub record Putting (d₀ : List ℕ) (p width value : ℕ) (d : List ℕ) (left k : ℕ) : Type 0 where
  pub room : p + width ≤ length d
  pub same : length d ≡ length d₀
  pub done : sets d p (bytes_of k left) ≡ sets d₀ p (bytes_of width value)

pub put_start : {d₀ : List ℕ} {p width : ℕ} (value : ℕ) → p + width ≤ length d₀ → Putting d₀ p width value d₀ value width
put_start {d₀} {p} {width} value r = record { room = r; same = refl; done = refl }

pub put_next : {d₀ : List ℕ} {p width value : ℕ} {d : List ℕ} {left k : ℕ} → Putting d₀ p width value d left k → 0 < k
    → Putting d₀ p width value (set d (p + (k - 1)) (left % 256)) (left / 256) (k - 1)
unfolding bytes_of
put_next {d₀} {p} {width} {value} {d} {left} {k} h b =
    let e : k ≡ suc (k - 1) = omega arith in
    let l : length (bytes_of (k - 1) (left / 256)) ≡ k - 1 = bytes_length (k - 1) (left / 256) in
    record {
      room = rw length-set h.room;
      same = length-set d (p + (k - 1)) (left % 256) ∙ h.same;
      done = ap (λ (m : ℕ). sets (set d (p + m) (left % 256)) p (bytes_of (k - 1) (left / 256))) (sym l)
          ∙ sym (sets_last d p (bytes_of (k - 1) (left / 256)) (left % 256))
          ∙ ap (λ (m : ℕ). sets d p (bytes_of m left)) (sym e)
          ∙ h.done;
    }

pub put_end : {d₀ : List ℕ} {p width value : ℕ} {d : List ℕ} {left k : ℕ} → Putting d₀ p width value d left k → k ≤ 0
    → d ≡ sets d₀ p (bytes_of width value)
unfolding bytes_of
put_end {d₀} {p} {width} {value} {d} {left} {k} h b =
    let e : k ≡ 0 = omega arith in
    ap (λ (m : ℕ). sets d p (bytes_of m left)) (sym e) ∙ h.done

-- i numbers of a list are written
pub record Gluing (d₀ ws vs d : List ℕ) (p i : ℕ) : Type 0 where
  pub pairs : length ws ≡ length vs
  pub room : p + total (drop i ws) ≤ length d
  pub same : length d ≡ length d₀
  pub done : sets d p (glue (drop i ws) (drop i vs)) ≡ sets d₀ 0 (glue ws vs)

pub glue_start : {d₀ ws vs : List ℕ} → length ws ≡ length vs → total ws ≤ length d₀ → Gluing d₀ ws vs d₀ 0 0
glue_start e r = record { pairs = e; room = omega arith; same = refl; done = refl }

module _ {d₀ ws vs d : List ℕ} {p i : ℕ} (h : Gluing d₀ ws vs d p i) (b : i < length ws) where
  width_here : drop i ws ≡ get_or ws i 0 ∷ drop (suc i) ws
  width_here = drop-cons ws i 0 b

  value_here : drop i vs ≡ get_or vs i 0 ∷ drop (suc i) vs
  value_here = drop-cons vs i 0 (omega (arith, h.pairs))

  room_after : p + get_or ws i 0 + total (drop (suc i) ws) ≤ length d
  unfolding total
  room_after = omega (arith, ap total width_here, h.room)

  pub glue_room : p + get_or ws i 0 ≤ length d
  glue_room = omega (arith, room_after)

  pub glue_next : {d' : List ℕ} → d' ≡ sets d p (bytes_of (get_or ws i 0) (get_or vs i 0)) → Gluing d₀ ws vs d' (p + get_or ws i 0) (i + 1)
  unfolding glue
  glue_next {d'} e =
      let l : length (bytes_of (get_or ws i 0) (get_or vs i 0)) ≡ get_or ws i 0 = bytes_length (get_or ws i 0) (get_or vs i 0) in
      let s : length d' ≡ length d = ap length e ∙ length-sets d p (bytes_of (get_or ws i 0) (get_or vs i 0)) in
      rw (add-one i)
      (record {
        pairs = h.pairs;
        room = omega (arith, room_after);
        same = s ∙ h.same;
        done = ap₂ (λ (x : List ℕ) (m : ℕ). sets x (p + m) (glue (drop (suc i) ws) (drop (suc i) vs))) e (sym l)
            ∙ (sets_append d p (bytes_of (get_or ws i 0) (get_or vs i 0)) (glue (drop (suc i) ws) (drop (suc i) vs)))
            ∙ ap₂ (λ (x y : List ℕ). sets d p (glue x y)) (sym width_here) (sym value_here)
            ∙ h.done;
      })

pub glue_end : {d₀ ws vs d : List ℕ} {p i : ℕ} → Gluing d₀ ws vs d p i → length ws ≤ i → d ≡ sets d₀ 0 (glue ws vs)
unfolding glue
glue_end {d₀} {ws} {vs} {d} {p} {i} h b =
    ap (λ (x : List ℕ). sets d p (glue x (drop i vs))) (sym (drop_of_length-le ws b)) ∙ h.done

-- a part that was lent, put back with other bytes
pub copied : (d bytes : List ℕ) (p : ℕ) {part : List ℕ} → p + length bytes ≤ length d → part ≡ bytes → put_mid p (p + length bytes - p) d part ≡ sets d p bytes
copied d bytes p r e = rw (e, Post-is p (p + length bytes) d (omega arith), sets-eq bytes d p r, append_assoc)
