-- A record's bytes are its fields glued together, each in its width, after its kind.
use mathlib.Core.List.{List, [], ◌∷◌, ◌++◌, append_assoc, append-nil}
use mathlib.Core.Path.{◌≡◌, refl, sym, ◌∙◌, ap}
use Prim.Native.Nat.{ℕ, ◌%◌, ◌<◌}
use native.Mathlib.Nat.{zero-add}
use native.Mathlib.Omega.{arith}
use lib.IntN.{ℤ}
use lib.ListN.{length, length-append}
use lib.Seq.{sets}
use mir.Facts.{to_z-of_z}
use mir.Syntax.{w64}
use mir.Val.{SFits, to_z, of_z}
use Rattle.record_bytes.specs.Fields.{glue, uncomplemented}
use Rattle.record_bytes.specs.EachKind.{hour_bytes, party_with}
use Rattle.rules.specs.Flows.{Flows}
use Rattle.rules.specs.Limits.{gln_digits}
use Rattle.rules.specs.Record.{heading_kind, party_kind, reading_kind, price_kind, end_kind, long_reading_kind, brp_party_kind, layouts, widths_in, field_widths}
use Rattle.rules.specs.Record.{Heading, own_brp, named_brp, this_month, many_months}
use Rattle.rules.specs.Record.{heading, party, reading, price, end, bytes_of, field_bytes, in_widths, hour_fields, brp_fields, weight_fields, fields_of, record_bytes}
use Rattle.rules.specs.Words.{joined}
use Rattle.rules.proofs.Lines.{sets_append}
use Rattle.record_bytes.proofs.Complement.{unsigned_4, unsigned_8}

-- To unfold this name is to unfold all that a record's bytes are computed by, and no more is meant by it.
unfoldable pub record_bytes_lem : Unit {0}
unfolding record_bytes field_widths layouts widths_in fields_of hour_fields brp_fields weight_fields in_widths field_bytes joined hour_bytes
record_bytes_lem = tt

-- one byte stands for itself
one_byte : (k : ℕ) → k < 256 → bytes_of 1 k ≡ k ∷ []
unfolding bytes_of
one_byte k h = let e : k % 256 ≡ k = omega arith in rw e

-- a kind before what is glued
after_kind : (k : ℕ) → k < 256 → (rest : List ℕ) → bytes_of 1 k ++ rest ≡ k ∷ rest
after_kind k h rest = ap (λ (l : List ℕ). l ++ rest) (one_byte k h)

pub heading_glued : (h : Heading)
    → glue (1 ∷ 2 ∷ 2 ∷ 1 ∷ 2 ∷ 1 ∷ 1 ∷ []) (heading_kind ∷ h.area ∷ h.year ∷ h.month ∷ h.hours ∷ h.parties ∷ h.carrier ∷ []) ≡ record_bytes (heading h)
unfolding glue record_bytes_lem
heading_glued h = after_kind heading_kind (omega arith) _

pub hour_glued : (k : ℕ) → k < 256 → (hour : ℕ) (f : Flows) → SFits w64 f.net → {u : ℕ} → u ≡ uncomplemented 18446744073709551615 (to_z w64 (of_z w64 f.net))
    → glue (1 ∷ 2 ∷ 1 ∷ 8 ∷ 8 ∷ 8 ∷ 8 ∷ []) (k ∷ hour ∷ f.status ∷ u ∷ f.production ∷ f.hourly ∷ f.flex ∷ []) ≡ k ∷ hour_bytes hour f
unfolding glue record_bytes_lem
hour_glued k b hour f s e =
    rw (e, to_z-of_z s, unsigned_8 f.net) (after_kind k b _)

pub reading_glued : (who a b e : ℕ)
    → glue (1 ∷ 1 ∷ 2 ∷ 2 ∷ 4 ∷ []) (reading_kind ∷ who ∷ a ∷ b ∷ e ∷ []) ≡ record_bytes (reading (record { party = who; a = a; b = b; e = e; over = this_month }))
unfolding glue record_bytes_lem
reading_glued who a b e = after_kind reading_kind (omega arith) _

pub long_reading_glued : (who a b e before whole : ℕ)
    → glue (1 ∷ 1 ∷ 2 ∷ 2 ∷ 4 ∷ 8 ∷ 8 ∷ []) (long_reading_kind ∷ who ∷ a ∷ b ∷ e ∷ before ∷ whole ∷ [])
    ≡ record_bytes (reading (record { party = who; a = a; b = b; e = e; over = many_months before whole }))
unfolding glue record_bytes_lem
long_reading_glued who a b e before whole = after_kind long_reading_kind (omega arith) _

pub price_glued : (hour : ℕ) (p : ℤ) → SFits w64 p → {u : ℕ} → u ≡ uncomplemented 4294967295 (to_z w64 (of_z w64 p))
    → glue (1 ∷ 2 ∷ 4 ∷ []) (price_kind ∷ hour ∷ u ∷ []) ≡ record_bytes (price hour p)
unfolding glue record_bytes_lem
price_glued hour p s e = rw (e, to_z-of_z s, unsigned_4 p) (after_kind price_kind (omega arith) _)

pub end_glued : (count : ℕ) → glue (1 ∷ 4 ∷ []) (end_kind ∷ count ∷ []) ≡ record_bytes (end count)
unfolding glue record_bytes_lem
end_glued count = after_kind end_kind (omega arith) _

-- bytes put behind those that are put already
then_put : (d xs ys : List ℕ) {a b : List ℕ} {k : ℕ} → a ≡ sets d 0 xs → length xs ≡ k → b ≡ sets a k ys → b ≡ sets d 0 (xs ++ ys)
then_put d xs ys {a} {b} {k} before size now =
    now ∙ ap (λ (l : List ℕ). sets l k ys) before ∙ ap (λ (n : ℕ). sets (sets d 0 xs) n ys) (sym size ∙ sym (zero-add (length xs))) ∙ sets_append d 0 xs ys

-- a party's bytes, in three goes, and in four with its BRP's GLN
module _ (gln : List ℕ) (share : ℕ) (whole : length gln ≡ gln_digits) (d : List ℕ) {a b : List ℕ} where
  gln_put : (k : ℕ) → k < 256 → a ≡ sets d 0 (bytes_of 1 k) → b ≡ sets a 1 gln → b ≡ sets d 0 (k ∷ gln)
  gln_put k small p q = then_put d (k ∷ []) gln (p ∙ ap (sets d 0) (one_byte k small)) refl q

  pub party_put : {c : List ℕ} → a ≡ sets d 0 (bytes_of 1 party_kind) → b ≡ sets a 1 gln → c ≡ sets b 14 (bytes_of 8 share)
      → c ≡ sets d 0 (record_bytes (party (party_with gln own_brp share)))
  unfolding record_bytes_lem
  party_put p q r =
      then_put d (party_kind ∷ gln) (bytes_of 8 share) (gln_put party_kind (omega arith) p q) (omega (arith, whole)) r
      ∙ ap (λ (l : List ℕ). sets d 0 (party_kind ∷ (gln ++ l))) (sym (append-nil (bytes_of 8 share)))

  pub brp_party_put : (brp_gln : List ℕ) → length brp_gln ≡ gln_digits → {c e : List ℕ}
      → a ≡ sets d 0 (bytes_of 1 brp_party_kind) → b ≡ sets a 1 gln → c ≡ sets b 14 brp_gln → e ≡ sets c 27 (bytes_of 8 share)
      → e ≡ sets d 0 (record_bytes (party (party_with gln (named_brp brp_gln) share)))
  unfolding record_bytes_lem
  brp_party_put brp_gln brp-whole p q r t =
      let both = then_put d (brp_party_kind ∷ gln) brp_gln (gln_put brp_party_kind (omega arith) p q) (omega (arith, whole)) r in
      let size : length (brp_party_kind ∷ (gln ++ brp_gln)) ≡ 27 = omega (arith, length-append gln brp_gln, whole, brp-whole) in
      then_put d (brp_party_kind ∷ (gln ++ brp_gln)) (bytes_of 8 share) both size t
      ∙ ap (λ (l : List ℕ). sets d 0 (brp_party_kind ∷ l)) (append_assoc gln brp_gln (bytes_of 8 share))
      ∙ ap (λ (l : List ℕ). sets d 0 (brp_party_kind ∷ (gln ++ (brp_gln ++ l)))) (sym (append-nil (bytes_of 8 share)))
