-- No second result fits what the readers of an accepted file's fields promise.
use mathlib.Core.List.{List}
use mathlib.Core.Path.{◌≡◌, sym, ◌∙◌, ap}
use Prim.Native.Nat.{ℕ}
use lib.IntN.{ℤ}
use Rattle.record.specs.Record.{flows_of, no_glns}
use Rattle.record.specs.declared.Flows as CFlows
use Rattle.record.specs.declared.Reading as CReading
use Rattle.record.specs.declared.Record.TheVariants.{Reading}
use Rattle.record.proofs.Unique.{decode_once}
use Rattle.file_sections.specs.declared.Sections.{Sections}
use Rattle.file_sections.specs.Walk.{Accepted}
use Rattle.file_fields.specs.Fields.{FixedIs, RefixedIs, PriceIs, ReadingIs, ShareIs, GlnIs, BrpGlnIs, BrpNumberIs}
use Rattle.file_fields.proofs.FieldsRead.{fixed_read, refixed_read, price_read, share_read, gln_read, brp_gln_read, brp_number_read}
use Rattle.rules.specs.Flows as R

flows_once : (f g : CFlows.Flows) → flows_of f ≡ flows_of g → f ≡ g
flows_once f g e =
    ap
    (λ (x : R.Flows). record { status = x.status; net_wh = x.net; production_wh = x.production; hourly_wh = x.hourly; flex_wh = x.flex })
    e

module _ (file : List ℕ) (s : Sections) (ok : Accepted file s) where
  pub fixed_unique : (t : ℕ) (f g : CFlows.Flows) → FixedIs file t f → FixedIs file t g → f ≡ g
  fixed_unique t f g p q = flows_once f g (fixed_read file s ok p ∙ sym (fixed_read file s ok q))

  pub refixed_unique : (t : ℕ) (f g : CFlows.Flows) → RefixedIs file t f → RefixedIs file t g → f ≡ g
  refixed_unique t f g p q = flows_once f g (refixed_read file s ok p ∙ sym (refixed_read file s ok q))

  pub price_unique : (t : ℕ) (x y : ℤ) → PriceIs file t x → PriceIs file t y → x ≡ y
  price_unique t x y p q = price_read file s ok p ∙ sym (price_read file s ok q)

  pub reading_unique : (place : ℕ) (x y : CReading.Reading) → ReadingIs file place x → ReadingIs file place y → x ≡ y
  reading_unique place x y p q = let e : Reading x ≡ Reading y = decode_once no_glns (Reading x) (Reading y) p.is q.is in cc

  pub share_unique : (i x y : ℕ) → ShareIs file i x → ShareIs file i y → x ≡ y
  share_unique i x y p q = share_read file s ok p ∙ sym (share_read file s ok q)

  pub gln_unique : (i : ℕ) (x y : List ℕ) → GlnIs file i x → GlnIs file i y → x ≡ y
  gln_unique i x y p q = gln_read file s ok p ∙ sym (gln_read file s ok q)

  pub brp_gln_unique : (i : ℕ) (x y : List ℕ) → BrpGlnIs file i x → BrpGlnIs file i y → x ≡ y
  brp_gln_unique i x y p q = brp_gln_read file s ok p ∙ sym (brp_gln_read file s ok q)

  pub brp_number_unique : (i x y : ℕ) → BrpNumberIs file i x → BrpNumberIs file i y → x ≡ y
  brp_number_unique i x y p q = brp_number_read file s ok p ∙ sym (brp_number_read file s ok q)
