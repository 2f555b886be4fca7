-- What the functions of `record` read of the record that stands at an offset of a file: the record's own fields. A record that stands there has its kind at
-- that byte, so what is cut out of the bytes there, by the widths of that kind, is the record.
use mathlib.Core.List.{List}
use mathlib.Core.Logic.{◌⊎◌, inl, inr, ⊎_elim}
use mathlib.Core.Path.{◌≡◌, sym, ◌∙◌, ap}
use Prim.Native.Nat.{ℕ, ◌+◌, ◌-◌, ◌≤◌}
use native.Mathlib.Omega.{arith}
use lib.IntN.{ℤ}
use lib.ListN.{length, take, drop, length-drop}
use lib.Seq.{take_all}
use Rattle.record.specs.Record.{record_as, flows_at, glns_in}
use Rattle.record.proofs.Decoding as D
use Rattle.rules.specs.Flows.{Flows}
use Rattle.rules.specs.Record as R
use Rattle.rules.proofs.EachKind.{body_lengths, kind_of_record, lengths_are}
use Rattle.rules.proofs.Places.{Standing}

-- a price and a load share, where such a record starts
abbrev pub price_in : List ℕ → ℤ
price_in bytes = R.signed 4 (R.number_onto 0 (take 4 (drop 3 bytes)))

abbrev pub share_in : List ℕ → ℕ
share_in bytes = R.number_onto 0 (take 8 (drop 14 bytes))

abbrev pub brp_share_in : List ℕ → ℕ
brp_share_in bytes = R.number_onto 0 (take 8 (drop 27 bytes))

-- the rest of a file, as a slice to its end is cut
pub from_there : (file : List ℕ) (offset : ℕ) → take (length file - offset) (drop offset file) ≡ drop offset file
from_there file offset = take_all (length file - offset) (drop offset file) (omega (arith, length-drop offset file))

module _ {file : List ℕ} {offset : ℕ} where
  -- the kind of the record that stands there
  pub kind_there : {r : R.Record} → Standing file offset r → R.kind_at (drop offset file) ≡ R.kind_of r
  unfolding R.record_at
  kind_there {r} st =
      let fields : List (List ℕ) = R.cut_into (R.field_widths (R.kind_at (drop offset file))) (drop 1 (drop offset file)) in
      sym (kind_of_record (R.kind_at (drop offset file)) fields st.known_kind) ∙ ap R.kind_of st.is

  -- the record, by its kind
  there : {r : R.Record} → Standing file offset r → record_as (R.kind_of r) (drop offset file) ≡ r
  unfolding record_as R.record_at
  there {r} st = ap (λ (k : ℕ). R.record_from k (R.cut_into (R.field_widths k) (drop 1 (drop offset file)))) (sym (kind_there st)) ∙ st.is

  pub fixed_there : {t : ℕ} {x : Flows} → Standing file offset (R.fixed_hour t x) → flows_at (drop offset file) ≡ x
  fixed_there st = let e = D.fixed_is (drop offset file) ∙ there st in cc

  pub refixed_there : {t : ℕ} {x : Flows} → Standing file offset (R.refixed_hour t x) → flows_at (drop offset file) ≡ x
  refixed_there st = let e = D.refixed_is (drop offset file) ∙ there st in cc

  pub price_there : {t : ℕ} {z : ℤ} → Standing file offset (R.price t z) → price_in (drop offset file) ≡ z
  price_there st = let e = D.price_is (drop offset file) (omega (arith, st.fits, length-drop offset file)) ∙ there st in cc

  -- a party, by the kind of its record: one that names its BRP
  pub size_there : {p : R.Party} → Standing file offset (R.party p) → 1 + R.body_length (R.kind_at (drop offset file)) ≤ length (drop offset file)
  size_there {p} st = omega (arith, st.fits, length-drop offset file, ap R.body_length (kind_there st), lengths_are (R.party p))

  module _ {p : R.Party} (st : Standing file offset (R.party p)) where
    by_its_kind : {k : ℕ} → R.kind_at (drop offset file) ≡ k → record_as k (drop offset file) ≡ R.party p
    by_its_kind e = ap (λ (k : ℕ). record_as k (drop offset file)) (sym e ∙ kind_there st) ∙ there st

    named_there :
        R.kind_at (drop offset file) ≡ R.brp_party_kind
        → record { gln = (glns_in (drop offset file)).gln; brp = R.named_brp (glns_in (drop offset file)).brp_gln; share = brp_share_in (drop offset file) } ≡ p
    unfolding body_lengths
    named_there e =
        let size = rw e at (size_there st) in
        let same = D.brp_party_is (drop offset file) (omega arith) ∙ by_its_kind e in
        cc

    own_there :
        R.kind_at (drop offset file) ≡ R.party_kind
        → record { gln = (glns_in (drop offset file)).gln; brp = R.own_brp; share = share_in (drop offset file) } ≡ p
    unfolding body_lengths
    own_there e =
        let size = rw e at (size_there st) in
        let same = D.party_is (drop offset file) (omega arith) ∙ by_its_kind e in
        cc

    -- there is no other
    pub either_kind : (R.kind_at (drop offset file) ≡ R.party_kind) ⊎ (R.kind_at (drop offset file) ≡ R.brp_party_kind)
    either_kind = go p.brp (kind_there st)
      where
        go : (brp : R.Brp) → R.kind_at (drop offset file) ≡ R.party_kind_of brp
            → (R.kind_at (drop offset file) ≡ R.party_kind) ⊎ (R.kind_at (drop offset file) ≡ R.brp_party_kind)
        go R.own_brp e = inl e
        go (R.named_brp brp_gln) e = inr e

    pub gln_there : (glns_in (drop offset file)).gln ≡ p.gln
    gln_there = ⊎_elim (λ e. ap (λ (x : R.Party). x.gln) (own_there e)) (λ e. ap (λ (x : R.Party). x.gln) (named_there e)) either_kind

    module _ (named : R.kind_at (drop offset file) ≡ R.brp_party_kind) where
      pub named_share : brp_share_in (drop offset file) ≡ p.share
      named_share = ap (λ (x : R.Party). x.share) (named_there named)

      pub named_brp_lem : (glns_in (drop offset file)).brp_gln ≡ R.brp_gln p
      named_brp_lem = ap R.brp_gln (named_there named)

    module _ (own : R.kind_at (drop offset file) ≡ R.party_kind) where
      pub own_share : share_in (drop offset file) ≡ p.share
      own_share = ap (λ (x : R.Party). x.share) (own_there own)

      pub own_brp_lem : (glns_in (drop offset file)).gln ≡ R.brp_gln p
      own_brp_lem = ap R.brp_gln (own_there own)
