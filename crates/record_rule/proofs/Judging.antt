-- The rule of a record's fields stands once: what the code tests of the fields, with the GLN tested already, is what the rules test.
use mathlib.Core.Bool.{Bool, true, false, cond, ◌&&◌}
use mathlib.Core.List.{List, [], ◌∷◌}
use mathlib.Core.Path.{◌≡◌, refl, sym, ◌∙◌, ap, ap₂}
use Prim.Native.Nat.{ℕ, suc, ◌≤◌, ◌<◌}
use native.Mathlib.Omega.{arith}
use borrow.Author.Tests.{ne_eqb, lt-ltb, le-ltb, le-leb, lt-leb}
use lib.Dec.{leb, ltb, eqb, eqb-suc-zero}
use lib.IntN.{ℤ, pos, negsuc, nat_abs}
use lib.Signed.{le_z}
use mir.Facts.{to_z-of_z}
use mir.Syntax.{w64}
use mir.Val.{SFits, to_z, of_z}
use Rattle.std.specs.Prelude.{Some, None}
use Rattle.std.specs.Option.{is_some}
use Rattle.gln.specs.Gln.{gln_answer}
use Rattle.record.specs.Record.{heading_of, flows_of, Glns, glns, no_glns, glns_in}
use Rattle.record_rule.specs.Judged.{fault_of}
use Rattle.record.specs.declared.Record.{Record}
use Rattle.record.specs.declared.Record.TheVariants.{Heading, Party, FixedHour, Reading, Price, RefixedHour, End}
use Rattle.record.specs.declared.Brp as CBrp
use Rattle.record.specs.declared.Brp.TheVariants.{Own, Named}
use Rattle.record.specs.declared.Heading as CHeading
use Rattle.record.specs.declared.Flows as CFlows
use Rattle.record.specs.declared.Reading as CReading
use Rattle.rules.specs.Flows.{flows_in_range, silent_is_zero}
use Rattle.rules.specs.Gln.{valid_gln, digits_onto}
use Rattle.rules.specs.Limits.{greatest_share, greatest_energy, greatest_price}
use Rattle.rules.specs.Record.{heading_in_range, hour_in_range, checks}
use Rattle.rules.specs.Refusals.{Refusal, Verdict, accepted, refused, gln_fault, span_fault, energy_too_large, out_of_range, unless, and_then, first}
use Rattle.rules.specs.Words.{within_ℤ}
use Rattle.rules.proofs.Refusals.{then_accepted}

-- a test of both ends of a range of signed numbers, on the bits that a signed local holds
pub within_bits : (most : ℕ) (z : ℤ) → SFits w64 z → le_z (negsuc most) (to_z w64 (of_z w64 z)) && le_z (to_z w64 (of_z w64 z)) (pos (suc most)) ≡ within_ℤ (suc most) z
unfolding within_ℤ
within_bits most z f = rw (to_z-of_z f)

-- the bits of 0 are 0, and no others are
pub zero_bits : (z : ℤ) → SFits w64 z → eqb (of_z w64 z) 0 ≡ eqb (nat_abs z) 0
zero_bits (pos n) f = refl
zero_bits (negsuc n) f = rw (eqb-suc-zero n) (ne_eqb (of_z w64 (negsuc n)) 0 (λ e. omega (arith, f.sfits)))

-- an hour field, and the hour's flows
pub hour_is : (hours hour : ℕ) (f : CFlows.Flows) {t : Bool} → t ≡ flows_in_range (flows_of f) && silent_is_zero (flows_of f) → ltb hour hours && t ≡ hour_in_range hours hour (flows_of f)
unfolding hour_in_range
hour_is hours hour f e = ap (λ (x : Bool). ltb hour hours && x) e ∙ and_assoc (ltb hour hours) (flows_in_range (flows_of f)) (silent_is_zero (flows_of f))
  where
    and_assoc : (a b c : Bool) → a && (b && c) ≡ (a && b) && c
    and_assoc true b c = refl
    and_assoc false b c = refl

-- A KIND WITH ONE CHECK: the test that the code made is the rule's
only_check : (x : Refusal) (place : ℕ) {v : Verdict} {t b : Bool} → t ≡ b → v ≡ unless t x place → v ≡ first (unless b x place ∷ [])
unfolding first
only_check x place {v} {t} {b} e h = h ∙ ap (λ (s : Bool). unless s x place) e ∙ sym (then_accepted (unless b x place))

module _ (hours parties place : ℕ) (beside : Glns) {v : Verdict} {t : Bool} (says : v ≡ unless t out_of_range place) where
  pub heading_fault : (h : CHeading.Heading) → t ≡ heading_in_range (heading_of h) → v ≡ fault_of hours parties beside (Heading h) place
  unfolding fault_of checks
  heading_fault h e = only_check out_of_range place e says

  pub fixed_fault : (hour : ℕ) (f : CFlows.Flows) → t ≡ hour_in_range hours hour (flows_of f) → v ≡ fault_of hours parties beside (FixedHour hour f) place
  unfolding fault_of checks
  fixed_fault hour f e = only_check out_of_range place e says

  pub refixed_fault : (hour : ℕ) (f : CFlows.Flows) → t ≡ hour_in_range hours hour (flows_of f) → v ≡ fault_of hours parties beside (RefixedHour hour f) place
  unfolding fault_of checks
  refixed_fault hour f e = only_check out_of_range place e says

  pub price_fault : (hour : ℕ) (p : ℤ) → SFits w64 p → t ≡ ltb hour hours && within_ℤ greatest_price (to_z w64 (of_z w64 p)) → v ≡ fault_of hours parties beside (Price hour p) place
  unfolding fault_of checks
  price_fault hour p f e =
      only_check out_of_range place (e ∙ ap (λ (z : ℤ). ltb hour hours && within_ℤ greatest_price z) (to_z-of_z f)) says

-- what is not asked of a kind does not change its checks: a party's are the same for every H and P, a reading's for every GLN, and an end has none
pub party_anywhere :
    (hours parties place : ℕ) (beside : Glns) (brp : CBrp.Brp) (share : ℕ) → fault_of 0 0 beside (Party brp share) place ≡ fault_of hours parties beside (Party brp share) place
unfolding fault_of checks
party_anywhere hours parties place beside brp share = refl

pub reading_anyhow :
    (hours parties place : ℕ) (beside : Glns) (r : CReading.Reading) → fault_of hours parties no_glns (Reading r) place ≡ fault_of hours parties beside (Reading r) place
unfolding fault_of checks
reading_anyhow hours parties place beside r = refl

pub end_has_none : (hours parties place : ℕ) (beside : Glns) (count : ℕ) → accepted ≡ fault_of hours parties beside (End count) place
unfolding fault_of checks first and_then unless
end_has_none hours parties place beside count = refl

-- a party's with the GLNs that stand in a part
pub party_in_part :
    (hours parties place : ℕ) (part : List ℕ) (brp : CBrp.Brp) (share : ℕ) {gln brp_gln : List ℕ} → gln ≡ (glns_in part).gln → brp_gln ≡ (glns_in part).brp_gln → {v : Verdict}
    → v ≡ fault_of 0 0 (glns gln brp_gln) (Party brp share) place
    → v ≡ fault_of hours parties (glns_in part) (Party brp share) place
party_in_part hours parties place part brp share gln_is brp-is e =
    e ∙ ap₂ (λ (g b : List ℕ). fault_of 0 0 (glns g b) (Party brp share) place) gln_is brp-is ∙ party_anywhere hours parties place (glns_in part) brp share

-- nor do a record's GLNs, where it is no party
pub no_gln_looked_at :
    (hours parties place : ℕ) (beside other : Glns) (r : Record) → ((brp : CBrp.Brp) (share : ℕ) → r ≡ Party brp share → ⊥)
    → fault_of hours parties beside r place ≡ fault_of hours parties other r place
unfolding fault_of checks
no_gln_looked_at hours parties place beside other (Heading h) t = refl
no_gln_looked_at hours parties place beside other (Party brp share) t = absurd (t brp share refl)
no_gln_looked_at hours parties place beside other (FixedHour hour f) t = refl
no_gln_looked_at hours parties place beside other (Reading r) t = refl
no_gln_looked_at hours parties place beside other (Price hour p) t = refl
no_gln_looked_at hours parties place beside other (RefixedHour hour f) t = refl
no_gln_looked_at hours parties place beside other (End count) t = refl

-- whether a GLN is valid, as the check tells it
pub valid_is : (bytes : List ℕ) → is_some (gln_answer bytes) ≡ valid_gln bytes
unfolding gln_answer
valid_is bytes = go (valid_gln bytes)
  where
    go : (v : Bool) → is_some (cond v (Some (digits_onto 0 bytes)) None) ≡ v
    go true = refl
    go false = refl

-- 4 and 5 of a party, test by test
module _ (beside : Glns) (brp : CBrp.Brp) (share place : ℕ) where
  abbrev party_fault : Verdict
  party_fault = fault_of 0 0 beside (Party brp share) place

  pub share_above : greatest_share < share → refused out_of_range place ≡ party_fault
  unfolding fault_of checks first and_then unless
  share_above h = rw (lt-leb share greatest_share h)

  module _ (right : share ≤ greatest_share) {t : Bool} (tested : t ≡ valid_gln beside.gln) where
    pub gln_bad : t ≡ false → refused gln_fault place ≡ party_fault
    unfolding fault_of checks first and_then unless
    gln_bad bad = rw (le-leb share greatest_share right, sym tested, bad)

    module _ (valid : t ≡ true) where
      -- a party that is its own BRP has no other GLN
      pub own_brp_lem : brp ≡ Own → accepted ≡ party_fault
      unfolding fault_of checks first and_then unless
      own_brp_lem is = rw (is, le-leb share greatest_share right, sym tested, valid)

      pub named_brp_lem : brp ≡ Named → {v : Verdict} {b : Bool} → v ≡ unless b gln_fault place → b ≡ valid_gln beside.brp_gln → v ≡ party_fault
      unfolding fault_of checks first and_then unless
      named_brp_lem is {v} {b} says brp-tested =
          rw (is, le-leb share greatest_share right, sym tested, valid)
          (says ∙ ap (λ (x : Bool). cond x accepted (refused gln_fault place)) brp-tested ∙ sym (then_accepted (cond (valid_gln beside.brp_gln) accepted (refused gln_fault place))))

-- 4, 11 and 12 of a reading, test by test
module _ (hours parties place : ℕ) (r : CReading.Reading) where
  abbrev reading_fault : Verdict
  reading_fault = fault_of hours parties no_glns (Reading r) place

  pub no_party : parties ≤ r.party → refused out_of_range place ≡ reading_fault
  unfolding fault_of checks first and_then unless
  no_party h = rw (le-ltb r.party parties h)

  module _ (whose : r.party < parties) where
    pub not_before : r.b ≤ r.a → refused span_fault place ≡ reading_fault
    unfolding fault_of checks first and_then unless
    not_before h = rw (lt-ltb r.party parties whose, le-ltb r.a r.b h)

    module _ (before : r.a < r.b) where
      pub past_the_end : hours < r.b → refused span_fault place ≡ reading_fault
      unfolding fault_of checks first and_then unless
      past_the_end h = rw (lt-ltb r.party parties whose, lt-ltb r.a r.b before, lt-leb r.b hours h)

      module _ (inside : r.b ≤ hours) where
        by_energy : (t : Bool) → leb r.e_wh greatest_energy ≡ t → unless t energy_too_large place ≡ reading_fault
        unfolding fault_of checks first and_then unless
        by_energy t e =
            rw (lt-ltb r.party parties whose, lt-ltb r.a r.b before, le-leb r.b hours inside, e)
            (sym (then_accepted (cond t accepted (refused energy_too_large place))))

        pub too_much : greatest_energy < r.e_wh → refused energy_too_large place ≡ reading_fault
        unfolding unless
        too_much h = by_energy false (lt-leb r.e_wh greatest_energy h)

        pub no_fault : r.e_wh ≤ greatest_energy → accepted ≡ reading_fault
        unfolding unless
        no_fault h = by_energy true (le-leb r.e_wh greatest_energy h)
