-- What the readers of an accepted file's fields give, in the month that the file is read as: for the crates above.
use mathlib.Core.Bool.{true}
use mathlib.Core.List.{List, []}
use mathlib.Core.Path.{◌≡◌, sym, ◌∙◌, ap}
use Prim.Native.Nat.{ℕ, ◌<◌}
use native.Mathlib.Omega.{arith}
use lib.IntN.{ℤ}
use lib.ListN.{length}
use Rattle.std.specs.Option.{unwrap_or}
use Rattle.std.specs.Prelude.{Option, Some, None}
use Rattle.gln.specs.Gln.{gln_answer}
use Rattle.record.specs.Record.{flows_of}
use Rattle.record.specs.declared.Flows as CFlows
use Rattle.file_sections.specs.declared.Sections.{Sections}
use Rattle.file_sections.specs.Walk.{Accepted}
use Rattle.file_sections.proofs.AcceptedFile.{read_as, month_whole, parties_are}
use Rattle.file_fields.specs.Fields.{PartyAsked, FixedIs, RefixedIs, PriceIs, ShareIs, GlnIs, BrpGlnIs, BrpNumberIs}
use Rattle.rules.specs.Gln.{digits_onto, valid_gln}
use Rattle.rules.specs.Limits.{gln_digits}
use Rattle.rules.specs.Brp.{brp_of}
use Rattle.rules.specs.Month.{month_of, flows_at, party_at, price_at, share_of}
use Rattle.rules.specs.MonthFile.{P}
use Rattle.rules.specs.Record.{own_brp, brp_gln}
use Rattle.rules.specs.Setting.{optional}
use Rattle.rules.proofs.RoundTrip.{valid_length}
use Rattle.rules.proofs.Whole.{every_at, PartyRight}

module _ (file : List ℕ) (s : Sections) (ok : Accepted file s) where
  pub fixed_read : {t : ℕ} {f : CFlows.Flows} → FixedIs file t f → flows_of f ≡ flows_at (month_of file).fixed t
  fixed_read p = p.is optional (month_of file) (read_as optional file s ok)

  pub refixed_read : {t : ℕ} {f : CFlows.Flows} → RefixedIs file t f → flows_of f ≡ flows_at (month_of file).refixed t
  refixed_read p = p.is optional (month_of file) (read_as optional file s ok)

  pub price_read : {t : ℕ} {z : ℤ} → PriceIs file t z → z ≡ price_at (month_of file) t
  price_read p = p.is optional (month_of file) (read_as optional file s ok)

  pub share_read : {i n : ℕ} → ShareIs file i n → n ≡ share_of (month_of file) i
  share_read p = p.is optional (month_of file) (read_as optional file s ok)

  pub gln_read : {i : ℕ} {gln : List ℕ} → GlnIs file i gln → gln ≡ (party_at (month_of file) i).gln
  gln_read p = p.is optional (month_of file) (read_as optional file s ok)

  pub brp_gln_read : {i : ℕ} {gln : List ℕ} → BrpGlnIs file i gln → gln ≡ brp_gln (party_at (month_of file) i)
  brp_gln_read p = p.is optional (month_of file) (read_as optional file s ok)

  pub brp_number_read : {i n : ℕ} → BrpNumberIs file i n → n ≡ brp_of (month_of file) i
  brp_number_read p = p.is optional (month_of file) (read_as optional file s ok)

  -- a party within its rules
  pub party_right : {i : ℕ} → i < P (month_of file) → PartyRight (party_at (month_of file) i)
  unfolding party_at
  party_right {i} b =
      every_at PartyRight (month_of file).parties (month_whole file s ok).parties i (record { gln = []; brp = own_brp; share = 0 })
      (omega (arith, (month_whole file s ok).all_parties))

  -- "GLN (13)"
  pub gln_length : {i : ℕ} → i < P (month_of file) → {gln : List ℕ} → GlnIs file i gln → length gln ≡ gln_digits
  gln_length b {gln} is = ap length (gln_read is) ∙ valid_length _ (party_right b).1

-- THE NUMBER OF A BRP'S GLN: an accepted file's GLNs are valid, so the check gives it
module _ (file : List ℕ) (s : Sections) (i : ℕ) (a : PartyAsked file s i) {gln : List ℕ} (is : BrpGlnIs file i gln) where
  answered : gln_answer gln ≡ Some (digits_onto 0 gln)
  unfolding gln_answer
  answered =
      let right = party_right file s a.accepted {i = i} (omega (arith, a.party, parties_are file s a.accepted)) in
      let valid : valid_gln gln ≡ true = ap valid_gln (brp_gln_read file s a.accepted is) ∙ right.2 in
      rw valid

  pub number_is : {tested : Option ℕ} {n : ℕ} → tested ≡ gln_answer gln → n ≡ unwrap_or tested 0 → BrpNumberIs file i n
  unfolding brp_of
  number_is {tested} e given =
      let same = given ∙ ap (λ (g : Option ℕ). unwrap_or g 0) (e ∙ answered) in
      record { is = λ prices m read. same ∙ ap (digits_onto 0) (is.is prices m read) }

  pub never_invalid : {g : Option ℕ} → g ≡ gln_answer gln → g ≡ None → ⊥
  never_invalid tested e = let both : None ≡ Some (digits_onto 0 gln) = sym e ∙ tested ∙ answered in let z : ◌≡◌ {A = ℕ} 0 1 = cc in omega arith
