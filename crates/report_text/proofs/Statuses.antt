-- The statuses of an hour: of its fixed figure and, by whether the file has a refixed series, of its applied one.
use mathlib.Core.List.{List}
use mathlib.Core.Logic.{◌⊎◌, ⊎_elim}
use mathlib.Core.Path.{◌≡◌, sym, ◌∙◌, ap}
use Prim.Native.Nat.{ℕ, ◌<◌}
use native.Mathlib.Nat.{pos_of_ne-zero}
use native.Mathlib.Omega.{arith}
use lib.ListN.{length}
use Rattle.month_prepare.proofs.Applied.{those_applied, others_applied}
use Rattle.file_fields.specs.Fields.{FixedAsked, RefixedAsked, FixedIs, RefixedIs}
use Rattle.file_sections.specs.declared.Sections.{Sections}
use Rattle.file_sections.proofs.AcceptedFile.{month_whole, hours_are, refixed_are}
use Rattle.file_fields.proofs.FieldsRead.{fixed_read, refixed_read}
use Rattle.record.specs.declared.Flows as CFlows
use Rattle.rules.specs.Flows.{Flows}
use Rattle.rules.specs.Month.{month_of, flows_at, applied_flows}
use Rattle.rules.specs.MonthFile.{MonthFile, H}

module _ {file : List ℕ} {s : Sections} {t : ℕ} (asked : FixedAsked file s t) where
  abbrev m : MonthFile
  m = month_of file

  pub fixed_status_is : {f : CFlows.Flows} → FixedIs file t f → f.status ≡ (flows_at m.fixed t).status
  fixed_status_is is = ap (λ (x : Flows). x.status) (fixed_read file s asked.accepted is)

  pub none_refixed : s.refixed ≡ 0 → {n : ℕ} → n ≡ (flows_at m.fixed t).status → n ≡ (applied_flows m t).status
  unfolding applied_flows
  none_refixed none is =
      is
      ∙ ap (λ (l : List Flows). (flows_at l t).status)
      (sym (others_applied m.fixed m.refixed (sym (refixed_are file s asked.accepted) ∙ none)))

  module _ (some : s.refixed ≡ 0 → ⊥) where
    any : 0 < length m.refixed
    any = omega (arith, pos_of_ne-zero some, refixed_are file s asked.accepted)

    pub refixed_asked : RefixedAsked file s t
    refixed_asked =
        let all : length m.refixed ≡ H m =
        ⊎_elim (λ (z : length m.refixed ≡ 0). absurd (omega (arith, any))) (λ (h : length m.refixed ≡ H m). h)
        (month_whole file s asked.accepted).none_or_all_refixed in
        record { accepted = asked.accepted; hour = omega (arith, asked.hour, hours_are file s asked.accepted, refixed_are file s asked.accepted) }

    pub all_refixed : {f : CFlows.Flows} → RefixedIs file t f → f.status ≡ (applied_flows m t).status
    unfolding applied_flows
    all_refixed is =
        ap (λ (x : Flows). x.status) (refixed_read file s asked.accepted is)
        ∙ ap (λ (l : List Flows). (flows_at l t).status) (sym (those_applied m.fixed m.refixed any))
