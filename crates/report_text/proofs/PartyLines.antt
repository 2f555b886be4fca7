-- The line of a party, and the lines of all.
use mathlib.Core.List.{List}
use mathlib.Core.Path.{◌≡◌, refl, ◌∙◌, subst}
use Prim.Native.Nat.{ℕ, ◌≤◌, ◌<◌}
use native.Mathlib.Nat.{le_of_eq}
use native.Mathlib.Omega.{arith}
use lib.IntN.{ℤ, pos}
use lib.ListN.{length, get_or}
use Rattle.report_distances.specs.declared.Distances.{Distances}
use Rattle.report_text.specs.Lines as L
use Rattle.month_prepare.proofs.Preparing.{few_parties}
use Rattle.file_fields.specs.Fields.{PartyAsked, GlnIs}
use Rattle.file_sections.specs.declared.Sections.{Sections}
use Rattle.file_sections.proofs.AcceptedFile.{parties_are}
use Rattle.file_fields.proofs.FieldsRead.{gln_read, gln_length}
use Rattle.rules.specs.HoursReport.{distances_text, distances_line}
use Rattle.rules.specs.Limits.{most_parties}
use Rattle.rules.specs.Month.{month_of}
use Rattle.rules.specs.MonthFile.{P}
use Rattle.rules.specs.Statement.{joined}
use Rattle.rules.specs.Words.{figures}
use Rattle.text.specs.Text.{LinePut, longest_name}

-- A PARTY'S LINE
module _ {file : List ℕ} {s : Sections} {w i : ℕ} {least most : ℤ} (asked : L.PartyAsked file s w i least most) where
  pub gln_asked : PartyAsked file s i
  gln_asked =
      record { accepted = asked.read; party = omega (arith, parties_are file s asked.read, asked.party) }

  pub name_fits : {name : List ℕ} → GlnIs file i name → length name ≤ longest_name
  name_fits is = le_of_eq (gln_length file s asked.read asked.party is)

  pub party_text : {name : List ℕ} → GlnIs file i name → {a b : ℤ} → a ≡ least → b ≡ most → distances_text name a b w ≡ distances_line (month_of file) i
  unfolding distances_line
  party_text {name} is {a} {b} of-a of-b =
      rw (gln_read file s asked.read is, of-a ∙ asked.least_is, of-b ∙ asked.most_is, asked.w_is) refl

-- ALL PARTIES' LINES
module _ {file : List ℕ} {s : Sections} {w : ℕ} {x : Distances} (known : L.Distanced file s w x) where
  n_is : s.heading.parties ≡ P (month_of file)
  n_is = parties_are file s known.read

  pub few : s.heading.parties ≤ most_parties
  few = few_parties file s known.read

  pub party_asked : {i : ℕ} → i < s.heading.parties → {a b : ℤ} → a ≡ get_or x.smallest i (pos 0) → b ≡ get_or x.largest i (pos 0) → L.PartyAsked file s w i a b
  party_asked {i} b of-a of-b =
      let there : i < P (month_of file) = omega (arith, n_is) in
      record {
        read = known.read;
        party = there;
        w_is = known.w_is;
        least_is = of-a ∙ known.smallest_is.below i there;
        most_is = of-b ∙ known.largest_is.below i there;
      }

  pub all_lines :
      {before : List ℕ} {place room : ℕ} {after : List ℕ} {end : ℕ}
      → LinePut (joined (figures s.heading.parties (distances_line (month_of file)))) before place room after end
      → LinePut (L.parties_part (month_of file)) before place room after end
  unfolding L.parties_part
  all_lines {before} {place} {room} {after} {end} l =
      subst (λ (n : ℕ). LinePut (joined (figures n (distances_line (month_of file)))) before place room after end) n_is l
