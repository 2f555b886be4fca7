-- 17 by the setting; "Then 6": W by the shares that were read, and the carries that are started with them.
use mathlib.Core.List.{List}
use mathlib.Core.Path.{◌≡◌, sym, ◌∙◌, ap, ap₂, subst}
use Prim.Native.Nat.{ℕ, ◌-◌, ◌≤◌, ◌<◌}
use native.Mathlib.Omega.{arith}
use lib.ListN.{length, take}
use borrow.Rule.Slice.PartMut.{mid_of, put_mid}
use Rattle.std.specs.Prelude.{Result, Ok, Err, ⊤}
use Rattle.answer.specs.Said.{said}
use Rattle.answer.specs.declared.Refused.{Refused}
use Rattle.distribute.specs.Good.{Startable, Started}
use Rattle.distribute.specs.declared.Carries.{Carries}
use Rattle.distribute.specs.Shares.{w_verdict, FewShares}
use Rattle.file_sections.specs.Walk.{Accepted}
use Rattle.file_sections.specs.declared.Sections.{Sections}
use Rattle.file_sections.proofs.AcceptedFile.{month_whole, parties_are, refixed_are}
use Rattle.setting.specs.Asked.{asked}
use Rattle.setting.specs.declared.Setting.{Setting}
use Rattle.month_prepare.specs.Checks.{weighed_verdict, WeighedIs}
use Rattle.month_prepare.proofs.Hours.{no_figures, given_same}
use Rattle.month_prepare.proofs.Preparing.{still_as_many, lent_again, few_parties}
use Rattle.rules.specs.Flows.{W}
use Rattle.rules.specs.Limits.{greatest_w, greatest_share, most_parties}
use Rattle.rules.specs.Month.{month_of, party_at, share_of, month_w, refixed_verdict}
use Rattle.rules.specs.MonthFile.{MonthFile, P}
use Rattle.rules.specs.Refusals.{Verdict, and_then, w_out_of_range, unless}
use Rattle.rules.specs.Words.{sum, at, within, figures}
use Rattle.rules.proofs.Loops.{figures_length, figures_at}
use Rattle.rules.proofs.Refusals.{both_accept, unless_exactly}
use Rattle.rules.proofs.Sums.{sum_cong}
use Rattle.rules.proofs.Whole.{every_at, PartyRight, within_is}

-- the first refusal of two
module _ {one : Result ⊤ Refused} (other : Verdict) where
  pub first_refuses : {x : Refused} → one ≡ Err x → {r : Result ⊤ Refused} → r ≡ Err x → said r ≡ and_then (said one) other
  unfolding and_then
  first_refuses e on = rw (e, on)

  pub other_decides : one ≡ Ok tt → other ≡ and_then (said one) other
  unfolding and_then
  other_decides e = rw e

-- the shares that were read into the first of these places, read from there again
module _
    (file : List ℕ) (s : Sections) (ok : Accepted file s) (lent part : List ℕ) (size : length lent ≡ most_parties)
    (same : length part ≡ length (mid_of 0 (s.heading.parties - 0) lent))
    (are : part ≡ figures (P (month_of file)) (share_of (month_of file))) where
  abbrev places : List ℕ
  places = put_mid 0 (s.heading.parties - 0) lent part

  pub places_enough : s.heading.parties ≤ length places
  places_enough = omega (arith, still_as_many s.heading.parties lent part size (few_parties file s ok) same, few_parties file s ok)

  pub read_again : take (s.heading.parties - 0) places ≡ figures (P (month_of file)) (share_of (month_of file))
  read_again =
      lent_again s.heading.parties lent part size (few_parties file s ok) same ∙ are

module _ (file : List ℕ) (s : Sections) (ok : Accepted file s) {shares : List ℕ} (are : shares ≡ figures (P (month_of file)) (share_of (month_of file))) where
  abbrev m : MonthFile
  m = month_of file

  pub shares_many : length shares ≡ P m
  shares_many = ap length are ∙ figures_length (P m) (share_of m)

  share_at : (i : ℕ) → i < P m → at shares i ≡ share_of m i
  unfolding at
  share_at i b = ap (λ (l : List ℕ). at l i) are ∙ figures_at (P m) (share_of m) i 0 b

  share_fits : (i : ℕ) → i < P m → share_of m i ≤ greatest_share
  unfolding share_of party_at
  share_fits i b =
      (every_at PartyRight m.parties (month_whole file s ok).parties i _ (omega (arith, (month_whole file s ok).all_parties))).0

  few : P m ≤ most_parties
  few = omega (arith, parties_are file s ok, few_parties file s ok)

  pub few_shares : FewShares shares
  few_shares =
      record { few = omega (arith, shares_many, few); fit = λ i b. omega (arith, share_at i (omega (arith, shares_many)), share_fits i (omega (arith, shares_many))) }

  pub w_is : W (length shares) (at shares) ≡ month_w m
  unfolding W month_w
  w_is = ap (λ (n : ℕ). sum n (at shares)) shares_many ∙ sum_cong (P m) share_at

  weighed_is : w_verdict shares ≡ unless (within 1 greatest_w (month_w m)) w_out_of_range 0
  unfolding w_verdict
  weighed_is = ap (λ (w : ℕ). unless (within 1 greatest_w w) w_out_of_range 0) w_is

  module _
      (setting : Setting) {by-setting by-w : Verdict} (answer : Result ⊤ Refused)
      (asks : by-setting ≡ refixed_verdict (asked setting) s.refixed)
      (is : by-w ≡ w_verdict shares)
      (tells : said answer ≡ and_then by-setting by-w) where
    verdict_is : said answer ≡ weighed_verdict (asked setting) m
    unfolding weighed_verdict
    verdict_is = tells ∙ ap₂ and_then (asks ∙ ap (refixed_verdict (asked setting)) (refixed_are file s ok)) (is ∙ weighed_is)

    -- the setting or W is refused, and there are no carries
    pub w_refused : {x : Refused} → answer ≡ Err x → {r : Result Carries Refused} → r ≡ Err x → WeighedIs setting m r
    w_refused e on = record { verdict = ap said on ∙ sym (ap said e) ∙ verdict_is; started = λ c f. absurd (no_figures on f) }

    module _ (done : answer ≡ Ok tt) where
      month_w_fits : (1 ≤ month_w m) × (month_w m ≤ greatest_w)
      month_w_fits =
          within_is 1 greatest_w (month_w m) ((unless_exactly _ _ _).0 (sym weighed_is ∙ sym is ∙ (both_accept by-setting by-w (sym tells ∙ ap said done)).1))

      -- the shares have a W that carries can be started with
      pub startable : Startable shares
      startable =
          let some : 0 < W (length shares) (at shares) = omega (arith, w_is, month_w_fits.0) in
          let w_fits : W (length shares) (at shares) ≤ greatest_w = omega (arith, w_is, month_w_fits.1) in
          record { few = omega (arith, shares_many, few); some = some; w_fits = w_fits }

      pub w_started : {c : Carries} → Started shares c → WeighedIs setting m (Ok c)
      w_started {c} started =
          record {
            verdict = sym (ap said done) ∙ verdict_is;
            started = λ d f. subst (λ (x : Carries). Started (figures (P m) (share_of m)) x) (given_same f) (subst (λ (l : List ℕ). Started l c) are started);
          }
