-- The places for what is made: enough for every month, and each part that was lent stands first when it is back.
use mathlib.Core.List.{List}
use mathlib.Core.Logic.{⊎_elim}
use mathlib.Core.Path.{◌≡◌, sym, ◌∙◌, ap, subst}
use Prim.Native.Nat.{ℕ, zero, suc, ◌+◌, ◌-◌, ◌≤◌, zero-le}
use native.Mathlib.Nat.{sub-zero, zero-sub, suc-sub-suc}
use borrow.Rule.Slice.PartMut.{mid_of, post_of, put_mid, mid_len, same_len_mid, drop_put}
use native.Mathlib.Omega.{arith}
use lib.ListN.{length, replicate, take, drop, length-replicate}
use lib.Seq.{take_at}
use Rattle.file_sections.specs.Walk.{Accepted}
use Rattle.file_sections.specs.declared.Sections.{Sections}
use Rattle.file_sections.proofs.AcceptedFile.{month_whole, hours_are, parties_are, refixed_are}
use Rattle.setting.specs.declared.Setting.{Setting}
use Rattle.std.specs.Prelude.{Result, Ok, Err}
use Rattle.answer.specs.Said.{said}
use Rattle.answer.specs.declared.Refused.{Refused}
use Rattle.month_prepare.proofs.Hours.{no_figures, given_same}
use Rattle.month_prepare.specs.Checks.{Making, MadeIs, Placed, PreparedIs}
use Rattle.month_prepare.specs.declared.Made.{Made}
use Rattle.month_prepare.specs.declared.Prepared.{Prepared}
use Rattle.rules.specs.Limits.{most_hours, most_parties}
use Rattle.rules.specs.Month.{month_of}
use Rattle.rules.specs.MonthFile.{H, P}
use Rattle.rules.proofs.Whole.{heading_facts}

-- so many places with 0 in them are so many
pub so_many : (n : ℕ) {l : List ℕ} → l ≡ replicate n 0 → length l ≡ n
so_many n e = ap length e ∙ length-replicate n 0

-- and those behind the first n of them are so many fewer
behind : (n places : ℕ) → drop {A = ℕ} n (replicate places 0) ≡ replicate (places - n) 0
behind zero places = ap (λ (k : ℕ). replicate k 0) (sym (sub-zero places))
behind (suc n) zero = ap (λ (k : ℕ). replicate k 0) (sym (zero-sub (suc n)))
behind (suc n) (suc places) = behind n places ∙ ap (λ (k : ℕ). replicate k 0) (sym (suc-sub-suc places n))

-- a part that was lent from the first place on is back: it stands first, and behind it what stood there
pub record Stands (n places : ℕ) (part whole : List ℕ) : Type 0 where
  pub first : take n whole ≡ part
  pub size : length whole ≡ places
  pub past : drop n whole ≡ replicate (places - n) 0

module _ (n : ℕ) (lent part : List ℕ) {places : ℕ} where
  module _ (size : length lent ≡ places) (enough : n ≤ places) (same : length part ≡ length (mid_of 0 (n - 0) lent)) where
    as_many : length part ≡ n
    as_many = same ∙ mid_len 0 n lent (omega (arith, size)) ∙ sub-zero n

    pub still_as_many : length (put_mid 0 (n - 0) lent part) ≡ places
    still_as_many = same_len_mid 0 (n - 0) lent part same ∙ size

    stands_first : take n (put_mid 0 (n - 0) lent part) ≡ part
    stands_first = take_at part (post_of 0 (n - 0) lent) n as_many

    -- and is lent again
    pub lent_again : take (n - 0) (put_mid 0 (n - 0) lent part) ≡ part
    lent_again = ap (λ (k : ℕ). take k (put_mid 0 (n - 0) lent part)) (sub-zero n) ∙ stands_first

  pub stands : lent ≡ replicate places 0 → n ≤ places → length part ≡ length (mid_of 0 (n - 0) lent) → Stands n places part (put_mid 0 (n - 0) lent part)
  stands none enough same =
      let size : length lent ≡ places = so_many places none in
      record {
        first = stands_first size enough same;
        size = still_as_many size enough same;
        past = drop_put 0 n lent part zero-le (omega (arith, size)) (as_many size enough same ∙ sym (sub-zero n)) ∙ ap (λ (l : List ℕ). drop n l) none ∙ behind n places;
      }

module _ (file : List ℕ) (s : Sections) (ok : Accepted file s) where
  pub few_parties : s.heading.parties ≤ most_parties
  unfolding P
  few_parties = omega (arith, parties_are file s ok, (heading_facts (month_of file).heading (month_whole file s ok).head).parties.1)

  pub few_hours : s.heading.hours ≤ most_hours
  unfolding H
  few_hours = omega (arith, hours_are file s ok, (heading_facts (month_of file).heading (month_whole file s ok).head).hours.1)

  pub few_refixed : s.refixed ≤ most_hours
  few_refixed =
      ⊎_elim (λ (z : length (month_of file).refixed ≡ 0). omega (arith, refixed_are file s ok))
      (λ (h : length (month_of file).refixed ≡ H (month_of file)). omega (arith, refixed_are file s ok, hours_are file s ok, few_hours))
      (month_whole file s ok).none_or_all_refixed

  module _ {setting : Setting} {made : Result Made Refused} {f r c b : List ℕ} (is : MadeIs setting (month_of file) made f r c b) where
    -- a check before the hours refuses, and nothing is prepared
    pub none_prepared : {x : Refused} → made ≡ Err x → {p : Result Prepared Refused} → p ≡ Err x → PreparedIs setting file s p
    none_prepared e on =
        record { verdict = ap said on ∙ sym (ap said e) ∙ is.verdict; prepared = λ x g. absurd (no_figures on g) }

    -- none does, and all parts that were lent are back
    pub prepared :
        {given : Made}
        → made ≡ Ok given
        → {fixed refixed curveNumbers begins : List ℕ}
        → Stands s.heading.hours most_hours f fixed
        → Stands s.refixed most_hours r refixed
        → Stands s.heading.hours most_hours c curveNumbers
        → Stands (s.heading.hours + 1) (suc most_hours) b begins
        → PreparedIs setting file s (Ok (record { made = given; fixed_wh = fixed; refixed_wh = refixed; curve = curveNumbers; beginnings = begins }))
    prepared {given} e {fixed} {refixed} {curveNumbers} {begins} f r c b =
        let placed : Placed file s (record { made = given; fixed_wh = fixed; refixed_wh = refixed; curve = curveNumbers; beginnings = begins }) =
        record {
          fixed_places = f.size;
          refixed_places = r.size;
          curve_places = c.size;
          beginnings_places = b.size;
          fixed_past = f.past;
          refixed_past = r.past;
          curve_past = c.past;
          beginnings_past = b.past;
          is = rw (f.first, r.first, c.first, b.first) (is.made given e);
        } in
        record { verdict = sym (ap said e) ∙ is.verdict; prepared = λ x g. subst (Placed file s) (given_same g) placed }

-- the parts of a month's arrays that its hours are walked with
module _ {file : List ℕ} {s : Sections} (ok : Accepted file s) {r : Prepared} (p : Placed file s r) where
  pub fixed_enough : s.heading.hours ≤ length r.fixed_wh
  fixed_enough = omega (arith, p.fixed_places, few_hours file s ok)

  pub refixed_enough : s.refixed ≤ length r.refixed_wh
  refixed_enough = omega (arith, p.refixed_places, few_refixed file s ok)

  pub curve_enough : s.heading.hours ≤ length r.curve
  curve_enough = omega (arith, p.curve_places, few_hours file s ok)

  pub beginnings_enough : s.heading.hours + 1 ≤ length r.beginnings
  beginnings_enough = omega (arith, p.beginnings_places, few_hours file s ok)

  pub as_lent :
      Making (month_of file) r.made
      (take (s.heading.hours - 0) r.fixed_wh) (take (s.refixed - 0) r.refixed_wh)
      (take (s.heading.hours - 0) r.curve) (take (s.heading.hours + 1 - 0) r.beginnings)
  as_lent = rw (sub-zero s.heading.hours, sub-zero s.refixed, sub-zero (s.heading.hours + 1)) p.is
