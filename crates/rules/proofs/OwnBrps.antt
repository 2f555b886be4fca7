-- THE BRP STATEMENT OF A FILE WHOSE PARTIES ARE THEIR OWN BRPS (02, W5: "A file with 02 records is still read, each party being its own BRP") IS ITS STATEMENT, byte for byte.
-- Its GLNs rise strictly, so each number has its own place at the end, and each BRP the one supplier whose GLN it has.
use mathlib.Core.List.{List, [], ◌∷◌, ◌++◌}
use mathlib.Core.Logic.{⊎_elim}
use mathlib.Core.Path.{◌≡◌, refl, sym, ◌∙◌, ap}
use Prim.Native.Nat.{ℕ, zero, suc, ◌<◌}
use native.Mathlib.Nat.{le_refl, eq-or-lt_of_le, le_of_suc-le-suc, not-suc-le-zero}
use native.Mathlib.Omega.{arith}
use borrow.Author.Tests.{eq-eqb, ne_eqb, le-ltb}
use lib.Dec.{eqb}
use lib.IntN.{ℤ, pos, nat_abs, ◌+ℤ◌, +ℤ_idl, +ℤ_idr}
use lib.ListN.{length, get_or}
use Rattle.rules.specs.Brp.{brp_of, in_its_place, different_ones, brps, supplies_for, only_of, only_of_ℤ, sum_of_brp, sum_of_brp_ℤ, brp_invoice}
use Rattle.rules.specs.Gln.{digits_onto}
use Rattle.rules.specs.Limits.{gln_digits}
use Rattle.rules.specs.Month.{party_at, month_distributed, month_periodised, month_loss, month_difference, invoice, month_verdict}
use Rattle.rules.specs.MonthFile.{MonthFile, P, read_month}
use Rattle.rules.specs.Record.{Party, own_brp, brp_gln, brp_gln_of}
use Rattle.rules.specs.Refusals.{Verdict, accepted, refused, Answer, given, refusal}
use Rattle.rules.specs.Setting.{Setting, needed}
use Rattle.rules.specs.Statement.{digits_of_width, party_line, brp_line, line_for_each, per_party, per_brp, lines_per, statement_lines, judged_statement, answered_statement, statement_per}
use Rattle.rules.specs.Statement.{heading_line, total_line, joined}
use Rattle.rules.specs.WellFormed.{Every, PartyRight, Below, Rising, Whole}
use Rattle.rules.specs.Words.{sum, sum_ℤ, figures}
use Rattle.rules.proofs.Brp.{some_pos, brp_month_distributed_lem, brp_month_periodised_lem, brp_month_loss_lem, brp_month_difference_lem}
use Rattle.rules.proofs.DifferentOnes.{every_weaker, lines_more}
use Rattle.rules.proofs.GlnNumber.{gln_number}
use Rattle.rules.proofs.Integers.{sum_ℤ_zero}
use Rattle.rules.proofs.Lines.{joined_last}
use Rattle.rules.proofs.Loops.{figures_cong}
use Rattle.rules.proofs.Whole.{every_more, every_at, what_is_read_is_whole}

-- a number above all others is put at the end
put_last : (k : ℕ) (l : List ℕ) → Every (λ (n : ℕ). n < k) l → in_its_place k l ≡ l ++ (k ∷ [])
unfolding in_its_place
put_last k [] h = refl
put_last k (first ∷ later) h =
    let b : first < k = h.0 in
    rw (le-ltb k first (omega arith), ne_eqb k first (λ e. omega arith)) (ap (λ (l : List ℕ). first ∷ l) (put_last k later h.1))

every_figure : {A : Type 0} (is : A → Type 0) (n : ℕ) (f : ℕ → A) → ((i : ℕ) → i < n → is (f i)) → Every is (figures n f)
unfolding figures
every_figure is zero f h = tt
every_figure is (suc n) f h = every_more is (figures n f) (f n) (every_figure is n f (λ i b. h i (omega arith))) (h n (le_refl (suc n)))

-- a line for each figure
lines_of_figures : (line : ℕ → List ℕ) (n : ℕ) (of : ℕ → ℕ) → line_for_each line (figures n of) ≡ joined (figures n (λ i. line (of i)))
unfolding line_for_each figures joined
lines_of_figures line zero of = refl
lines_of_figures line (suc n) of =
    lines_more line (figures n of) (of n) ∙ ap (λ (text : List ℕ). text ++ line (of n)) (lines_of_figures line n of)
    ∙ sym (joined_last (figures n (λ i. line (of i))) (line (of n)))

-- NUMBERS THAT RISE
abbrev RisesTo : ℕ → (ℕ → ℕ) → Type 0
RisesTo n of = (i j : ℕ) → i < j → j < n → of i < of j

-- are all different, and stand in their order
all_different : (n : ℕ) (of : ℕ → ℕ) → RisesTo n of → different_ones n of ≡ figures n of
unfolding different_ones figures
all_different zero of rise = refl
all_different (suc n) of rise =
    ap (in_its_place (of n)) (all_different n of (λ i j b c. rise i j b (omega arith)))
    ∙ put_last (of n) (figures n of) (every_figure (λ (k : ℕ). k < of n) n of (λ i b. rise i n b (le_refl (suc n))))

-- and each has one figure
one_figure_ℤ : (n : ℕ) (of : ℕ → ℕ) → RisesTo n of → (figure : ℕ → ℤ) (i : ℕ) → i < n → sum_ℤ n (only_of_ℤ (λ j. eqb (of j) (of i)) figure) ≡ figure i
unfolding sum_ℤ only_of_ℤ
one_figure_ℤ zero of rise figure i b = absurd (not-suc-le-zero b)
one_figure_ℤ (suc n) of rise figure i b =
    ⊎_elim
    (λ (e : i ≡ n).
    rw (e, eq-eqb (of n) (of n) refl)
    (ap (λ (x : ℤ). x +ℤ figure n) (sum_ℤ_zero n (λ j c. rw (ne_eqb (of j) (of n) (λ d. omega (arith, rise j n c (le_refl (suc n)))))))
    ∙ +ℤ_idl (figure n)))
    (λ (l : i < n).
    rw (ne_eqb (of n) (of i) (λ d. omega (arith, rise i n l (le_refl (suc n)))))
    (+ℤ_idr (sum_ℤ n (only_of_ℤ (λ j. eqb (of j) (of i)) figure)) ∙ one_figure_ℤ n of (λ k j c d. rise k j c (omega arith)) figure i l))
    (eq-or-lt_of_le (le_of_suc-le-suc b))

one_figure : (n : ℕ) (of : ℕ → ℕ) → RisesTo n of → (figure : ℕ → ℕ) (i : ℕ) → i < n → sum n (only_of (λ j. eqb (of j) (of i)) figure) ≡ figure i
one_figure n of rise figure i b =
    ap nat_abs (sym (some_pos n (λ j. eqb (of j) (of i)) figure) ∙ one_figure_ℤ n of rise (λ j. pos (figure j)) i b)

-- each party's GLN is below those of all after it, by their places
rising_at : (l : List Party) → Rising l → (i j : ℕ) (d : Party) → i < j → j < length l → Below (get_or l i d) (get_or l j d)
rising_at [] h i j d b c = absurd (not-suc-le-zero c)
rising_at (p ∷ later) h i zero d b c = absurd (not-suc-le-zero b)
rising_at (p ∷ later) h zero (suc j) d b c = every_at (Below p) later h.0 j d (le_of_suc-le-suc c)
rising_at (p ∷ later) h (suc i) (suc j) d b c = rising_at later h.1 i j d (le_of_suc-le-suc b) (le_of_suc-le-suc c)

-- A WHOLE MONTH WHOSE PARTIES ARE THEIR OWN BRPS
module _ (m : MonthFile) (whole : Whole m) (own : Every (λ (p : Party). brp_gln p ≡ p.gln) m.parties) where
  own_number : (i : ℕ) → i < P m → brp_of m i ≡ digits_onto 0 (party_at m i).gln
  unfolding brp_of party_at
  own_number i b = ap (digits_onto 0) (every_at (λ (p : Party). brp_gln p ≡ p.gln) m.parties own i _ (omega (arith, whole.all_parties)))

  numbers_rise : RisesTo (P m) (brp_of m)
  unfolding party_at
  numbers_rise i j b c =
      rw (own_number i (omega arith), own_number j c) (rising_at m.parties whole.rising i j _ b (omega (arith, whole.all_parties)))

  module _ (i : ℕ) (b : i < P m) where
    own_name : digits_of_width gln_digits (brp_of m i) ≡ (party_at m i).gln
    unfolding party_at
    own_name =
        ap (digits_of_width gln_digits) (own_number i b)
        ∙ gln_number (party_at m i).gln (every_at PartyRight m.parties whole.parties i _ (omega (arith, whole.all_parties))).1

    own_sum_ℤ : (figure : ℕ → ℤ) → sum_of_brp_ℤ m (brp_of m i) figure ≡ figure i
    unfolding sum_of_brp_ℤ supplies_for
    own_sum_ℤ figure = one_figure_ℤ (P m) (brp_of m) numbers_rise figure i b

    own_sum : (figure : ℕ → ℕ) → sum_of_brp m (brp_of m i) figure ≡ figure i
    unfolding sum_of_brp supplies_for
    own_sum figure = one_figure (P m) (brp_of m) numbers_rise figure i b

    -- a BRP's line is its supplier's
    own_line : brp_line m (brp_of m i) ≡ party_line m i
    unfolding brp_line party_line brp_invoice
    own_line =
        rw
        (own_name, brp_month_distributed_lem m (brp_of m i), brp_month_periodised_lem m (brp_of m i), brp_month_loss_lem m (brp_of m i), brp_month_difference_lem m (brp_of m i))
        (rw (own_sum_ℤ (month_distributed m), own_sum (month_periodised m), own_sum_ℤ (month_loss m), own_sum_ℤ (month_difference m), own_sum_ℤ (invoice m)))

  own_lines : lines_per per_brp m ≡ lines_per per_party m
  unfolding lines_per brps
  own_lines =
      ap (line_for_each (brp_line m)) (all_different (P m) (brp_of m) numbers_rise) ∙ lines_of_figures (brp_line m) (P m) (brp_of m)
      ∙ ap joined (figures_cong (P m) {f = λ i. brp_line m (brp_of m i)} {g = party_line m} own_line)

  own_judged : (v : Verdict) → judged_statement per_brp m v ≡ judged_statement per_party m v
  unfolding judged_statement statement_lines
  own_judged accepted = ap (λ (lines : List ℕ). heading_line m ++ lines ++ total_line m) own_lines
  own_judged (refused r place) = refl

-- OF A FILE: if it is read as a month whose parties have their BRPs' GLNs
pub own_brps :
    (setting : Setting) (file : List ℕ) → ((m : MonthFile) → read_month needed file ≡ given m → Every (λ (p : Party). brp_gln p ≡ p.gln) m.parties)
    → statement_per per_brp setting file ≡ statement_per per_party setting file
unfolding statement_per answered_statement
own_brps setting file own = go (read_month needed file) refl
  where
    go : (a : Answer MonthFile) → read_month needed file ≡ a → answered_statement per_brp setting a ≡ answered_statement per_party setting a
    go (given m) e = own_judged m (what_is_read_is_whole needed file e) (own m e) (month_verdict setting m)
    go (refusal r place) e = refl

-- OF A FILE OF 02 RECORDS
pub own_brps_of_02 :
    (setting : Setting) (file : List ℕ) → ((m : MonthFile) → read_month needed file ≡ given m → Every (λ (p : Party). p.brp ≡ own_brp) m.parties)
    → statement_per per_brp setting file ≡ statement_per per_party setting file
own_brps_of_02 setting file own =
    own_brps setting file
    (λ m e. every_weaker m.parties (λ p (is-own : p.brp ≡ own_brp). ap (brp_gln_of p.gln) is-own) (own m e))
