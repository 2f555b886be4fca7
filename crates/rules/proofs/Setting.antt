-- What the setting decides (02, W1): nothing of a month with 06 records; and without them a final run refuses. And what the prices decide (02, W6): nothing of a
-- file that has them; and one without them is refused where they are needed.
use mathlib.Core.Bool.{Bool, true, false, cond}
use mathlib.Core.List.{List, [], ◌∷◌}
use mathlib.Core.Path.{◌≡◌, refl, ◌∙◌, ap}
use Prim.Native.Nat.{ℕ, zero, suc, ◌≤◌}
use native.Mathlib.Omega.{arith}
use borrow.Author.Tests.{leb-true, le-leb}
use lib.Dec.{leb}
use lib.ListN.{length, drop}
use Rattle.rules.specs.Month.{refixed_verdict, month_checks, month_verdict}
use Rattle.rules.specs.MonthFile.{MonthFile, nothing_yet, all_priced, priced_for, with, record_checks, is_end, closed, onward, read_on, read_month}
use Rattle.rules.specs.Record.{Record, heading, party, fixed_hour, reading, price, refixed_hour, end, body_length, record_at}
use Rattle.rules.specs.Refusals.{file_fault, accepted, Verdict, Answer, given, refusal, unless, and_then, first}
use Rattle.rules.specs.Setting.{final, provisional, Prices, needed, optional}
use Rattle.rules.specs.Statement.{Per, answered_statement, judged_statement, statement_per}
use Rattle.rules.proofs.Refusals.{accepted_exactly, unless_exactly}
use Rattle.rules.proofs.Whole.{went_on, of_the_right_length}

-- A FILE IS READ ALIKE with its prices needed or not: what is read where they are needed is read as the same month where they are not
priced_or_not : (prices : Prices) (m : MonthFile) (r : Record) → priced_for prices m r ≡ true → priced_for optional m r ≡ true
unfolding all_priced priced_for
priced_or_not prices m (heading h) e = refl
priced_or_not prices m (party p) e = refl
priced_or_not prices m (fixed_hour hour f) e = refl
priced_or_not prices m (reading r) e = refl
priced_or_not prices m (price hour p) e = refl
priced_or_not prices m (refixed_hour hour f) e = refl
priced_or_not prices m (end count) e = refl

past : (ends : Bool) (a b c : Answer MonthFile) {m : MonthFile} → (b ≡ given m → c ≡ given m) → cond ends a b ≡ given m → cond ends a c ≡ given m
past true a b c on e = e
past false a b c on e = on e

read_on_alike : (prices : Prices) (more : ℕ) (bytes : List ℕ) (n : ℕ) (m : MonthFile) {m' : MonthFile} → read_on prices more bytes n m ≡ given m'
    → read_on optional more bytes n m ≡ given m'
unfolding read_on record_checks onward
read_on_alike prices zero bytes n m e = e
read_on_alike prices (suc more) [] n m e = e
read_on_alike prices (suc more) (kind ∷ body) n m {m'} e =
    let left : List ℕ = drop (body_length kind) body in
    let r : Record = record_at (kind ∷ body) in
    let on = went_on (first (record_checks prices m n (kind ∷ body))) _ e in
    let passed = (accepted_exactly (record_checks prices m n (kind ∷ body))).0 on.0 in
    let priced = (unless_exactly _ _ _).1 (priced_or_not prices m r ((unless_exactly (priced_for prices m r) _ _).0 passed.1.1.1.0)) in
    let passes : first (record_checks optional m n (kind ∷ body)) ≡ accepted =
    (accepted_exactly (record_checks optional m n (kind ∷ body))).1 (passed.0, (passed.1.0, (passed.1.1.0, (priced, passed.1.1.1.1)))) in
    ap (λ (v : Verdict). onward v (cond (is_end r) (closed m (suc n) left) (read_on optional more left (suc n) (with m r)))) passes
    ∙ past (is_end r) (closed m (suc n) left) (read_on prices more left (suc n) (with m r)) (read_on optional more left (suc n) (with m r))
    (read_on_alike prices more left (suc n) (with m r)) on.1

pub read_alike : (prices : Prices) (file : List ℕ) {m : MonthFile} → read_month prices file ≡ given m → read_month optional file ≡ given m
unfolding read_month
read_alike prices file is =
    let fits = of_the_right_length prices file is in
    ap (λ (t : Bool). cond t (read_on optional (length file) file 0 nothing_yet) (refusal file_fault 0)) fits.0
    ∙ read_on_alike prices (length file) file 0 nothing_yet fits.1

-- NOBODY SETTLES SILENTLY ON FIXED FIGURES: a month that a final run accepts has 06 records
pub final_is_refixed : (m : MonthFile) → month_verdict final m ≡ accepted → 1 ≤ length m.refixed
unfolding month_verdict month_checks refixed_verdict
final_is_refixed m ok = leb-true 1 (length m.refixed) ((unless_exactly _ _ _).0 ((accepted_exactly (month_checks final m)).0 ok).0)

-- WITH 06 RECORDS both settings judge alike
judged_alike : (m : MonthFile) → 1 ≤ length m.refixed → month_verdict provisional m ≡ month_verdict final m
unfolding month_verdict month_checks refixed_verdict first and_then unless
judged_alike m some = rw (le-leb 1 (length m.refixed) some)

-- THE PREVIEW IS THE STATEMENT, byte for byte, of every file but one that is read as a month without 06 records
pub preview_is_the_statement :
    (per : Per) (file : List ℕ) → ((m : MonthFile) → read_month needed file ≡ given m → 1 ≤ length m.refixed)
    → statement_per per provisional file ≡ statement_per per final file
unfolding statement_per answered_statement
preview_is_the_statement per file some = go (read_month needed file) refl
  where
    go : (a : Answer MonthFile) → read_month needed file ≡ a → answered_statement per provisional a ≡ answered_statement per final a
    go (given m) e = ap (judged_statement per m) (judged_alike m (some m e))
    go (refusal r place) e = refl
