-- THE ORDER OF REFUSALS: laws of `first`, by induction on the list, so that they hold for every list of checks.
use mathlib.Core.Bool.{Bool, true, false}
use mathlib.Core.List.{List, [], ◌∷◌, ◌++◌}
use mathlib.Core.Logic.{◌↔◌, ⊎_elim}
use mathlib.Core.Path.{◌≡◌, refl, sym, ◌∙◌, ap, ap₂}
use Prim.Native.Nat.{ℕ, zero, suc, ◌<◌}
use native.Mathlib.Nat.{eq-or-lt_of_le, le_of_suc-le-suc, not-suc-le-zero}
use native.Mathlib.Omega.{arith}
use Rattle.rules.specs.Accepted.{NoneRefuses, FirstRefuses}
use Rattle.rules.specs.Refusals.{Refusal, Verdict, accepted, refused, given, refusal, unless, and_then, first, in_turn, answer, verdict_told}
use Rattle.rules.specs.Words.{figures}

pub refused_not_accepted : {r : Refusal} {place : ℕ} → refused r place ≡ accepted → ⊥
refused_not_accepted e = let z : ◌≡◌ {A = ℕ} 0 1 = cc in omega arith

none_refuses : (checks : List Verdict) → first checks ≡ accepted → NoneRefuses checks
unfolding first and_then
none_refuses [] e = tt
none_refuses (accepted ∷ later) e = (refl, none_refuses later e)
none_refuses (refused r place ∷ later) e = absurd (refused_not_accepted e)

all_accept : (checks : List Verdict) → NoneRefuses checks → first checks ≡ accepted
unfolding first and_then
all_accept [] h = refl
all_accept (accepted ∷ later) h = all_accept later h.1
all_accept (refused r place ∷ later) h = absurd (refused_not_accepted h.0)

-- ACCEPTED EXACTLY WHEN NO REFUSAL APPLIES
pub accepted_exactly : (checks : List Verdict) → (first checks ≡ accepted) ↔ NoneRefuses checks
accepted_exactly checks = (none_refuses checks, all_accept checks)

the_first : (checks : List Verdict) {r : Refusal} {place : ℕ} → first checks ≡ refused r place → FirstRefuses checks r place
unfolding first and_then
the_first [] e = absurd (refused_not_accepted (sym e))
the_first (accepted ∷ later) e =
    let h : FirstRefuses later _ _ = the_first later e in
    record { earlier = accepted ∷ h.earlier; later = h.later; split = ap (λ (l : List Verdict). accepted ∷ l) h.split; none_earlier = (refl, h.none_earlier) }
the_first (refused r place ∷ later) e = record { earlier = []; later = later; split = ap (λ (v : Verdict). v ∷ later) e; none_earlier = tt }

-- the checks before the refusing one count for nothing
past : (earlier later : List Verdict) → NoneRefuses earlier → first (earlier ++ later) ≡ first later
unfolding first and_then
past [] later h = refl
past (accepted ∷ earlier) later h = past earlier later h.1
past (refused r place ∷ earlier) later h = absurd (refused_not_accepted h.0)

it_refuses : (checks : List Verdict) (r : Refusal) (place : ℕ) → FirstRefuses checks r place → first checks ≡ refused r place
unfolding first and_then
it_refuses checks r place h = ap first h.split ∙ past h.earlier (refused r place ∷ h.later) h.none_earlier

-- REFUSED EXACTLY BY THE FIRST CHECK THAT REFUSES, with its number and place
pub refused_exactly : (checks : List Verdict) (r : Refusal) (place : ℕ) → (first checks ≡ refused r place) ↔ FirstRefuses checks r place
refused_exactly checks r place = (the_first checks, it_refuses checks r place)

-- Nothing after a judgement changes it; and it does not matter how three are bracketed.
pub then_accepted : (v : Verdict) → and_then v accepted ≡ v
unfolding and_then
then_accepted accepted = refl
then_accepted (refused r place) = refl

pub then_assoc : (a b c : Verdict) → and_then a (and_then b c) ≡ and_then (and_then a b) c
unfolding and_then
then_assoc accepted b c = refl
then_assoc (refused r place) b c = refl

-- Lists of checks one after the other.
pub first_append : (checks later : List Verdict) → first (checks ++ later) ≡ and_then (first checks) (first later)
unfolding first and_then
first_append [] later = refl
first_append (accepted ∷ checks) later = first_append checks later
first_append (refused r place ∷ checks) later = refl

pub both_accept : (a b : Verdict) → and_then a b ≡ accepted → (a ≡ accepted) × (b ≡ accepted)
unfolding and_then
both_accept accepted b e = (refl, e)
both_accept (refused r place) b e = absurd (refused_not_accepted e)

-- One check for each place: accepted exactly when it accepts at every place.
each_accepts : (n : ℕ) (check : ℕ → Verdict) → in_turn n check ≡ accepted → (i : ℕ) → i < n → check i ≡ accepted
unfolding in_turn figures first and_then
each_accepts zero check e i b = absurd (not-suc-le-zero b)
each_accepts (suc n) check e i b =
    let both : (first (figures n check) ≡ accepted) × (first (check n ∷ []) ≡ accepted) =
    both_accept (first (figures n check)) (first (check n ∷ [])) (sym (first_append (figures n check) (check n ∷ [])) ∙ e) in
    ⊎_elim (λ (same : i ≡ n). rw same (none_refuses (check n ∷ []) both.1).0)
    (λ (less : i < n). each_accepts n check both.0 i less)
    (eq-or-lt_of_le (le_of_suc-le-suc b))

all_in_turn : (n : ℕ) (check : ℕ → Verdict) → ((i : ℕ) → i < n → check i ≡ accepted) → in_turn n check ≡ accepted
unfolding in_turn figures first and_then
all_in_turn zero check h = refl
all_in_turn (suc n) check h =
    first_append (figures n check) (check n ∷ [])
    ∙ rw (all_in_turn n check (λ i b. h i (omega arith))) (all_accept (check n ∷ []) (h n (omega arith), tt))

pub in_turn_exactly : (n : ℕ) (check : ℕ → Verdict) → (in_turn n check ≡ accepted) ↔ ((i : ℕ) → i < n → check i ≡ accepted)
in_turn_exactly n check = (each_accepts n check, all_in_turn n check)

-- a check by a test accepts exactly where the test holds
pub unless_exactly : (test : Bool) (r : Refusal) (place : ℕ) → (unless test r place ≡ accepted) ↔ (test ≡ true)
unfolding unless
unless_exactly true r place = (λ e. refl, λ e. refl)
unless_exactly false r place = (λ e. absurd (refused_not_accepted e), λ e. let z : ◌≡◌ {A = ℕ} 0 1 = cc in absurd (omega arith))

-- A REFUSAL THAT A CHECK NEVER TELLS: where a list refuses so, that check accepts, and a later one refuses
abbrev pub Never : Refusal → Verdict → Type 0
Never r v = (place : ℕ) → v ≡ refused r place → ⊥

pub never_by_test : (r other : Refusal) → (other ≡ r → ⊥) → (test : Bool) (at : ℕ) → Never r (unless test other at)
unfolding unless
never_by_test r other differ true at place e = refused_not_accepted (sym e)
never_by_test r other differ false at place e = differ cc

pub went_past : {r : Refusal} {place : ℕ} (check later : Verdict) → Never r check → and_then check later ≡ refused r place → (check ≡ accepted) × (later ≡ refused r place)
unfolding and_then
went_past accepted later never e = (refl, e)
went_past (refused other at) later never e = absurd (never _ e)

pub never_in_turn : (r : Refusal) (n : ℕ) (check : ℕ → Verdict) → ((i : ℕ) → Never r (check i)) → Never r (in_turn n check)
unfolding in_turn figures first
never_in_turn r zero check never place e = refused_not_accepted (sym e)
never_in_turn r (suc n) check never place e =
    let last = went_past (first (figures n check)) _ (never_in_turn r n check never) (sym (first_append (figures n check) (check n ∷ [])) ∙ e) in
    never n place (sym (then_accepted (check n)) ∙ last.1)

-- WHAT AN ANSWER TELLS of the verdict that it follows: accepted, where it gives a value, and the value is that of the call; else the refusal
pub given_not_refusal : {A : Type 0} {a : A} {r : Refusal} {place : ℕ} → refusal r place ≡ given a → ⊥
given_not_refusal e = let z : ◌≡◌ {A = ℕ} 0 1 = cc in absurd (omega arith)

pub verdict_back : {A : Type 0} (v : Verdict) (a : A) → verdict_told (answer v a) ≡ v
unfolding answer
verdict_back accepted a = refl
verdict_back (refused r place) a = refl

pub given_tells : {A : Type 0} (v : Verdict) (value : A) {a : A} → given a ≡ answer v value → (v ≡ accepted) × (a ≡ value)
unfolding answer
given_tells accepted value e = (refl, cc)
given_tells (refused r place) value e = absurd (given_not_refusal (sym e))

pub refusal_tells : {A : Type 0} (v : Verdict) (value : A) {r : Refusal} {place : ℕ} → refusal r place ≡ answer v value → v ≡ refused r place
unfolding answer
refusal_tells accepted value e = absurd (given_not_refusal e)
refusal_tells (refused x q) value {r} {place} e = let same : x ≡ r = cc in let at : q ≡ place = cc in ap₂ refused same at
