-- A run of checks, one after the other: a test or a pass that refuses ends it with its refusal, one that accepts hands over to the rest.
use mathlib.Core.Bool.{Bool, true, false, not}
use mathlib.Core.List.{List, [], ◌∷◌, ◌++◌}
use mathlib.Core.Path.{◌≡◌, refl, sym, ◌∙◌, ap}
use Prim.Native.Nat.{ℕ}
use native.Mathlib.Omega.{arith}
use Rattle.std.specs.Prelude.{Result, Ok, Err, IsErr, IsErrAnd}
use Rattle.answer.specs.Said.{said}
use Rattle.answer.specs.declared.Refused.{Refused}
use Rattle.rules.specs.Refusals.{Refusal, Verdict, accepted, refused, unless, and_then, first, afterwards}
use Rattle.rules.proofs.Refusals.{first_append}

-- a flag that the code turns round before it tests it
pub flag_off : (b : Bool) → not b ≡ true → b ≡ false
flag_off true e = absurd (let z : ◌≡◌ {A = ℕ} 0 1 = cc in omega arith)
flag_off false e = refl

pub flag_on : (b : Bool) → not b ≡ false → b ≡ true
flag_on true e = refl
flag_on false e = absurd (let z : ◌≡◌ {A = ℕ} 0 1 = cc in omega arith)

-- by a test
pub test_refuses : {b : Bool} {r : Refusal} {place : ℕ} (later : List Verdict) → b ≡ false → refused r place ≡ first (unless b r place ∷ later)
unfolding first and_then unless
test_refuses later e = rw e

-- no check is left
pub none_left : accepted ≡ first []
unfolding first
none_left = refl

pub test_passes : {b : Bool} {v : Verdict} (r : Refusal) (place : ℕ) (later : List Verdict) → b ≡ true → v ≡ first later → v ≡ first (unless b r place ∷ later)
unfolding first and_then unless
test_passes r place later e h = rw e h

-- by a pass over the lists, which gave the answer a
module _ {A : Type 0} {a : Result A Refused} {v : Verdict} (is : said a ≡ v) where
  pub refused_stops : {r : Refused} → a ≡ Err r → (later : Verdict) → said a ≡ and_then v later
  unfolding and_then
  refused_stops e later = ap said e ∙ sym (ap (λ (x : Verdict). and_then x later) (sym is ∙ ap said e))

  pub done_passes : {given : A} → a ≡ Ok given → (later : Verdict) → and_then v later ≡ later
  unfolding and_then
  done_passes e later = ap (λ (x : Verdict). and_then x later) (sym is ∙ ap said e)

-- the same of a list of checks
pub pass_refuses :
    {A : Type 0} {x : Result A Refused} {check : Verdict} {r : Refused} (later : List Verdict)
    → said x ≡ check
    → x ≡ Err r
    → said x ≡ first (check ∷ later)
unfolding first
pass_refuses later e told = refused_stops e told (first later)

pub pass_accepts : {A : Type 0} {x : Result A Refused} {given : A} {check v : Verdict} (later : List Verdict) → said x ≡ check → x ≡ Ok given → v ≡ first later → v ≡ first (check ∷ later)
unfolding first
pass_accepts later e told h = h ∙ sym (done_passes e told (first later))

-- the last of them
pub last_check : (check : Verdict) → check ≡ first (check ∷ [])
unfolding first and_then
last_check accepted = refl
last_check (refused r place) = refl

-- what a pass that accepted has said
pub accepted_by : {A : Type 0} {x : Result A Refused} {given : A} {check : Verdict} → said x ≡ check → x ≡ Ok given → check ≡ accepted
accepted_by e told = sym e ∙ ap said told

-- checks taken together, and those after them
pub grouped : (checks later : List Verdict) → first (first checks ∷ later) ≡ first (checks ++ later)
unfolding first
grouped checks later = sym (first_append checks later)

pub past : (check : Verdict) (l m : List Verdict) → first l ≡ first m → first (check ∷ l) ≡ first (check ∷ m)
unfolding first
past check l m e = ap (and_then check) e

-- a refused call has written nothing
pub unwritten : {A B : Type 0} {x : Result B Refused} {r : Refused} (new old : List A) → x ≡ Err r → old ≡ afterwards (said x) new old
unfolding afterwards
unwritten new old told = rw told

-- one place of a list: what a test that held or failed there says of its check
pub passes : {test b : Bool} (r : Refusal) (i : ℕ) → b ≡ test → not b ≡ false → unless test r i ≡ accepted
unfolding unless
passes {b = b} r i e h = rw (sym e ∙ flag_on b h)

pub stops : {test b : Bool} (r : Refusal) (i : ℕ) → b ≡ test → not b ≡ true → unless test r i ≡ refused r i
unfolding unless
stops {b = b} r i e h = rw (sym e ∙ flag_off b h)

-- what `?` hands on is the refusal that it was given
pub handed : {A : Type 0} {r : Result A Refused} {refused : Refused} → IsErr r × IsErrAnd r (λ y. y ≡ refused) → r ≡ Err refused
handed {r = Ok given} (is, gives) = absurd (let z : ◌≡◌ {A = ℕ} 0 1 = cc in omega arith)
handed {r = Err y} (is, gives) = ap Err gives

-- and so it says what the pass said that refused
pub handed_refuses :
    {A B : Type 0} {x : Result A Refused} {r : Result B Refused} {check : Verdict} {refused : Refused} (later : List Verdict)
    → said x ≡ check
    → x ≡ Err refused
    → r ≡ Err refused
    → said r ≡ first (check ∷ later)
handed_refuses later e told on = ap said on ∙ sym (ap said told) ∙ pass_refuses later e told
