-- What a loop keeps. One that looks for the first place that refuses: what is left says what the whole says (`Looking`). One that fills a lent list: its
-- beginning is the figures so far (`Filling`). Each need of such a loop is one citation: `look-` or `fill-`, and `start`, `pass` or `next`, `stop`, `end`.
use mathlib.Core.List.{List, [], ◌∷◌, ◌++◌}
use mathlib.Core.Logic.{⊎_elim}
use mathlib.Core.Path.{◌≡◌, refl, sym, ◌∙◌, ap}
use Prim.Native.Nat.{ℕ, zero, suc, ◌+◌, ◌-◌, ◌≤◌, ◌<◌, zero-le}
use native.Mathlib.Nat.{add-suc, add-zero, suc-add, zero-add, sub-zero, eq-or-lt_of_le, le_of_suc-le-suc, not-suc-le-zero}
use native.Mathlib.Numerals.{add-one}
use native.Mathlib.Omega.{arith}
use lib.ListN.{length, get_or, take, set, length-append, length-set, get_or-append}
use lib.Seq.{take-suc-set, take_all, get_or_at}
use Rattle.rules.specs.Refusals.{Refusal, Verdict, accepted, refused, and_then, first, in_turn}
use Rattle.rules.specs.Words.{figures}
use Rattle.rules.proofs.Refusals.{first_append, then_accepted, then_assoc}

-- the checks of k places from i on, the first of them first
pub from_on : (ℕ → Verdict) → ℕ → ℕ → Verdict
from_on check i zero = accepted
from_on check i (suc k) = and_then (check i) (from_on check (suc i) k)

last_of : (check : ℕ → Verdict) (i k : ℕ) → from_on check i (suc k) ≡ and_then (from_on check i k) (check (i + k))
unfolding from_on and_then
last_of check i zero = then_accepted (check i) ∙ ap check (sym (add-zero i))
last_of check i (suc k) =
    ap (and_then (check i)) (last_of check (suc i) k)
    ∙ then_assoc (check i) (from_on check (suc i) k) (check (suc i + k))
    ∙ ap (λ (j : ℕ). and_then (from_on check i (suc k)) (check j)) (suc-add i k ∙ sym (add-suc i k))

from_on_all : (check : ℕ → Verdict) (n : ℕ) → from_on check 0 n ≡ in_turn n check
unfolding from_on in_turn figures first and_then
from_on_all check zero = refl
from_on_all check (suc n) =
    last_of check 0 n ∙ ap (λ (j : ℕ). and_then (from_on check 0 n) (check j)) (zero-add n)
    ∙ ap (λ (v : Verdict). and_then v (check n)) (from_on_all check n)
    ∙ ap (and_then (first (figures n check))) (sym (then_accepted (check n)))
    ∙ sym (first_append (figures n check) (check n ∷ []))

-- A loop at place i of n: what is left says what the whole says.
pub record Looking (check : ℕ → Verdict) (n i : ℕ) : Type 0 where
  pub bound : i ≤ n
  pub left : from_on check i (n - i) ≡ in_turn n check

pub look_start : (check : ℕ → Verdict) (n : ℕ) → Looking check n 0
look_start check n = record { bound = zero-le; left = rw (sub-zero n) (from_on_all check n) }

one_out : (check : ℕ → Verdict) {n i : ℕ} → Looking check n i → i < n → and_then (check i) (from_on check (suc i) (n - suc i)) ≡ in_turn n check
unfolding from_on
one_out check {n} {i} l b =
    let e : n - i ≡ suc (n - suc i) = omega arith in
    ap (from_on check i) (sym e) ∙ l.left

pub look_pass : {check : ℕ → Verdict} {n i : ℕ} → Looking check n i → i < n → check i ≡ accepted → Looking check n (i + 1)
unfolding and_then
look_pass {check} {n} {i} l b e =
    record { bound = omega arith; left = rw (add-one i) (ap (λ (v : Verdict). and_then v (from_on check (suc i) (n - suc i))) (sym e) ∙ one_out check l b) }

pub look_stop : {check : ℕ → Verdict} {n i : ℕ} → Looking check n i → i < n → {r : Refusal} {place : ℕ} → check i ≡ refused r place → in_turn n check ≡ refused r place
unfolding and_then
look_stop {check} {n} {i} l b e = sym (one_out check l b) ∙ ap (λ (v : Verdict). and_then v (from_on check (suc i) (n - suc i))) e

pub look_end : {check : ℕ → Verdict} {n i : ℕ} → Looking check n i → n ≤ i → in_turn n check ≡ accepted
unfolding from_on
look_end {check} {n} {i} l b = let e : n - i ≡ 0 = omega arith in sym l.left ∙ ap (from_on check i) e

-- the figures of a series
pub figures_length : {A : Type 0} (n : ℕ) (f : ℕ → A) → length (figures n f) ≡ n
unfolding figures
figures_length zero f = refl
figures_length (suc n) f = length-append (figures n f) (f n ∷ []) ∙ omega (arith, figures_length n f)

pub figures_at : {A : Type 0} (n : ℕ) (f : ℕ → A) (i : ℕ) (d : A) → i < n → get_or (figures n f) i d ≡ f i
unfolding figures
figures_at zero f i d b = absurd (not-suc-le-zero b)
figures_at (suc n) f i d b =
    ⊎_elim
    (λ (e : i ≡ n). rw e (get_or_at (figures n f) (f n) [] d n (figures_length n f)))
    (λ (l : i < n).
    get_or-append (figures n f) (f n ∷ []) d i (omega (arith, figures_length n f)) ∙ figures_at n f i d l)
    (eq-or-lt_of_le (le_of_suc-le-suc b))

pub figures_cong : {A : Type 0} (n : ℕ) {f g : ℕ → A} → ((i : ℕ) → i < n → f i ≡ g i) → figures n f ≡ figures n g
unfolding figures
figures_cong zero h = refl
figures_cong (suc n) {f} {g} h =
    ap (λ l. l ++ (f n ∷ [])) (figures_cong n {f = f} {g = g} (λ i b. h i (omega arith)))
    ∙ ap (λ x. figures n g ++ (x ∷ [])) (h n (omega arith))

-- A loop that has filled the first i of n places of a lent list.
pub record Filling {A : Type 0} (f : ℕ → A) (n : ℕ) (out : List A) (i : ℕ) : Type 0 where
  pub bound : i ≤ n
  pub size : length out ≡ n
  pub done : take i out ≡ figures i f

pub fill_start : {A : Type 0} (f : ℕ → A) {n : ℕ} {out : List A} → length out ≡ n → Filling f n out 0
unfolding figures
fill_start f {n} {out} e = record { bound = zero-le; size = e; done = refl }

pub fill_next : {A : Type 0} {f : ℕ → A} {n : ℕ} {out : List A} {i : ℕ} {v : A} → Filling f n out i → i < n → v ≡ f i → Filling f n (set out i v) (i + 1)
unfolding figures
fill_next {A} {f} {n} {out} {i} {v} l b e =
    record {
      bound = omega arith;
      size = length-set out i v ∙ l.size;
      done = rw (add-one i) (take-suc-set out i v (omega (arith, l.size)) ∙ ap (λ x. x ++ (v ∷ [])) l.done ∙ ap (λ x. figures i f ++ (x ∷ [])) e);
    }

pub fill_end : {A : Type 0} {f : ℕ → A} {n : ℕ} {out : List A} {i : ℕ} → Filling f n out i → n ≤ i → out ≡ figures n f
fill_end {f = f} {n = n} {out = out} {i = i} l b =
    let e : i ≡ n = omega (arith, l.bound) in
    sym (take_all i out (omega (arith, l.size))) ∙ l.done ∙ ap (λ (k : ℕ). figures k f) e

-- Checks in turn: the same under another name; the last of n + 1 comes after the n before it; those of a + b places are those of the first a, and then those of
-- the b after them.
pub in_turn_cong : (n : ℕ) {f g : ℕ → Verdict} → ((i : ℕ) → i < n → f i ≡ g i) → in_turn n f ≡ in_turn n g
unfolding in_turn
in_turn_cong n {f} {g} same = ap first (figures_cong n {f = f} {g = g} same)

in_turn_last : (check : ℕ → Verdict) (n : ℕ) → in_turn (suc n) check ≡ and_then (in_turn n check) (check n)
unfolding in_turn figures first
in_turn_last check n =
    first_append (figures n check) (check n ∷ []) ∙ ap (and_then (first (figures n check))) (then_accepted (check n))

pub in_turn_split : (check : ℕ → Verdict) (a b : ℕ) → in_turn (a + b) check ≡ and_then (in_turn a check) (in_turn b (λ k. check (a + k)))
unfolding in_turn figures first
in_turn_split check a zero = rw (add-zero a) (sym (then_accepted (in_turn a check)))
in_turn_split check a (suc b) =
    rw (add-suc a b)
    (in_turn_last check (a + b) ∙ ap (λ (v : Verdict). and_then v (check (a + b))) (in_turn_split check a b)
    ∙ sym (then_assoc (in_turn a check) (in_turn b (λ k. check (a + k))) (check (a + b)))
    ∙ ap (and_then (in_turn a check)) (sym (in_turn_last (λ k. check (a + k)) b)))
