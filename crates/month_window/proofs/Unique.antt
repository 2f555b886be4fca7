-- No second result fits: what `window` promises of the lent places leaves one content, since each place is some party's in some hour of the window.
use mathlib.Core.List.{List}
use mathlib.Core.Logic.{⊎_elim}
use mathlib.Core.Path.{◌≡◌, sym, ◌∙◌, ap}
use Prim.Native.Nat.{ℕ, ◌+◌, ◌*◌, ◌/◌, ◌%◌, ◌<◌}
use native.Mathlib.Nat.{div-add-mod', div-lt_iff_lt-mul, mod-lt, mul-zero, eq-zero-or-pos}
use native.Mathlib.Omega.{arith}
use lib.ListN.{length}
use lib.Seq.{ext_get_or}
use Rattle.month_window.specs.Window.{Window}
use Rattle.rules.specs.Month.{periodised}
use Rattle.rules.specs.MonthFile.{MonthFile, P}
use Rattle.rules.specs.Words.{at}

module _ {m : MonthFile} {start hours : ℕ} where
  -- what stands at the n-th place
  at_place : {w : List ℕ} → Window m start hours w → (n : ℕ) → n < length w → at w n ≡ periodised m (start + n % hours) (n / hours)
  at_place {w} p n b =
      let some : 0 < hours = ⊎_elim (λ (z : hours ≡ 0). absurd (omega (arith, p.size, ap (λ (x : ℕ). P m * x) z, mul-zero (P m)))) (λ (s : 0 < hours). s) (eq-zero-or-pos hours) in
      ap (at w) (sym (div-add-mod' n hours))
      ∙ p.each (n / hours) (n % hours) ((div-lt_iff_lt-mul {k = hours} {x = n} {y = P m} some).1 (omega (arith, p.size))) (mod-lt n some)

  pub window_once : {v w : List ℕ} → Window m start hours v → Window m start hours w → v ≡ w
  unfolding at
  window_once {v} {w} p q =
      ext_get_or 0 v w (p.size ∙ sym q.size) (λ n b. at_place p n b ∙ sym (at_place q n (omega (arith, p.size, q.size))))
