-- 17 by the setting and the number of 06 records.
use mathlib.Core.Path.{◌≡◌, sym, ap}
use Prim.Native.Nat.{ℕ}
use native.Mathlib.Omega.{arith}
use borrow.Author.Tests.{le-leb}
use Rattle.std.specs.Prelude.{Ok, Err}
use Rattle.answer.specs.declared.Refusal.TheVariants.{NotRefixed}
use Rattle.setting.specs.Asked.{asked, Promised}
use Rattle.setting.specs.declared.Setting.{Setting}
use Rattle.setting.specs.declared.Setting.TheVariants.{Final, Provisional}
use Rattle.rules.specs.Month.{refixed_verdict}
use Rattle.rules.specs.Refusals.{unless}

module _ {setting : Setting} (refixed : ℕ) where
  pub provisional_passes : setting ≡ Provisional → Promised setting refixed (Ok tt)
  unfolding refixed_verdict unless
  provisional_passes is = ap (λ (s : Setting). refixed_verdict (asked s) refixed) (sym is)

  pub final_without : setting ≡ Final → refixed ≡ 0 → Promised setting refixed (Err (NotRefixed, 0))
  unfolding refixed_verdict unless
  final_without is none = rw (is, none)

  pub final_with : setting ≡ Final → (refixed ≡ 0 → ⊥) → Promised setting refixed (Ok tt)
  unfolding refixed_verdict unless
  final_with is some = rw (is, le-leb 1 refixed (omega (arith, some)))
