-- `file_sections::after_parties` meets its contract: no file has so many parties that their bytes would not fit. Assumes nothing.
use Prim.Native.Nat.{ℕ, ◌*◌, ◌≤◌}
use native.Mathlib.Nat.{mul-le-mul}
use native.Mathlib.Omega.{arith}
use borrow.Author.Rules.{rules}
use Rattle.file_sections.proofs.after_parties.Goals as goal

-- as many parties as a byte can count, of the longest record each
at_most : {size parties : ℕ} → size ≤ 36 → parties ≤ 255 → size * parties ≤ 36 * 255
at_most a b = mul-le-mul a b

pub overflow_mul-result : goal.overflow_mul-result
overflow_mul-result c = record { fits = omega (arith, at_most {parties = c.args.parties} c.requires (search rules)) }
