-- No second result fits: each promise of `text` fixes what the lent buffer holds and what is answered.
use mathlib.Core.List.{List}
use mathlib.Core.Path.{◌≡◌, sym, ◌∙◌}
use Prim.Native.Nat.{ℕ}
use Rattle.text.specs.Text.{Put}

-- a text put at a place: the buffer, and the place after it
pub put_once : {text before a b : List ℕ} {place m n : ℕ} → Put text before place a m → Put text before place b n → (a ≡ b) × (m ≡ n)
put_once p q = (p.is ∙ sym q.is, p.ends ∙ sym q.ends)
