-- A range of signed figures, both of its ends within it.
use Rattle.std.specs.Prelude.{Bool, ◌&&◌, ℤ}
use Rattle.std.specs.Int.Signed.{le_z}

-- lowest .. greatest
unfoldable pub between_ℤ : ℤ → ℤ → ℤ → Bool
between_ℤ lowest greatest z = le_z lowest z && le_z z greatest
