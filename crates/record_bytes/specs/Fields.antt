-- Fields as bytes, by their widths (01 "The month file"): what `record_bytes` writes of a record's fields.
use Rattle.std.specs.Prelude.{List, [], ◌∷◌, ◌++◌, ℕ, ◌+◌, ◌-◌, ℤ, pos, negsuc}
use Rattle.rules.specs.Record.{bytes_of}

-- "two's complement" for the width whose largest number is `top`: `unsigned` of the rules, without a power
unfoldable pub uncomplemented : ℕ → ℤ → ℕ
uncomplemented top (pos n) = n
uncomplemented top (negsuc n) = top - n

-- numbers one after the other, each in its width
unfoldable pub glue : List ℕ → List ℕ → List ℕ
glue [] values = []
glue (width ∷ widths) [] = []
glue (width ∷ widths) (value ∷ values) = bytes_of width value ++ glue widths values

unfoldable pub total : List ℕ → ℕ
total [] = 0
total (width ∷ widths) = width + total widths
