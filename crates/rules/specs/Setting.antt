-- The setting of a call on a whole file: what is said of the month (02, W1 "Do not settle silently on fixed figures"), and of its reading (02, W6 "Quantities
-- first, amounts later").
use Rattle.std.specs.Prelude.{Bool, true, false}

-- "A file with no 06 records shall be refused unless the caller says that the month is provisional.": what the caller says
pub data Setting : Type 0 where
  final : Setting
  provisional : Setting

abbrev pub is_provisional : Setting → Bool
is_provisional final = false
is_provisional provisional = true

-- W6: "A file for the first alone may have no 05 records; the statement program goes on refusing such a file with 3.": whether the reading needs the prices
pub data Prices : Type 0 where
  needed : Prices
  optional : Prices
