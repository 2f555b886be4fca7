-- The parts of the statement's lines, as one function puts each (01 "The statement program"; 02, W1). The whole lines stand in the rules.
use Rattle.std.specs.Prelude.{List, ◌++◌, ℕ, ℤ}
use Rattle.rules.specs.Statement.{decimal, signed_decimal, digits_of_width, newline, provisional_ending}
use Rattle.rules.specs.Words.{ascii}

-- "area (three digits), year-month"
abbrev pub area_month : ℕ → ℕ → ℕ → List ℕ
area_month area year month = ascii "area " ++ digits_of_width 3 area ++ ascii " " ++ decimal year ++ ascii "-" ++ digits_of_width 2 month

-- "H, P and the number of applied hours with status 2"
abbrev pub counted : ℕ → ℕ → ℕ → List ℕ
counted hours parties estimated =
    ascii " hours " ++ decimal hours ++ ascii " parties " ++ decimal parties ++ ascii " estimated " ++ decimal estimated

-- W1: how the line ends by the number of 06 records, and the newline
abbrev pub ending : ℕ → List ℕ
ending refixed = provisional_ending refixed ++ newline

-- "GLN, distributed, periodised"
abbrev pub name_energies : List ℕ → ℤ → ℕ → List ℕ
name_energies name distributed periodised = name ++ ascii " " ++ signed_decimal distributed ++ ascii " " ++ decimal periodised

-- "loss, difference .. and invoice øre", and the newline
abbrev pub resulting : ℤ → ℤ → ℤ → List ℕ
resulting loss difference ore =
    ascii " " ++ signed_decimal loss ++ ascii " " ++ signed_decimal difference ++ ascii " " ++ signed_decimal ore ++ newline
