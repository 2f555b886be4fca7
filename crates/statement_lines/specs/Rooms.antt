-- The room that each line of the statement takes (01 "The statement program"; W1). The texts themselves stand in the rules.
use Rattle.std.specs.Prelude.{ℕ}

-- the most bytes of a heading line: "area " 5 and 3, " " 1 and a number, "-" 1 and 2; then " hours " 7, " parties " 9 and " estimated " 11, each with a
-- number; then " provisional" 12 and the newline
abbrev pub area_month_room : ℕ
area_month_room = 32

abbrev pub counts_room : ℕ
counts_room = 87

abbrev pub ending_room : ℕ
ending_room = 13

abbrev pub heading_room : ℕ
heading_room = 132

-- the most bytes of a line of columns: a name, a GLN's 13 bytes at most, and two columns of a space and a number; then three columns and the newline
abbrev pub name_energies_room : ℕ
name_energies_room = 55

abbrev pub results_room : ℕ
results_room = 64

abbrev pub columns_room : ℕ
columns_room = 119
