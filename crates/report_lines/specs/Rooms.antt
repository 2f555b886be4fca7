-- The room that each line of the reviewer's report takes. A number of 64 bits has at most 20 digits, a minus with it.
use Rattle.std.specs.Prelude.{ℕ}

-- the most bytes of an hour's line: the hour 20 and two statuses, each a space and at most 9 bytes; then twice three columns of a space and a number, and
-- the newline
abbrev pub status_word_room : ℕ
status_word_room = 10

abbrev pub hour_statuses_room : ℕ
hour_statuses_room = 40

abbrev pub series_room : ℕ
series_room = 63

abbrev pub hour_room : ℕ
hour_room = 167

-- the most bytes of a party's line: a name, a GLN's 13 bytes at most, two columns of a space, a number, "/" and a number, and the newline
abbrev pub fraction_room : ℕ
fraction_room = 42

abbrev pub distances_room : ℕ
distances_room = 98
